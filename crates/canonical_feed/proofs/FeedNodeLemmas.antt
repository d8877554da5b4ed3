-- The pieces of a document as content, and its text.
use Rattle.std.proofs.Common.{◌≡◌, ℕ, ◌+◌, ◌<◌, ◌^◌, true, false, List, [], ◌∷◌, ◌++◌, ℤ, map, All, decimal, refl, sym, ap}
use Rattle.std.proofs.Common.{◌∙◌, codes, arith, append_assoc, append-nil}
use Rattle.std.specs.Prelude.{◌==◌, if◌then◌else◌}
use Rattle.std.proofs.lemmas.List.Elements.{All-head, All-tail}
use Rattle.atom_values.specs.Escape.{escaped}
use Rattle.atom_values.specs.Stamp as stamp
use Rattle.chain_links.specs.Address as address
use Rattle.chain_links.specs.Base.{IsBase}
use Rattle.chain_links.specs.declared.address.Address.{Address}
use Rattle.chain_links.specs.declared.address.Address.TheVariants.{Feed, Archive}
use Rattle.chain_links.specs.declared.place.Span.{Span}
use Rattle.deleted_entries.specs.FeedId.{feed_text, member_id}
use Rattle.deleted_entries.specs.Item.{IsItem}
use Rattle.deleted_entries.specs.declared.item.Item.{Item}
use Rattle.deleted_entries.specs.declared.item.Item.TheVariants.{Kept, Gone}
use Rattle.atom_writer.specs.declared.doc.FeedName.{FeedName}
use Rattle.atom_writer.specs.declared.doc.Kind.{Kind}
use Rattle.atom_writer.specs.declared.doc.Kind.TheVariants.{Subscription, Archive as Sealed}
use Rattle.atom_writer.specs.Doc.{DocValue, HasNext, IsDoc}
use Rattle.atom_writer.specs.Entries.{inner_text}
use Rattle.atom_writer.specs.Pieces.{current_pieces, declaration_piece, entry_piece, id_piece, item_piece, joined}
use Rattle.atom_writer.specs.Pieces.{link_piece, name_pieces, next_pieces, open_piece, own_address, place_pieces, prev_pieces}
use Rattle.atom_writer.specs.Pieces.{span_piece, text, tombstone_piece, updated_piece}
use Rattle.atom_writer.proofs.PieceLemmas.{has_next, joined-cons, joined-none, joined-place, text-is}
use Rattle.xml_tokens.specs.Characters.{QName, name_text}
use Rattle.canonical_feed.proofs.CleanLemmas.{IsNumbered, clean_address, clean_decimal, clean_feed, clean_member, clean_stamp}
use Rattle.canonical_feed.proofs.CleanLemmas.{IsClean}
use Rattle.canonical_feed.proofs.DocumentLemmas.{declaration_text, document_text, feed_tag}
use Rattle.canonical_feed.proofs.NodeLemmas.{Node, node_text, tag_text}
use Rattle.canonical_feed.proofs.NodeLemmas.Node.{done, words, empty, full}
use Rattle.canonical_feed.proofs.PartNodeLemmas.{clean_holds, entry_node, entry_node_text, holds, pair_text, plain, raw_holds}
use Rattle.canonical_feed.proofs.PartNodeLemmas.{relation_node, setting}

-- the end of a line
abbrev pub line : Node → Node
line n = words (10 ∷ []) n

abbrev pub head_node : FeedName → ℤ → Node → Node
head_node name updated n =
    line (holds (plain (codes "id")) (codes "urn:uuid:" ++ feed_text name.id)
    (line (holds (plain (codes "title")) name.title
    (line (holds (plain (codes "updated")) (stamp.printed updated)
    (line (full (plain (codes "author")) [] (holds (plain (codes "name")) name.author done) (line n))))))))

abbrev pub link_line : List ℕ → FeedName → Address → Node → Node
link_line rel name to n = relation_node rel (address.printed name.base to) (line n)

abbrev pub current_node : FeedName → Kind → Node → Node
current_node name Subscription n = n
current_node name (Sealed number) n = link_line (codes "current") name Feed n

abbrev pub prev_node : FeedName → ℕ → Node → Node
prev_node name prev n = if prev == 0 then n else link_line (codes "prev-archive") name (Archive prev) n

abbrev pub archive_name : QName
archive_name = record { prefix = codes "fh"; local = codes "archive" }

abbrev pub next_node : FeedName → Kind → Node → Node
next_node name Subscription n = n
next_node name (Sealed number) n =
    link_line (codes "next-archive") name (Archive (number + 1)) (empty archive_name [] (line n))

abbrev pub span_name : QName
span_name = record { prefix = codes "sp"; local = codes "span" }

abbrev pub span_node : Span → Node → Node
span_node span n =
    empty span_name
    (setting (codes "first") (decimal span.first) ∷ setting (codes "last") (decimal span.last) ∷ []) (line n)

abbrev pub place_node : FeedName → Kind → Span → ℕ → Node → Node
place_node name kind span prev n =
    link_line (codes "self") name (own_address kind)
    (current_node name kind (prev_node name prev (next_node name kind (span_node span n))))

abbrev pub tombstone_name : QName
tombstone_name = record { prefix = codes "at"; local = codes "deleted-entry" }

abbrev pub item_node : FeedName → Item → Node → Node
item_node name (Kept e) n = full (plain (codes "entry")) [] (entry_node name e) (line n)
item_node name (Gone t) n =
    empty tombstone_name
    (setting (codes "ref") (member_id name.id t.number) ∷ setting (codes "when") (stamp.printed t.when) ∷ []) (line n)

abbrev pub items_node : FeedName → List Item → Node → Node
items_node name [] n = n
items_node name (i ∷ more) n = item_node name i (items_node name more n)

-- the content of the feed
abbrev pub feed_node : DocValue → Node
feed_node d =
    head_node d.name d.updated (place_node d.name d.kind d.span d.prev (items_node d.name d.items done))

-- ---- their texts

line_text : (n : Node) → node_text (line n) ≡ 10 ∷ node_text n
unfolding escaped
line_text n = refl

open_is : tag_text feed_tag ++ codes "\n" ≡ open_piece
unfolding open_piece escaped
open_is = refl

head_shape : (d l t i1 i i2 v1 v v2 u1 u u2 a1 a a2 n : List ℕ) →
    d ++ l ++ t ++ (l ++ ((i1 ++ i ++ i2) ++ (l ++ ((v1 ++ v ++ v2) ++ (l ++ ((u1 ++ u ++ u2) ++ (l ++ ((a1 ++ a ++ a2)
    ++ (l ++ n)))))))))
    ≡ ((d ++ l) ++ ((t ++ l) ++ ((i1 ++ i ++ (i2 ++ l)) ++ ((v1 ++ v ++ (v2 ++ l)) ++ ((u1 ++ u ++ (u2 ++ l))
    ++ ((a1 ++ a ++ (a2 ++ l)) ++ [])))))) ++ n
head_shape d l t i1 i i2 v1 v v2 u1 u u2 a1 a a2 n = simp (append-nil, append_assoc)

author_shape : (a b v c d n : List ℕ) → a ++ ((b ++ v ++ c) ++ []) ++ d ++ n ≡ ((a ++ b) ++ v ++ (c ++ d)) ++ n
author_shape a b v c d n = simp (append-nil, append_assoc)

head_pieces : (name : FeedName) (updated : ℤ) →
    (declaration_text ++ codes "\n") ++ (open_piece ++ ((codes "<id>" ++ (codes "urn:uuid:" ++ feed_text name.id)
    ++ codes "</id>\n") ++ ((codes "<title>" ++ escaped false name.title ++ codes "</title>\n") ++ ((codes "<updated>"
    ++ stamp.printed updated ++ codes "</updated>\n") ++ ((codes "<author><name>" ++ escaped false name.author
    ++ codes "</name></author>\n") ++ [])))))
    ≡ joined (name_pieces name updated)
unfolding joined name_pieces declaration_piece id_piece updated_piece
head_pieces name updated = refl

head_text : (name : FeedName) (updated : ℤ) (n : Node) →
    declaration_text ++ codes "\n" ++ tag_text feed_tag ++ node_text (head_node name updated n)
    ≡ joined (name_pieces name updated) ++ node_text n
head_text name updated n =
    let author = full (plain (codes "author")) [] (holds (plain (codes "name")) name.author done) (line n) in
    let dated = holds (plain (codes "updated")) (stamp.printed updated) (line author) in
    let titled = holds (plain (codes "title")) name.title (line dated) in
    let id = codes "urn:uuid:" ++ feed_text name.id in
    let behind : node_text (line author)
    ≡ 10 ∷ ((codes "<author><name>" ++ escaped false name.author ++ codes "</name></author>") ++ (10 ∷ node_text n)) =
    line_text author
    ∙ ap (λ x. 10 ∷ x) (ap (λ x. codes "<author>" ++ x ++ codes "</author>" ++ node_text (line n))
    (raw_holds (plain (codes "name")) name.author done)
    ∙ author_shape (codes "<author>") (codes "<name>") (escaped false name.author) (codes "</name>") (codes "</author>")
    (node_text (line n))
    ∙ ap (λ x. (codes "<author><name>" ++ escaped false name.author ++ codes "</name></author>") ++ x) (line_text n)) in
    ap (λ x. declaration_text ++ codes "\n" ++ tag_text feed_tag ++ x)
    (line_text (holds (plain (codes "id")) id (line titled))
    ∙ ap (λ x. 10 ∷ x) (clean_holds (plain (codes "id")) id (line titled) (clean_feed name.id)
    ∙ ap (λ x. (codes "<id>" ++ id ++ codes "</id>") ++ x) (line_text titled
    ∙ ap (λ x. 10 ∷ x) (raw_holds (plain (codes "title")) name.title (line dated)
    ∙ ap (λ x. (codes "<title>" ++ escaped false name.title ++ codes "</title>") ++ x) (line_text dated
    ∙ ap (λ x. 10 ∷ x) (clean_holds (plain (codes "updated")) (stamp.printed updated) (line author) (clean_stamp updated)
    ∙ ap (λ x. (codes "<updated>" ++ stamp.printed updated ++ codes "</updated>") ++ x) behind))))))
    ∙ head_shape declaration_text (codes "\n") (tag_text feed_tag) (codes "<id>") id (codes "</id>") (codes "<title>")
    (escaped false name.title) (codes "</title>") (codes "<updated>") (stamp.printed updated) (codes "</updated>")
    (codes "<author><name>") (escaped false name.author) (codes "</name></author>") (node_text n)
    ∙ ap (λ x. ((declaration_text ++ codes "\n") ++ (x ++ ((codes "<id>" ++ id ++ codes "</id>\n") ++ ((codes "<title>"
    ++ escaped false name.title ++ codes "</title>\n") ++ ((codes "<updated>" ++ stamp.printed updated
    ++ codes "</updated>\n") ++ ((codes "<author><name>" ++ escaped false name.author ++ codes "</name></author>\n")
    ++ [])))))) ++ node_text n) open_is
    ∙ ap (λ x. x ++ node_text n) (head_pieces name updated)

line_shape : (a u b v e l n : List ℕ) → (a ++ u ++ b ++ v ++ e) ++ (l ++ n) ≡ (a ++ u ++ b ++ v ++ (e ++ l)) ++ n
line_shape a u b v e l n = simp append_assoc

-- an empty element with two attributes on a line
pair_line : (name : QName) (a u b v : List ℕ) (n : Node) → IsClean u → IsClean v →
    node_text (empty name (setting a u ∷ setting b v ∷ []) (line n))
    ≡ ((codes "<" ++ name_text name ++ codes " " ++ a ++ codes "=\"") ++ u ++ (codes "\" " ++ b ++ codes "=\"") ++ v
    ++ codes "\"/>\n") ++ node_text n
pair_line name a u b v n is_u is_v =
    let front = codes "<" ++ name_text name ++ codes " " ++ a ++ codes "=\"" in
    let middle = codes "\" " ++ b ++ codes "=\"" in
    pair_text name a u b v (line n) is_u is_v
    ∙ ap (λ x. (front ++ u ++ middle ++ v ++ codes "\"/>") ++ x) (line_text n)
    ∙ line_shape front u middle v (codes "\"/>") (codes "\n") (node_text n)

link_line_text : (rel : List ℕ) (name : FeedName) (to : Address) (n : Node) → IsClean rel → IsBase name.base →
    IsNumbered to → node_text (link_line rel name to n) ≡ link_piece rel name to ++ node_text n
unfolding link_piece
link_line_text rel name to n clean is few =
    pair_line (plain (codes "link")) (codes "rel") rel (codes "href") (address.printed name.base to) n clean
    (clean_address name.base to is few)

current_text : (name : FeedName) (kind : Kind) (n : Node) → IsBase name.base →
    node_text (current_node name kind n) ≡ joined (current_pieces name kind) ++ node_text n
unfolding current_pieces
current_text name Subscription n is = ap (λ x. x ++ node_text n) (sym joined-none)
current_text name (Sealed number) n is =
    link_line_text (codes "current") name Feed n refl is tt
    ∙ ap (λ x. x ++ node_text n) (sym (joined-cons (link_piece (codes "current") name Feed) []
    ∙ ap (λ x. link_piece (codes "current") name Feed ++ x) joined-none ∙ append-nil (link_piece (codes "current") name Feed)))

prev_text : (name : FeedName) (prev : ℕ) (n : Node) → IsBase name.base → prev < 2 ^ 32 →
    node_text (prev_node name prev n) ≡ joined (prev_pieces name prev) ++ node_text n
unfolding prev_pieces
prev_text name prev n is few =
    let link = link_piece (codes "prev-archive") name (Archive prev) in
    elim (prev == 0) as (λ b.
    node_text (if b then n else link_line (codes "prev-archive") name (Archive prev) n)
    ≡ joined (if b then [] else link ∷ []) ++ node_text n) [
      | true ↦ ap (λ x. x ++ node_text n) (sym joined-none)
      | false ↦ link_line_text (codes "prev-archive") name (Archive prev) n refl is few
          ∙ ap (λ x. x ++ node_text n) (sym (joined-cons link [] ∙ ap (λ x. link ++ x) joined-none ∙ append-nil link))
    ]

archive_text : (n : Node) → node_text (empty archive_name [] (line n)) ≡ codes "<fh:archive/>\n" ++ node_text n
archive_text n = ap (λ x. codes "<fh:archive/>" ++ x) (line_text n)

next_text : (name : FeedName) (kind : Kind) (n : Node) → IsBase name.base → HasNext kind →
    node_text (next_node name kind n) ≡ joined (next_pieces name kind) ++ node_text n
unfolding next_pieces
next_text name Subscription n is few = ap (λ x. x ++ node_text n) (sym joined-none)
next_text name (Sealed number) n is few =
    let link = link_piece (codes "next-archive") name (Archive (number + 1)) in
    let mark = codes "<fh:archive/>\n" in
    link_line_text (codes "next-archive") name (Archive (number + 1)) (empty archive_name [] (line n)) refl is
    (omega (arith, few))
    ∙ ap (λ x. link ++ x) (archive_text n)
    ∙ sym (append_assoc link mark (node_text n))
    ∙ ap (λ x. x ++ node_text n) (sym (joined-cons link (mark ∷ []) ∙ ap (λ x. link ++ x) (joined-cons mark []
    ∙ ap (λ x. mark ++ x) joined-none)))

span_text : (span : Span) (n : Node) → span.first < 2 ^ 32 → span.last < 2 ^ 32 →
    node_text (span_node span n) ≡ span_piece span ++ node_text n
unfolding span_piece
span_text span n first last =
    pair_line span_name (codes "first") (decimal span.first) (codes "last") (decimal span.last) n
    (clean_decimal span.first (omega arith)) (clean_decimal span.last (omega arith))

pub own_numbered : (kind : Kind) → HasNext kind → IsNumbered (own_address kind)
own_numbered Subscription few = tt
own_numbered (Sealed number) few = omega (arith, few)

place_shape : (a b c d e n : List ℕ) → a ++ (b ++ (c ++ (d ++ (e ++ n)))) ≡ (a ++ b ++ c ++ d ++ e) ++ n
place_shape a b c d e n = simp append_assoc

place_text : (name : FeedName) (kind : Kind) (span : Span) (prev : ℕ) (n : Node) → IsBase name.base → HasNext kind →
    span.first < 2 ^ 32 → span.last < 2 ^ 32 → prev < 2 ^ 32 →
    node_text (place_node name kind span prev n) ≡ joined (place_pieces name kind span prev) ++ node_text n
place_text name kind span prev n is few first last before =
    let n4 = span_node span n in
    let n3 = next_node name kind n4 in
    let n2 = prev_node name prev n3 in
    let n1 = current_node name kind n2 in
    let own = link_piece (codes "self") name (own_address kind) in
    link_line_text (codes "self") name (own_address kind) n1 refl is (own_numbered kind few)
    ∙ ap (λ x. own ++ x) (current_text name kind n2 is
    ∙ ap (λ x. joined (current_pieces name kind) ++ x) (prev_text name prev n3 is before
    ∙ ap (λ x. joined (prev_pieces name prev) ++ x) (next_text name kind n4 is few
    ∙ ap (λ x. joined (next_pieces name kind) ++ x) (span_text span n first last))))
    ∙ place_shape own (joined (current_pieces name kind)) (joined (prev_pieces name prev))
    (joined (next_pieces name kind)) (span_piece span) (node_text n)
    ∙ ap (λ x. x ++ node_text n) (joined-place name kind span prev)

entry_line : (a i b l n : List ℕ) → a ++ i ++ b ++ (l ++ n) ≡ (a ++ i ++ (b ++ l)) ++ n
entry_line a i b l n = simp append_assoc

item_text : (name : FeedName) (i : Item) (n : Node) → IsBase name.base → IsItem i →
    node_text (item_node name i n) ≡ item_piece name i ++ node_text n
unfolding entry_piece tombstone_piece
item_text name (Kept e) n is good =
    ap (λ x. codes "<entry>" ++ x ++ codes "</entry>" ++ node_text (line n)) (entry_node_text name e is good.number)
    ∙ ap (λ x. codes "<entry>" ++ inner_text name e ++ codes "</entry>" ++ x) (line_text n)
    ∙ entry_line (codes "<entry>") (inner_text name e) (codes "</entry>") (codes "\n") (node_text n)
item_text name (Gone t) n is good =
    pair_line tombstone_name (codes "ref") (member_id name.id t.number) (codes "when") (stamp.printed t.when) n
    (clean_member name.id t.number) (clean_stamp t.when)

items_text : (name : FeedName) (items : List Item) (n : Node) → IsBase name.base → All IsItem items →
    node_text (items_node name items n) ≡ joined (map (item_piece name) items) ++ node_text n
items_text name [] n is good = ap (λ x. x ++ node_text n) (sym joined-none)
items_text name (i ∷ more) n is good =
    item_text name i (items_node name more n) is (All-head IsItem i more good)
    ∙ ap (λ x. item_piece name i ++ x) (items_text name more n is (All-tail IsItem i more good))
    ∙ sym (append_assoc (item_piece name i) (joined (map (item_piece name) more)) (node_text n))
    ∙ ap (λ x. x ++ node_text n) (sym (joined-cons (item_piece name i) (map (item_piece name) more)))

whole_shape : (a b c d : List ℕ) → (a ++ (b ++ (c ++ []))) ++ d ≡ a ++ b ++ c ++ d
whole_shape a b c d = simp (append-nil, append_assoc)

pub kind_next : (d : DocValue) → IsDoc d → HasNext d.kind
kind_next d is = has_next d.kind d.span d.prev is.rules.placed

-- the text of the document
pub feed_node_text : (d : DocValue) → IsDoc d → document_text (feed_node d) ≡ text d
feed_node_text d is =
    let items = items_node d.name d.items done in
    let place = place_node d.name d.kind d.span d.prev items in
    let names = joined (name_pieces d.name d.updated) in
    let places = joined (place_pieces d.name d.kind d.span d.prev) in
    ap (λ x. x ++ codes "</feed>\n")
    (head_text d.name d.updated place
    ∙ ap (λ x. names ++ x) (place_text d.name d.kind d.span d.prev items is.name.base (kind_next d is) is.first is.last is.prev
    ∙ ap (λ x. places ++ x) (items_text d.name d.items done is.name.base is.items)))
    ∙ whole_shape names places (joined (map (item_piece d.name) d.items)) (codes "</feed>\n")
    ∙ text-is d
