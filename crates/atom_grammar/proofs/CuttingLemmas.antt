-- Where a text is cut into pieces: each piece of a document is whole, and nothing shorter is.
use Rattle.std.proofs.Common.{◌≡◌, ◌≢◌, ℕ, ◌+◌, ◌<◌, ◌≤◌, ◌^◌, ◌==◌, ℤ, map, arith, List, [], ◌∷◌, ◌++◌, All, true, refl, sym, ap, ◌∙◌, append-nil, append_assoc, false, inl, inr, codes}
use Rattle.std.proofs.lemmas.Bool.{cond_both}
use Rattle.std.proofs.lemmas.Bool.Decides.{nat_tests}
use Rattle.std.proofs.lemmas.List.Elements.{All-from_recursion, All-nil, All-cons, All-append, All-map, All-weaker}
use Rattle.atom_values.specs.Ascii.{lf}
use Rattle.atom_values.specs.Entry.{EntryValue}
use Rattle.atom_values.specs.Escape.{escaped}
use Rattle.chain_links.specs.Address.{IsAddress}
use Rattle.chain_links.specs.Base.{IsBase}
use Rattle.chain_links.specs.declared.address.Address.{Address}
use Rattle.chain_links.specs.declared.address.Address.TheVariants.{Feed, Archive}
use Rattle.chain_links.specs.declared.place.Span.{Span}
use Rattle.deleted_entries.specs.Item.{IsItem, item_number}
use Rattle.deleted_entries.specs.Tombstone.{TombstoneValue}
use Rattle.deleted_entries.specs.declared.item.Item.{Item}
use Rattle.deleted_entries.specs.declared.item.Item.TheVariants.{Kept, Gone}
use Rattle.atom_writer.specs.declared.doc.FeedName.{FeedName}
use Rattle.atom_writer.specs.declared.doc.Kind.{Kind}
use Rattle.atom_writer.specs.declared.doc.Kind.TheVariants.{Subscription, Archive as Sealed}
use Rattle.atom_writer.specs.Doc.{DocValue, IsDoc, IsFeedName}
use Rattle.atom_writer.specs.Entries.{inner_text}
use Rattle.atom_writer.specs.Pieces.{pieces, name_pieces, place_pieces, item_piece, entry_piece, tombstone_piece, own_address, link_piece, prev_pieces, current_pieces, next_pieces, declaration_piece, open_piece, id_piece, title_piece, updated_piece, author_piece, span_piece}
use Rattle.atom_grammar.specs.Cutting.{mark_of, IsWhole, IsCut, IsUnfinished, IsLine}
use Rattle.atom_grammar.specs.FeedParts.{IsKind, IsSpan}
use Rattle.atom_grammar.specs.Parts.{lacks, open_tag}
use Rattle.atom_grammar.specs.Places.{first_pieces}
use Rattle.atom_grammar.proofs.EndTagLemmas.{IsClear-inner}
use Rattle.atom_grammar.proofs.LinePieceLemmas.{id-line, updated-line, link-line, span-line, tombstone-line}
use Rattle.atom_grammar.proofs.MarkLemmas.{lacking_unfinished, split_cases, ends_in, one_line_end, clear_append, clear_lacks, tagged_cut}
use Rattle.atom_grammar.proofs.PairLemmas.{is_kind, is_span}
use Rattle.atom_grammar.proofs.TextLemmas.{no_cut, escaped_lacks_tag}

-- one text is cut in one way
pub cut_alike : (p q x y : List ℕ) → IsCut p → IsCut q → p ++ x ≡ q ++ y → (p ≡ q) × (x ≡ y)
cut_alike p q x y cut_p cut_q e =
    elim (split_cases p x q y e) [
      | inl m ↦
          let none = cut_p.first q m.0 m.1 cut_q.whole in
          (m.1 ∙ ap (λ z. q ++ z) none ∙ append-nil q, sym (m.2 ∙ ap (λ z. z ++ x) none))
      | inr m ↦
          let none = cut_q.first p m.0 m.1 cut_p.whole in
          (sym (m.1 ∙ ap (λ z. p ++ z) none ∙ append-nil p), m.2 ∙ ap (λ z. z ++ y) none)
    ]

pub cut_unfinished : (p x text : List ℕ) → IsCut p → IsUnfinished text → text ≢ p ++ x
cut_unfinished p x text cut unfinished e = unfinished p x e cut.whole

pub unfinished_nothing : IsUnfinished []
unfinished_nothing = lacking_unfinished [] refl

line_rest : (text line front back : List ℕ) → IsUnfinished text → IsLine line → text ++ line ≡ front ++ back
    → IsWhole front → back ≡ []
line_rest text line front back unfinished is e whole =
    let end = ends_in text line front back unfinished whole e in
    one_line_end is.front end.middle back is.none (sym is.split ∙ end.rest)

-- a text that goes on for a line
pub cut_line : (text line : List ℕ) → IsUnfinished text → IsLine line → IsWhole (text ++ line) → IsCut (text ++ line)
cut_line text line unfinished is whole = record {
  whole = whole;
  first = λ front back e other. line_rest text line front back unfinished is e other;
}

pub unfinished_line : (text line : List ℕ) → IsUnfinished text → IsLine line → (IsWhole (text ++ line) → ⊥)
    → IsUnfinished (text ++ line)
unfinished_line text line unfinished is not_whole front back e whole =
    let none = line_rest text line front back unfinished is e whole in
    let same : text ++ line ≡ front = e ∙ ap (λ z. front ++ z) none ∙ append-nil front in
    not_whole (rw same whole)

-- a text that goes on without a line end
pub unfinished_rest : (text rest : List ℕ) → IsUnfinished text → lacks lf rest ≡ true → IsUnfinished (text ++ rest)
unfinished_rest text rest unfinished none front back e whole =
    let end = ends_in text rest front back unfinished whole e in
    no_cut lf rest end.middle (lf ∷ back) none (back, refl) end.rest

-- a piece of one line
line_cut : (line : List ℕ) → IsLine line → mark_of line ≡ lf ∷ [] → IsCut line
line_cut line is mark =
    cut_line [] line unfinished_nothing is
    (record { front = is.front; split = is.split ∙ ap (λ z. is.front ++ z) (sym mark) })

pub end-cut : IsCut (codes "</feed>\n")
end-cut = line_cut (codes "</feed>\n") (record { front = codes "</feed>"; split = refl; none = refl }) refl

-- the pieces that may have line ends in their texts
title-cut : (name : FeedName) → IsCut (title_piece name)
title-cut name =
    let title = escaped false name.title in
    tagged_cut (codes "<title>") title (codes "</title>\n") refl (λ rest. refl)
    (clear_append (codes "</title>\n") (codes "<title>") title refl
    (clear_lacks open_tag (codes "/title>\n") title (escaped_lacks_tag false name.title)))

author-cut : (name : FeedName) → IsCut (author_piece name)
author-cut name =
    let author = escaped false name.author in
    let mark = codes "</author>\n" in
    let inner = codes "<name>" ++ author ++ codes "</name>" in
    let cut : IsCut (codes "<author>" ++ inner ++ mark) =
    tagged_cut (codes "<author>") inner mark refl (λ rest. refl)
    (clear_append mark (codes "<author><name>" ++ author) (codes "</name>")
    (clear_append mark (codes "<author><name>") author refl
    (clear_lacks open_tag (codes "/author>\n") author (escaped_lacks_tag false name.author))) refl) in
    rw (← append_assoc (codes "<author><name>" ++ author) (codes "</name>") mark) cut

entry-cut : (name : FeedName) (e : EntryValue) → IsBase name.base → (1 ≤ e.number) × (e.number < 2 ^ 32)
    → IsCut (entry_piece name e)
unfolding entry_piece
entry-cut name e is_base counted =
    tagged_cut (codes "<entry>") (inner_text name e) (codes "</entry>\n") refl (λ rest. refl)
    (clear_append (codes "</entry>\n") (codes "<entry>") (inner_text name e) refl (IsClear-inner name e is_base counted))

tombstone-cut : (name : FeedName) (t : TombstoneValue) → IsCut (tombstone_piece name t)
unfolding tombstone_piece
tombstone-cut name t = line_cut (tombstone_piece name t) (tombstone-line name t) refl

-- of the rules of an item only the range of its number is needed
pub counted-cut : (name : FeedName) → IsBase name.base → (item : Item) → 1 ≤ item_number item
    → item_number item < 2 ^ 32 → IsCut (item_piece name item)
counted-cut name is_base (Kept e) from_one small = entry-cut name e is_base (from_one, small)
counted-cut name is_base (Gone t) from_one small = tombstone-cut name t

pub item-cut : (name : FeedName) → IsFeedName name → (item : Item) → IsItem item → IsCut (item_piece name item)
item-cut name is_name (Kept e) is = entry-cut name e is_name.base (is.whole.counted, is.number)
item-cut name is_name (Gone t) is = tombstone-cut name t

-- the pieces outside the items
link-cut : (rel : List ℕ) (name : FeedName) (to : Address) → lacks lf rel ≡ true → IsBase name.base → IsAddress to
    → IsCut (link_piece rel name to)
unfolding link_piece
link-cut rel name to none is_base is_to =
    line_cut (link_piece rel name to) (link-line rel name to none is_base is_to) refl

declaration-cut : IsCut declaration_piece
unfolding declaration_piece
declaration-cut =
    let front = codes "<?xml version=\"1.0\" encoding=\"utf-8\"?>" in
    line_cut declaration_piece (record { front = front; split = refl; none = refl }) refl

open-cut : IsCut open_piece
unfolding open_piece
open-cut =
    let front = codes "<feed xmlns=\"http://www.w3.org/2005/Atom\""
    ++ codes " xmlns:fh=\"http://purl.org/syndication/history/1.0\""
    ++ codes " xmlns:at=\"http://purl.org/atompub/tombstones/1.0\"" ++ codes " xmlns:app=\"http://www.w3.org/2007/app\""
    ++ codes " xmlns:sp=\"urn:archived-feed:span:1\">" in
    line_cut open_piece (record { front = front; split = refl; none = refl }) refl

id-cut : (id : List ℕ) → IsCut (id_piece id)
unfolding id_piece
id-cut id = line_cut (id_piece id) (id-line id) refl

updated-cut : (updated : ℤ) → IsCut (updated_piece updated)
unfolding updated_piece
updated-cut updated = line_cut (updated_piece updated) (updated-line updated) refl

name_pieces-cut : (name : FeedName) (updated : ℤ) → All IsCut (name_pieces name updated)
unfolding name_pieces
name_pieces-cut name updated =
    All-from_recursion IsCut (name_pieces name updated) (
      declaration-cut,
      (open-cut, (id-cut name.id, (title-cut name, (updated-cut updated, (author-cut name, tt))))),
    )

is_address : (kind : Kind) → IsKind kind → IsAddress (own_address kind)
is_address Subscription is = tt
is_address (Sealed number) is = (is.0, omega (arith, is.1))

current-cut : (name : FeedName) (kind : Kind) → IsBase name.base → All IsCut (current_pieces name kind)
unfolding current_pieces
current-cut name Subscription is_base = All-nil IsCut
current-cut name (Sealed number) is_base =
    All-cons IsCut (link_piece (codes "current") name Feed) [] (link-cut (codes "current") name Feed refl is_base tt)
    (All-nil IsCut)

prev-cut : (name : FeedName) (prev : ℕ) → IsBase name.base → prev < 2 ^ 32 → All IsCut (prev_pieces name prev)
unfolding prev_pieces
prev-cut name prev is_base small =
    let link = link_piece (codes "prev-archive") name (Archive prev) in
    cond_both (prev == 0) [] (link ∷ []) (All IsCut) (λ _. All-nil IsCut)
    (λ e.
    let some : 1 ≤ prev = grind (arith, nat_tests) in
    All-cons IsCut link [] (link-cut (codes "prev-archive") name (Archive prev) refl is_base (some, small))
    (All-nil IsCut))

next-cut : (name : FeedName) (kind : Kind) → IsBase name.base → IsKind kind → All IsCut (next_pieces name kind)
unfolding next_pieces
next-cut name Subscription is_base is = All-nil IsCut
next-cut name (Sealed number) is_base is =
    let mark = codes "<fh:archive/>\n" in
    let link = link_piece (codes "next-archive") name (Archive (number + 1)) in
    All-cons IsCut link (mark ∷ [])
    (link-cut (codes "next-archive") name (Archive (number + 1)) refl is_base (omega arith, omega (arith, is.1)))
    (All-cons IsCut mark [] (line_cut mark (record { front = codes "<fh:archive/>"; split = refl; none = refl }) refl)
    (All-nil IsCut))

span-cut : (span : Span) → IsSpan span → IsCut (span_piece span)
unfolding span_piece
span-cut span is = line_cut (span_piece span) (span-line span is) refl

place_pieces-cut : (name : FeedName) (kind : Kind) (span : Span) (prev : ℕ) → IsBase name.base → IsKind kind
    → IsSpan span → prev < 2 ^ 32 → All IsCut (place_pieces name kind span prev)
unfolding place_pieces
place_pieces-cut name kind span prev is_base is_placed is_span small =
    let own = link_piece (codes "self") name (own_address kind) in
    let current = current_pieces name kind in
    let before = prev_pieces name prev in
    let next = next_pieces name kind in
    All-append IsCut (own ∷ current ++ before ++ next) (span_piece span ∷ [])
    (All-append IsCut (own ∷ current ++ before) next
    (All-append IsCut (own ∷ current) before
    (All-cons IsCut own current
    (link-cut (codes "self") name (own_address kind) refl is_base (is_address kind is_placed))
    (current-cut name kind is_base)) (prev-cut name prev is_base small)) (next-cut name kind is_base is_placed))
    (All-cons IsCut (span_piece span) [] (span-cut span is_span) (All-nil IsCut))

-- the pieces before the items
pub first_pieces-cut : (name : FeedName) (updated : ℤ) (kind : Kind) (span : Span) (prev : ℕ) → IsBase name.base
    → IsKind kind → IsSpan span → prev < 2 ^ 32 → All IsCut (first_pieces name updated kind span prev)
first_pieces-cut name updated kind span prev is_base is_kind is_span small =
    All-append IsCut (name_pieces name updated) (place_pieces name kind span prev) (name_pieces-cut name updated)
    (place_pieces-cut name kind span prev is_base is_kind is_span small)

pub pieces-cut : (d : DocValue) → IsDoc d → All IsCut (pieces d)
unfolding pieces
pieces-cut d is =
    let first = first_pieces d.name d.updated d.kind d.span d.prev in
    let items = map (item_piece d.name) d.items in
    All-append IsCut (first ++ items) (codes "</feed>\n" ∷ [])
    (All-append IsCut first items
    (first_pieces-cut d.name d.updated d.kind d.span d.prev is.name.base
    (is_kind d.kind d.span d.prev is.rules.placed) (is_span d is) is.prev)
    (All-map IsCut (item_piece d.name) d.items
    (All-weaker IsItem (λ item. IsCut (item_piece d.name item)) (item-cut d.name is.name) d.items is.items)))
    (All-cons IsCut (codes "</feed>\n") [] end-cut (All-nil IsCut))
