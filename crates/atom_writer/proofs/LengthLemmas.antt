-- How long a written text is at most, by the rules that its value keeps. No length comes near the end of a count.
use Rattle.std.proofs.Common.{◌≡◌, ℕ, zero, suc, ◌+◌, ◌*◌, ◌%◌, ◌<◌, ◌≤◌, ◌^◌, List, [], ◌∷◌, ℤ, length, map, All, Bool, true, false, Option, Some, None, IfSome, codes, decimal, get_or, cond, ◌==◌, lit≤, IsTrue, rules, tests, arith, length-append, refl}
use Rattle.std.proofs.lemmas.Fmt.{length-decimal-le}
use Rattle.std.proofs.lemmas.List.Elements.{All-head, All-tail, All-weaker}
use Rattle.std.specs.Prelude.{flat_map, Result, Ok, Err, OnOk, OnErr}
use Rattle.atom_values.specs.declared.category.Category.{Category}
use Rattle.atom_values.specs.declared.link.Link.{Link}
use Rattle.atom_values.specs.declared.person.Person.{Person}
use Rattle.atom_values.specs.declared.text.Text.{Text}
use Rattle.atom_values.specs.declared.text.TextKind.{TextKind}
use Rattle.atom_values.specs.declared.text.TextKind.TheVariants.{Plain, Html}
use Rattle.atom_values.specs.Category.{IsCategory}
use Rattle.atom_values.specs.Entry.{EntryValue, IsEntry, IsText}
use Rattle.atom_values.specs.Escape.{escaped, escaped_byte}
use Rattle.atom_values.specs.Link.{IsLink, has_relation}
use Rattle.atom_values.specs.Listed.{IsListOf}
use Rattle.atom_values.specs.Person.{IsPerson}
use Rattle.atom_values.specs.Stamp as stamp
use Rattle.atom_values.specs.Stamp.{date_text, clock_text, fraction_text, fixed_digits, since_year_zero}
use Rattle.atom_values.specs.XmlText.{IsAtomText}
use Rattle.atom_values.proofs.EscapeLemmas.{length-escaped_byte}
use Rattle.chain_links.specs.Base.{IsBase}
use Rattle.chain_links.specs.declared.place.Span.{Span}
use Rattle.chain_links.specs.Address as address
use Rattle.chain_links.specs.Address.{IsAddress, suffix_text}
use Rattle.chain_links.specs.declared.address.Address.{Address}
use Rattle.chain_links.specs.declared.address.Address.TheVariants.{Feed, Archive, Member}
use Rattle.deleted_entries.specs.FeedId.{member_id}
use Rattle.deleted_entries.specs.Item.{IsItem}
use Rattle.deleted_entries.specs.Tombstone.{TombstoneValue}
use Rattle.deleted_entries.specs.declared.item.Item.{Item}
use Rattle.deleted_entries.specs.declared.item.Item.TheVariants.{Kept, Gone}
use Rattle.deleted_entries.proofs.IdLemmas.{length-by_index}
use Rattle.atom_writer.specs.declared.doc.FeedName.{FeedName}
use Rattle.atom_writer.specs.declared.doc.Kind.{Kind}
use Rattle.atom_writer.specs.declared.doc.Kind.TheVariants.{Subscription, Archive as Sealed}
use Rattle.atom_writer.specs.Doc.{DocValue, IsDoc, IsFeedName, HasNext, is_placed}
use Rattle.atom_writer.specs.Parts.{element, optional_element, person_text, persons_text, attribute, optional_attribute, relation_text, link_text, category_text}
use Rattle.atom_writer.specs.Entries.{open_attributes, construct, optional_construct, edit_link, published_text, front_text, back_text, inner_text}
use Rattle.atom_writer.specs.Members.{shown_authors, member_text, member_open}
use Rattle.atom_writer.specs.Pieces.{entry_piece, tombstone_piece, item_piece, declaration_piece, open_piece, id_piece, updated_piece, name_pieces, link_piece, prev_pieces, current_pieces, next_pieces, own_address, span_piece, joined, text}
use Rattle.atom_writer.proofs.PieceLemmas.{text-is, joined-place, prev_some, has_next}

-- a writer that can't fail, as a count, has the clauses of its success
pub without_failure : {E P : Type 0} (result : Result (Unit {0}) E) → OnErr result ⊥ → OnOk result P → P
without_failure (Ok done) never holds = holds
without_failure (Err fault) never holds = absurd never

-- either of two short texts
cond-short : (b : Bool) (s t : List ℕ) (most : ℕ) → length s ≤ most → length t ≤ most → length (cond b s t) ≤ most
cond-short true s t most first second = first
cond-short false s t most first second = second

-- lists whose texts are short
pub flat_map-short : {X : Type 0} (f : X → List ℕ) (most : ℕ) (xs : List X) → All (λ x. length (f x) ≤ most) xs
    → length (flat_map f xs) ≤ most * length xs
flat_map-short f most [] are = omega arith
flat_map-short f most (x ∷ xs) are =
    let first = All-head (λ y. length (f y) ≤ most) x xs are in
    let rest = flat_map-short f most xs (All-tail (λ y. length (f y) ≤ most) x xs are) in
    simp length-append (omega (arith, first, rest))

escaped-short : (quoted : Bool) (text : List ℕ) → IsAtomText text → length (escaped quoted text) ≤ 393_216
unfolding escaped
escaped-short quoted text is =
    omega (
      arith,
      is.short,
      flat_map-short (escaped_byte quoted) 6 text (λ k d below. length-escaped_byte quoted (get_or text k d)),
    )

element-short : (tag value : List ℕ) → length tag ≤ 16 → IsAtomText value → length (element tag value) ≤ 393_300
unfolding element
element-short tag value short is = simp length-append (omega (arith, escaped-short false value is))

optional_element-short : (tag : List ℕ) (value : Option (List ℕ)) → length tag ≤ 16 → IfSome value IsAtomText
    → length (optional_element tag value) ≤ 393_300
unfolding optional_element
optional_element-short tag None short is = omega arith
optional_element-short tag (Some value) short is = element-short tag value short is

person_text-short : (tag : List ℕ) (person : Person) → length tag ≤ 16 → IsPerson person
    → length (person_text tag person) ≤ 1_200_000
unfolding person_text
person_text-short tag p short is =
    simp length-append
    (omega (
      arith,
      element-short (codes "name") p.name (omega arith) is.name,
      optional_element-short (codes "uri") p.uri (omega arith) is.uri,
      optional_element-short (codes "email") p.email (omega arith) is.email,
    ))

attribute-short : (name value : List ℕ) → length name ≤ 16 → IsAtomText value → length (attribute name value) ≤ 393_300
unfolding attribute
attribute-short name value short is = simp length-append (omega (arith, escaped-short true value is))

optional_attribute-short : (name : List ℕ) (value : Option (List ℕ)) → length name ≤ 16 → IfSome value IsAtomText
    → length (optional_attribute name value) ≤ 393_300
unfolding optional_attribute
optional_attribute-short name None short is = omega arith
optional_attribute-short name (Some value) short is = attribute-short name value short is

relation_text-short : (link : Link) → IsAtomText link.rel → length (relation_text link) ≤ 393_300
unfolding relation_text
relation_text-short link is =
    cond-short (has_relation (codes "alternate") link) [] (attribute (codes "rel") link.rel) 393_300 (omega arith)
    (attribute-short (codes "rel") link.rel (omega arith) is)

link_text-short : (link : Link) → IsLink link → length (link_text link) ≤ 2_400_000
unfolding link_text
link_text-short l is =
    simp length-append
    (omega (
      arith,
      relation_text-short l is.rel,
      attribute-short (codes "href") l.href (omega arith) is.href,
      optional_attribute-short (codes "type") l.media (omega arith) is.media,
      optional_attribute-short (codes "hreflang") l.hreflang (omega arith) is.hreflang,
      optional_attribute-short (codes "title") l.title (omega arith) is.title,
      optional_attribute-short (codes "length") l.length (omega arith) is.length,
    ))

category_text-short : (category : Category) → IsCategory category → length (category_text category) ≤ 1_200_000
unfolding category_text
category_text-short c is =
    simp length-append
    (omega (
      arith,
      attribute-short (codes "term") c.term (omega arith) is.term,
      optional_attribute-short (codes "scheme") c.scheme (omega arith) is.scheme,
      optional_attribute-short (codes "label") c.label (omega arith) is.label,
    ))

open_attributes-short : (kind : TextKind) → length (open_attributes kind) ≤ 16
open_attributes-short Plain = omega arith
open_attributes-short Html = omega arith

construct-short : (tag : List ℕ) (text : Text) → length tag ≤ 16 → IsText text → length (construct tag text) ≤ 393_300
unfolding construct
construct-short tag text short is =
    simp length-append (omega (arith, open_attributes-short text.kind, escaped-short false text.value is))

optional_construct-short : (tag : List ℕ) (text : Option Text) → length tag ≤ 16 → IfSome text IsText
    → length (optional_construct tag text) ≤ 393_300
unfolding optional_construct
optional_construct-short tag None short is = omega arith
optional_construct-short tag (Some text) short is = construct-short tag text short is

fraction_text-short : (millis : ℕ) → length (fraction_text millis) ≤ 4
fraction_text-short millis = cond-short (millis == 0) [] (46 ∷ fixed_digits 3 millis) 4 (omega arith) (lit≤ tt)

pub stamp-short : (z : ℤ) → length (stamp.printed z) ≤ 24
unfolding stamp.printed date_text clock_text
stamp-short z = simp length-append (omega (arith, fraction_text-short (since_year_zero z % 86_400_000 % 1_000)))

published_text-short : (published : Option ℤ) → length (published_text published) ≤ 100
unfolding published_text
published_text-short None = omega arith
published_text-short (Some z) = simp length-append (omega (arith, stamp-short z))

decimal-short : (n : ℕ) → n < 2 ^ 32 → length (decimal n) ≤ 10
decimal-short n below = length-decimal-le 10 n (omega arith) (omega arith) (omega arith)

address-short : (base : List ℕ) (to : Address) → length base ≤ 200 → IsAddress to
    → length (address.printed base to) ≤ 218
unfolding address.printed
address-short base Feed short is = simp length-append (omega arith)
address-short base (Archive n) short is = simp length-append (omega (arith, decimal-short n is.1))
address-short base (Member n) short is = simp length-append (omega (arith, decimal-short n is.1))

edit_link-short : (name : FeedName) (number : ℕ) → length name.base ≤ 200 → 1 ≤ number → number < 2 ^ 32
    → length (edit_link name number) ≤ 300
unfolding edit_link
edit_link-short name number short counted below =
    simp length-append (omega (arith, address-short name.base (Member number) short (counted, below)))

member_id-length : (feed : List ℕ) (number : ℕ) → length (member_id feed number) ≡ 45
unfolding member_id
member_id-length feed number = simp (length-append, length-by_index) (omega arith)

front_text-short : (name : FeedName) (e : EntryValue) → IsEntry e → length (front_text name e) ≤ 400_000
unfolding front_text
front_text-short name e is =
    simp length-append
    (omega (
      arith,
      member_id-length name.id e.number,
      construct-short (codes "title") e.title (omega arith) is.title,
      stamp-short e.updated,
      published_text-short e.published,
      stamp-short e.edited,
    ))

persons_text-short : (tag : List ℕ) (persons : List Person) → length tag ≤ 16 → length persons ≤ 16
    → All IsPerson persons → length (persons_text tag persons) ≤ 20_000_000
persons_text-short tag persons short few are =
    omega (
      arith,
      flat_map-short (person_text tag) 1_200_000 persons
          (All-weaker IsPerson (λ p. length (person_text tag p) ≤ 1_200_000) (λ p is. person_text-short tag p short is)
          persons are),
    )

back_text-short : (name : FeedName) (e : EntryValue) → length name.base ≤ 200 → IsEntry e
    → length (back_text name e) ≤ 190_000_000
unfolding back_text
back_text-short name e short is =
    simp length-append (omega (
      arith,
      persons_text-short (codes "contributor") e.contributors (omega arith) is.contributors.0 is.contributors.1,
      edit_link-short name e.number short is.whole.counted is.number,
      flat_map-short link_text 2_400_000 e.links
          (All-weaker IsLink (λ l. length (link_text l) ≤ 2_400_000) link_text-short e.links is.links.1),
      is.links.0,
      flat_map-short category_text 1_200_000 e.categories
          (All-weaker IsCategory (λ c. length (category_text c) ≤ 1_200_000) category_text-short e.categories
          is.categories.1),
      is.categories.0,
      optional_construct-short (codes "rights") e.rights (omega arith) is.rights,
      optional_construct-short (codes "summary") e.summary (omega arith) is.summary,
      optional_construct-short (codes "content") e.content (omega arith) is.content,
    ))

entry_piece-short : (name : FeedName) (e : EntryValue) → length name.base ≤ 200 → IsEntry e
    → length (entry_piece name e) ≤ 220_000_000
unfolding entry_piece inner_text
entry_piece-short name e short is =
    simp length-append
    (omega (
      arith,
      front_text-short name e is,
      persons_text-short (codes "author") e.authors (omega arith) is.authors.0 is.authors.1,
      back_text-short name e short is,
    ))

-- a count holds the length of an entry's piece
pub entry_piece-counted : (name : FeedName) (e : EntryValue) → IsBase name.base → IsEntry e
    → length (entry_piece name e) < 2 ^ 64
entry_piece-counted name e base is = omega (arith, entry_piece-short name e base.short is)

shown_authors-short : (name : FeedName) (authors : List Person) → (authors ≡ [] → IsAtomText name.author)
    → IsListOf 16 IsPerson authors → length (shown_authors name authors) ≤ 20_000_000
unfolding shown_authors
shown_authors-short name [] author is =
    simp length-append (omega (arith, escaped-short false name.author (author refl)))
shown_authors-short name (person ∷ more) author is =
    persons_text-short (codes "author") (person ∷ more) (omega arith) is.0 is.1

-- a count holds the length of a member document
pub member_text-counted : (name : FeedName) (e : EntryValue) → IsBase name.base
    → (e.authors ≡ [] → IsAtomText name.author) → IsEntry e → length (member_text name e) < 2 ^ 64
unfolding member_text declaration_piece member_open
member_text-counted name e base author is =
    simp length-append
    (omega (
      arith,
      front_text-short name e is,
      shown_authors-short name e.authors author is.authors,
      back_text-short name e base.short is,
    ))

pub tombstone_piece-short : (name : FeedName) (t : TombstoneValue) → length (tombstone_piece name t) ≤ 200
unfolding tombstone_piece
tombstone_piece-short name t = simp length-append (omega (arith, member_id-length name.id t.number, stamp-short t.when))

item_piece-short : (name : FeedName) (item : Item) → length name.base ≤ 200 → IsItem item
    → length (item_piece name item) ≤ 220_000_000
item_piece-short name (Kept e) short is = entry_piece-short name e short is
item_piece-short name (Gone t) short is = omega (arith, tombstone_piece-short name t)

items-short : (name : FeedName) (most : ℕ) (items : List Item) → All
    (λ item. length (item_piece name item) ≤ most) items
    → length (joined (map (item_piece name) items)) ≤ most * length items
unfolding joined
items-short name most [] are = omega arith
items-short name most (item ∷ items) are =
    let first = All-head (λ (i : Item). length (item_piece name i) ≤ most) item items are in
    let rest = items-short name most items
    (All-tail (λ (i : Item). length (item_piece name i) ≤ most) item items are) in
    simp length-append (omega (arith, first, rest))

name_pieces-short : (name : FeedName) (updated : ℤ) → IsFeedName name
    → length (joined (name_pieces name updated)) ≤ 800_000
unfolding joined name_pieces declaration_piece open_piece id_piece updated_piece
name_pieces-short name updated is =
    simp (length-append, length-by_index)
    (omega (
      arith,
      escaped-short false name.title is.title,
      stamp-short updated,
      escaped-short false name.author is.author,
    ))

link_piece-short : (rel : List ℕ) (name : FeedName) (to : Address) → length rel ≤ 16 → length name.base ≤ 200
    → IsAddress to → length (link_piece rel name to) ≤ 300
unfolding link_piece
link_piece-short rel name to small short is = simp length-append (omega (arith, address-short name.base to short is))

prev_pieces-short : (name : FeedName) (prev : ℕ) → length name.base ≤ 200 → prev < 2 ^ 32
    → length (joined (prev_pieces name prev)) ≤ 300
unfolding joined prev_pieces
prev_pieces-short name zero short below = omega arith
prev_pieces-short name (suc n) short below =
    rw (prev_some name (suc n) (λ e. absurd (omega arith)))
    (link_piece-short (codes "prev-archive") name (Archive (suc n)) (omega arith) short (omega arith, below))

own_address-is : (kind : Kind) (span : Span) (prev : ℕ) → IsTrue (is_placed kind span prev)
    → IsAddress (own_address kind)
own_address-is Subscription span prev placed = tt
own_address-is (Sealed number) span prev placed = let next = has_next (Sealed number) span prev placed in
    (search (rules, tests), omega arith)

current_pieces-short : (name : FeedName) (kind : Kind) → length name.base ≤ 200
    → length (joined (current_pieces name kind)) ≤ 300
unfolding joined current_pieces
current_pieces-short name Subscription short = omega arith
current_pieces-short name (Sealed number) short =
    simp length-append (omega (arith, link_piece-short (codes "current") name Feed (omega arith) short tt))

next_pieces-short : (name : FeedName) (kind : Kind) → length name.base ≤ 200 → HasNext kind
    → length (joined (next_pieces name kind)) ≤ 400
unfolding joined next_pieces
next_pieces-short name Subscription short next = omega arith
next_pieces-short name (Sealed number) short next =
    simp length-append
    (omega (
      arith,
      link_piece-short (codes "next-archive") name (Archive (number + 1)) (omega arith) short
          (omega arith, omega arith),
    ))

span_piece-short : (span : Span) → span.first < 2 ^ 32 → span.last < 2 ^ 32 → length (span_piece span) ≤ 100
unfolding span_piece
span_piece-short span first last =
    simp length-append (omega (arith, decimal-short span.first first, decimal-short span.last last))

-- how long a document is at most, by the most bytes of the piece of an item
pub text-short : (d : DocValue) (most : ℕ) → IsDoc d → All (λ item. length (item_piece d.name item) ≤ most) d.items
    → length (text d) ≤ 900_000 + most * length d.items
text-short d most is are =
    let short = is.name.base.short in
    let placed = is.rules.placed in
    rw (← text-is d, ← joined-place d.name d.kind d.span d.prev)
    (simp length-append (omega (
      arith,
      name_pieces-short d.name d.updated is.name,
      link_piece-short (codes "self") d.name (own_address d.kind) (omega arith) short
          (own_address-is d.kind d.span d.prev placed),
      current_pieces-short d.name d.kind short,
      prev_pieces-short d.name d.prev short is.prev,
      next_pieces-short d.name d.kind short (has_next d.kind d.span d.prev placed),
      span_piece-short d.span is.first is.last,
      items-short d.name most d.items are,
    )))

-- a count holds the length of a document
pub text-counted : (d : DocValue) → IsDoc d → length (text d) < 2 ^ 64
text-counted d is =
    let are = All-weaker IsItem (λ item. length (item_piece d.name item) ≤ 220_000_000)
    (λ item is_item. item_piece-short d.name item is.name.base.short is_item) d.items is.items in
    omega (arith, text-short d 220_000_000 is are, is.rules.few, is.rules.room)
