-- The pieces of two documents, compared from the left.
use Rattle.std.proofs.Common.{◌≡◌, ◌≢◌, ℕ, zero, suc, ◌-◌, ◌<◌, ◌≤◌, ◌^◌, List, [], ◌∷◌, ◌++◌, ℤ, map, length, get_or, refl, sym, ap, ◌∙◌, subst, arith, rules, tests, nat_eq, false, IsTrue, codes, All, append_assoc}
use Rattle.std.proofs.lemmas.List.Elements.{All-head, All-tail}
use Rattle.atom_values.specs.Stamp.{IsStamp}
use Rattle.atom_values.specs.XmlText.{IsAtomText}
use Rattle.deleted_entries.specs.FeedId.{IsFeedId}
use Rattle.chain_links.specs.declared.place.Span.{Span}
use Rattle.deleted_entries.specs.Item.{IsItem}
use Rattle.deleted_entries.specs.declared.item.Item.{Item}
use Rattle.deleted_entries.specs.declared.item.Item.TheVariants.{Kept, Gone}
use Rattle.atom_writer.specs.declared.doc.FeedName.{FeedName}
use Rattle.atom_writer.specs.declared.doc.Kind.{Kind}
use Rattle.atom_writer.specs.declared.doc.Kind.TheVariants.{Subscription, Archive as Sealed}
use Rattle.atom_writer.specs.Doc.{DocValue, IsDoc, IsFeedName, is_placed}
use Rattle.atom_writer.specs.Pieces.{pieces, name_pieces, place_pieces, link_piece, prev_pieces, current_pieces, next_pieces, declaration_piece, open_piece, id_piece, updated_piece, span_piece, item_piece, entry_piece, tombstone_piece}
use Rattle.atom_grammar.specs.declared.opening.Own.{Own}
use Rattle.atom_grammar.specs.FeedParts.{own_piece, IsOwn, IsKind, prev_piece, IsArchiveNumber, IsSpan}
use Rattle.atom_grammar.proofs.ValueLemmas.{titled, authored}
use Rattle.atom_grammar.proofs.FeedPieceLemmas.{id-one, title-one, updated-one, author-one, own-one, prev-one, span-one}
use Rattle.atom_grammar.proofs.ItemLemmas.{item-one}
use Rattle.atom_writer.proofs.SameLemmas.{Same, Same-nil, Same-cons, Same-fixed, Same-append, Same-apart}

-- the pieces of the items, and the last
unfoldable pub end_pieces : FeedName → List Item → List (List ℕ)
end_pieces name items = map (item_piece name) items ++ codes "</feed>\n" ∷ []

-- the links of an archive to the documents beside it, and its mark
unfoldable pub archive_links : FeedName → ℕ → ℕ → List (List ℕ)
archive_links name number prev =
    current_pieces name (Sealed number) ++ prev_pieces name prev ++ next_pieces name (Sealed number)

-- the pieces after the link to the document itself
unfoldable pub tail_pieces : FeedName → Kind → Span → ℕ → List Item → List (List ℕ)
tail_pieces name kind span prev items =
    current_pieces name kind ++ prev_pieces name prev ++ next_pieces name kind ++ span_piece span ∷ []
    ++ map (item_piece name) items ++ codes "</feed>\n" ∷ []

abbrev pub own_of : DocValue → Own
own_of d = record { base = d.name.base; kind = d.kind }

pub pieces-is : (d : DocValue)
    → pieces d ≡ declaration_piece ∷ open_piece ∷ id_piece d.name.id ∷ titled d.name.title ∷ updated_piece d.updated ∷
    authored d.name.author ∷ own_piece (own_of d) ∷ tail_pieces d.name d.kind d.span d.prev d.items
unfolding pieces name_pieces place_pieces titled authored own_piece link_piece tail_pieces
pieces-is d = refl

pub prev_pieces-some : (name : FeedName) (prev : ℕ) → 1 ≤ prev → prev_pieces name prev ≡ prev_piece name.base prev ∷ []
unfolding prev_pieces prev_piece link_piece
prev_pieces-some name prev some =
    let e : nat_eq prev 0 ≡ false = search (rules, tests) in
    rw e refl

pub tail-first : (name : FeedName) (span : Span) (items : List Item)
    → tail_pieces name Subscription span 0 items ≡ span_piece span ∷ end_pieces name items
unfolding tail_pieces end_pieces prev_pieces current_pieces next_pieces
tail-first name span items = refl

pub tail-later : (name : FeedName) (span : Span) (prev : ℕ) (items : List Item) → 1 ≤ prev
    → tail_pieces name Subscription span prev items ≡ prev_piece name.base prev ∷ span_piece span ∷ end_pieces name
    items
unfolding tail_pieces end_pieces current_pieces next_pieces
tail-later name span prev items some = rw (prev_pieces-some name prev some) refl

pub tail-archive : (name : FeedName) (number : ℕ) (span : Span) (prev : ℕ) (items : List Item)
    → tail_pieces name (Sealed number) span prev items ≡ archive_links name number prev
    ++ span_piece span ∷ end_pieces name items
unfolding tail_pieces end_pieces archive_links
tail-archive name number span prev items =
    let links = current_pieces name (Sealed number) ++ prev_pieces name prev ++ next_pieces name (Sealed number) in
    append_assoc (links ++ span_piece span ∷ []) (map (item_piece name) items) (codes "</feed>\n" ∷ [])
    ∙ append_assoc links (span_piece span ∷ []) (map (item_piece name) items ++ codes "</feed>\n" ∷ [])

pub item-second : (name : FeedName) (item : Item)
    → (1 < length (item_piece name item)) × (get_or (item_piece name item) 1 0 ≢ 47)
unfolding entry_piece tombstone_piece
item-second name (Kept entry) = (omega arith, λ e. absurd (omega arith))
item-second name (Gone tombstone) = (omega arith, λ e. absurd (omega arith))

-- the items
chain-items : {R : Type 0} (name : FeedName) → IsFeedName name → (xs ys : List Item) → All IsItem xs → All IsItem ys
    → (xs ≡ ys → R) → Same (end_pieces name xs) (end_pieces name ys) R
unfolding end_pieces
chain-items name is [] [] are_xs are_ys value = Same-fixed (codes "</feed>\n") [] [] (Same-nil (value refl))
chain-items name is [] (y ∷ ys) are_xs are_ys value =
    Same-apart (codes "</feed>\n") (item_piece name y) [] (map (item_piece name) ys ++ codes "</feed>\n" ∷ [])
    (omega arith) (λ e. (item-second name y).1 (sym e))
chain-items name is (x ∷ xs) [] are_xs are_ys value =
    Same-apart (item_piece name x) (codes "</feed>\n") (map (item_piece name) xs ++ codes "</feed>\n" ∷ []) []
    (item-second name x).0 (item-second name x).1
chain-items name is (x ∷ xs) (y ∷ ys) are_xs are_ys value =
    Same-cons IsItem (item_piece name) (item-one name is) x y (All-head IsItem x xs are_xs)
    (All-head IsItem y ys are_ys) (map (item_piece name) xs ++ codes "</feed>\n" ∷ [])
    (map (item_piece name) ys ++ codes "</feed>\n" ∷ [])
    (λ same. chain-items name is xs ys (All-tail IsItem x xs are_xs) (All-tail IsItem y ys are_ys)
    (λ e. let both : x ∷ xs ≡ y ∷ ys = cc in value both))

-- an archive follows the one numbered one less
pub placed_prev : (number : ℕ) (span : Span) (prev : ℕ) → IsTrue (is_placed (Sealed number) span prev)
    → prev ≡ number - 1
placed_prev number span prev placed = search (rules, tests)

chain-rest : {R : Type 0} (name : FeedName) → IsFeedName name → (s t : Span) → IsSpan s → IsSpan t
    → (xs ys : List Item) → All IsItem xs → All IsItem ys → (s ≡ t → xs ≡ ys → R)
    → Same (span_piece s ∷ end_pieces name xs) (span_piece t ∷ end_pieces name ys) R
chain-rest name is s t is_s is_t xs ys are_xs are_ys value =
    Same-cons IsSpan span_piece span-one s t is_s is_t (end_pieces name xs) (end_pieces name ys)
    (λ e. chain-items name is xs ys are_xs are_ys (value e))

pub span_prev-apart : (base : List ℕ) (span : Span) (prev : ℕ)
    → (1 < length (span_piece span)) × (1 < length (prev_piece base prev))
    × (get_or (span_piece span) 1 0 ≢ get_or (prev_piece base prev) 1 0)
unfolding span_piece prev_piece link_piece
span_prev-apart base span prev = (omega arith, omega arith, λ e. absurd (omega arith))

-- the pieces after the link to the document itself
chain-tail : {R : Type 0} (name : FeedName) → IsFeedName name → (kind : Kind) (s t : Span) → IsSpan s → IsSpan t
    → (m n : ℕ) → m < 2 ^ 32 → n < 2 ^ 32 → IsTrue (is_placed kind s m) → IsTrue (is_placed kind t n)
    → (xs ys : List Item) → All IsItem xs → All IsItem ys → (s ≡ t → m ≡ n → xs ≡ ys → R)
    → Same (tail_pieces name kind s m xs) (tail_pieces name kind t n ys) R
chain-tail name is Subscription s t is_s is_t zero zero small_m small_n placed_s placed_t xs ys are_xs are_ys value =
    rw (tail-first name s xs, tail-first name t ys)
    (chain-rest name is s t is_s is_t xs ys are_xs are_ys (λ e. value e refl))
chain-tail name is Subscription s t is_s is_t zero (suc n) small_m small_n placed_s placed_t xs ys are_xs are_ys value =
    let apart = span_prev-apart name.base s (suc n) in
    rw (tail-first name s xs, tail-later name t (suc n) ys (omega arith))
    (Same-apart (span_piece s) (prev_piece name.base (suc n)) (end_pieces name xs) (span_piece t ∷ end_pieces name ys)
    apart.0 apart.2)
chain-tail name is Subscription s t is_s is_t (suc m) zero small_m small_n placed_s placed_t xs ys are_xs are_ys value =
    let apart = span_prev-apart name.base t (suc m) in
    rw (tail-later name s (suc m) xs (omega arith), tail-first name t ys)
    (Same-apart (prev_piece name.base (suc m)) (span_piece t) (span_piece s ∷ end_pieces name xs) (end_pieces name ys)
    apart.1 (λ e. apart.2 (sym e)))
chain-tail name is Subscription s t is_s is_t (suc m) (suc n) small_m small_n placed_s placed_t xs ys are_xs are_ys
    value =
    rw (tail-later name s (suc m) xs (omega arith), tail-later name t (suc n) ys (omega arith))
    (Same-cons IsArchiveNumber (prev_piece name.base) (prev-one name.base) (suc m) (suc n) (omega arith, small_m)
    (omega arith, small_n) (span_piece s ∷ end_pieces name xs) (span_piece t ∷ end_pieces name ys)
    (λ same. chain-rest name is s t is_s is_t xs ys are_xs are_ys (λ e. value e same)))
chain-tail name is (Sealed number) s t is_s is_t m n small_m small_n placed_s placed_t xs ys are_xs are_ys value =
    let same : m ≡ n = placed_prev number s m placed_s ∙ sym (placed_prev number t n placed_t) in
    rw (tail-archive name number s m xs, tail-archive name number t n ys, ← same)
    (Same-append (archive_links name number m) (span_piece s ∷ end_pieces name xs) (span_piece t ∷ end_pieces name ys)
    (chain-rest name is s t is_s is_t xs ys are_xs are_ys (λ e. value e same)))

name_of : List ℕ → List ℕ → List ℕ → List ℕ → FeedName
name_of base id title author = record { base = base; id = id; title = title; author = author }

name_of-is : (a : FeedName) → name_of a.base a.id a.title a.author ≡ a
unfolding name_of
name_of-is a = refl

pub same_name : (a b : FeedName) → a.base ≡ b.base → a.id ≡ b.id → a.title ≡ b.title → a.author ≡ b.author → a ≡ b
same_name a b base id title author =
    let e : name_of a.base a.id a.title a.author ≡ name_of b.base b.id b.title b.author = cc in
    sym (name_of-is a) ∙ e ∙ name_of-is b

document_of : FeedName → Kind → Span → ℕ → ℤ → List Item → DocValue
document_of name kind span prev updated items =
    record { name = name; kind = kind; span = span; prev = prev; updated = updated; items = items }

document-is : (a : DocValue) → document_of a.name a.kind a.span a.prev a.updated a.items ≡ a
unfolding document_of
document-is a = refl

same_doc : (a b : DocValue) → a.name ≡ b.name → a.kind ≡ b.kind → a.span ≡ b.span → a.prev ≡ b.prev
    → a.updated ≡ b.updated → a.items ≡ b.items → a ≡ b
same_doc a b name kind span prev updated items =
    let e : document_of a.name a.kind a.span a.prev a.updated a.items ≡ document_of b.name b.kind b.span b.prev
    b.updated b.items = cc in
    sym (document-is a) ∙ e ∙ document-is b

pub is_kind : (kind : Kind) (span : Span) (prev : ℕ) → IsTrue (is_placed kind span prev) → IsKind kind
is_kind Subscription span prev placed = tt
is_kind (Sealed number) span prev placed = search (rules, tests)

pub is_span : (d : DocValue) → IsDoc d → IsSpan d.span
is_span d is = record { first = is.first; last = is.last }

pub is_own : (d : DocValue) → IsDoc d → IsOwn (own_of d)
is_own d is = record { base = is.name.base; kind = is_kind d.kind d.span d.prev is.rules.placed }

-- whole documents
pub chain : (a b : DocValue) → IsDoc a → IsDoc b → Same (pieces a) (pieces b) (a ≡ b)
chain a b is_a is_b =
    let tail_a = tail_pieces a.name a.kind a.span a.prev a.items in
    let tail_b = tail_pieces b.name b.kind b.span b.prev b.items in
    let own_a = own_piece (own_of a) ∷ tail_a in
    let own_b = own_piece (own_of b) ∷ tail_b in
    let author_a = authored a.name.author ∷ own_a in
    let author_b = authored b.name.author ∷ own_b in
    let updated_a = updated_piece a.updated ∷ author_a in
    let updated_b = updated_piece b.updated ∷ author_b in
    let title_a = titled a.name.title ∷ updated_a in
    let title_b = titled b.name.title ∷ updated_b in
    let id_a = id_piece a.name.id ∷ title_a in
    let id_b = id_piece b.name.id ∷ title_b in
    rw (pieces-is a, pieces-is b)
    (Same-fixed declaration_piece (open_piece ∷ id_a) (open_piece ∷ id_b)
    (Same-fixed open_piece id_a id_b
    (Same-cons IsFeedId id_piece id-one a.name.id b.name.id is_a.name.id is_b.name.id title_a title_b
    (λ id. Same-cons IsAtomText titled title-one a.name.title b.name.title is_a.name.title is_b.name.title updated_a
    updated_b
    (λ title. Same-cons IsStamp updated_piece updated-one a.updated b.updated is_a.updated is_b.updated author_a
    author_b
    (λ updated. Same-cons IsAtomText authored author-one a.name.author b.name.author is_a.name.author is_b.name.author
    own_a own_b
    (λ author. Same-cons IsOwn own_piece own-one (own_of a) (own_of b) (is_own a is_a) (is_own b is_b) tail_a tail_b
    (λ own.
    let name : a.name ≡ b.name = same_name a.name b.name (ap (λ (o : Own). o.base) own) id title author in
    let kind : a.kind ≡ b.kind = ap (λ (o : Own). o.kind) own in
    let placed : IsTrue (is_placed a.kind b.span b.prev) =
    subst (λ (k : Kind). IsTrue (is_placed k b.span b.prev)) (sym kind) is_b.rules.placed in
    subst (λ (n : FeedName). Same tail_a (tail_pieces n b.kind b.span b.prev b.items) (a ≡ b)) name
    (subst (λ (k : Kind). Same tail_a (tail_pieces a.name k b.span b.prev b.items) (a ≡ b)) kind
    (chain-tail a.name is_a.name a.kind a.span b.span (is_span a is_a) (is_span b is_b) a.prev b.prev is_a.prev
    is_b.prev is_a.rules.placed placed a.items b.items is_a.items is_b.items
    (λ span prev items. same_doc a b name kind span prev updated items)))))))))))
