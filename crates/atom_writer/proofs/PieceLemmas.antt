-- The text that the code adds part by part is the joined text of the definitions.
use Rattle.std.proofs.Common.{◌≡◌, ◌≢◌, ℕ, zero, suc, arith, rules, tests, nat_eq, false, List, [], ◌∷◌, ◌++◌, map, length, take, get_or, ◌+◌, ◌<◌, refl, ap, sym, ◌∙◌, append_assoc, append-nil, codes}
use Rattle.std.proofs.lemmas.List.{map-append}
use Rattle.std.proofs.lemmas.Grind.{flat_map-append}
use Rattle.std.specs.Prelude.{flat_map, IsTrue}
use Rattle.atom_values.proofs.WalkLemmas.{take-one_more}
use Rattle.atom_writer.specs.Doc.{is_placed, HasNext}
use Rattle.atom_writer.specs.declared.doc.Kind.TheVariants.{Subscription, Archive as Sealed}
use Rattle.chain_links.specs.declared.address.Address.TheVariants.{Archive}
use Rattle.chain_links.specs.declared.place.Span.{Span}
use Rattle.deleted_entries.specs.declared.item.Item.{Item}
use Rattle.atom_writer.specs.declared.doc.FeedName.{FeedName}
use Rattle.atom_writer.specs.declared.doc.Kind.{Kind}
use Rattle.atom_writer.specs.Doc.{DocValue}
use Rattle.atom_writer.specs.Pieces.{link_piece, prev_pieces, current_pieces, next_pieces, span_piece, own_address, name_pieces, place_pieces, item_piece, pieces, joined, text}

pub joined-append : (ps qs : List (List ℕ)) → joined (ps ++ qs) ≡ joined ps ++ joined qs
unfolding joined
joined-append [] qs = refl
joined-append (p ∷ ps) qs = ap (λ (x : List ℕ). p ++ x) (joined-append ps qs)
    ∙ sym (append_assoc p (joined ps) (joined qs))

pub joined-none : joined [] ≡ []
unfolding joined
joined-none = refl

pub joined-cons : (p : List ℕ) (ps : List (List ℕ)) → joined (p ∷ ps) ≡ p ++ joined ps
unfolding joined
joined-cons p ps = refl

pub joined-one : (p : List ℕ) → joined (p ∷ []) ≡ p
unfolding joined
joined-one p = append-nil p

-- the whole text
pub text-is : (d : DocValue) →
    joined (name_pieces d.name d.updated) ++ joined (place_pieces d.name d.kind d.span d.prev)
    ++ joined (map (item_piece d.name) d.items) ++ codes "</feed>\n"
    ≡ text d
unfolding text pieces
text-is d = simp (joined-append, joined-one)

pub prev_none : (name : FeedName) (prev : ℕ) → prev ≡ 0 → joined (prev_pieces name prev) ≡ []
unfolding joined prev_pieces
prev_none name zero h = refl
prev_none name (suc n) h = absurd (omega arith)

pub prev_some : (name : FeedName) (prev : ℕ) → prev ≢ 0
    → joined (prev_pieces name prev) ≡ link_piece (codes "prev-archive") name (Archive prev)
unfolding prev_pieces
prev_some name prev h =
    let e : nat_eq prev 0 ≡ false = search (rules, tests) in
    rw e (joined-one (link_piece (codes "prev-archive") name (Archive prev)))

pub joined-place : (name : FeedName) (kind : Kind) (span : Span) (prev : ℕ) →
    link_piece (codes "self") name (own_address kind) ++ joined (current_pieces name kind)
    ++ joined (prev_pieces name prev)
    ++ joined (next_pieces name kind) ++ span_piece span
    ≡ joined (place_pieces name kind span prev)
unfolding place_pieces
joined-place name kind span prev = simp (joined-append, joined-cons, joined-none, append-nil, append_assoc)

-- an archive may be followed by another
pub has_next : (kind : Kind) (span : Span) (prev : ℕ) → IsTrue (is_placed kind span prev) → HasNext kind
has_next Subscription span prev placed = tt
has_next (Sealed number) span prev placed = search (rules, tests)

-- the texts of the elements up to the next one, which is `x`, one after another
pub flat_map-more : {X : Type 0} (f : X → List ℕ) (xs : List X) (i : ℕ) (x : X) → i < length xs → x ≡ get_or xs i x
    → flat_map f (take i xs) ++ f x ≡ flat_map f (take (i + 1) xs)
flat_map-more f xs i x below is =
    let more =
    flat_map-append f (take i xs) (x ∷ [])
    ∙ ap (λ (t : List ℕ). flat_map f (take i xs) ++ t) (append-nil (f x)) in
    sym (ap (flat_map f) (take-one_more xs i x below is) ∙ more)

-- one more item
pub joined-map-push : (f : Item → List ℕ) (items : List Item) (item : Item)
    → joined (map f (items ++ item ∷ [])) ≡ joined (map f items) ++ f item
joined-map-push f items item = ap joined (map-append f items (item ∷ [])) ∙ joined-append (map f items) (f item ∷ [])
    ∙ ap (λ (x : List ℕ). joined (map f items) ++ x) (joined-one (f item))

pub joined-map-more : (f : Item → List ℕ) (items : List Item) (i : ℕ) (item : Item) → i < length items
    → item ≡ get_or items i item
    → joined (map f (take i items)) ++ f item ≡ joined (map f (take (i + 1) items))
joined-map-more f items i item below is =
    sym (ap (λ (xs : List Item). joined (map f xs)) (take-one_more items i item below is)
    ∙ joined-map-push f (take i items) item)
