-- Names that are the same.
use Rattle.std.proofs.Common.{◌≡◌, ℕ, true, false, ◌||◌, List, [], ◌∷◌, ◌++◌, refl, sym, ap, ◌∙◌, ⊎_elim}
use Rattle.std.proofs.Common.{suc}
use Rattle.std.proofs.Common.{◌+◌, add-one, append_assoc, drop, take}
use Rattle.std.proofs.lemmas.List.{map-append, take-append-drop}
use Rattle.std.specs.Prelude.{bytes_eq}
use Rattle.std.specs.List.{IsDistinct, AllByRecursion, list_any}
use Rattle.std.proofs.lemmas.Bool.{both_ways, or_parts, or_cases}
use Rattle.std.proofs.lemmas.Bool.{false_from_ne_true}
use Rattle.std.proofs.lemmas.Slice.Eq.{bytes_eq-Decides}
use Rattle.xml_tokens.specs.declared.tag.Attribute.{Attribute as Raw}
use Rattle.xml_tokens.specs.Reading.{TellsSame, names}

swapped : (x y : List ℕ) → bytes_eq y x ≡ false → bytes_eq x y ≡ false
swapped x y e = false_from_ne_true (bytes_eq x y)
    (λ same. both_ways (bytes_eq y x) e ((bytes_eq-Decides y x).1 (sym ((bytes_eq-Decides x y).0 same))))

differs_last : (x y : List ℕ) (xs : List (List ℕ)) → AllByRecursion (λ z. bytes_eq x z ≡ false) xs →
    bytes_eq x y ≡ false → AllByRecursion (λ z. bytes_eq x z ≡ false) (xs ++ y ∷ [])
differs_last x y [] all last = (last, tt)
differs_last x y (z ∷ xs) all last = (all.0, differs_last x y xs all.1 last)

-- one more name, which isn't among the others
pub distinct_more : (xs : List (List ℕ)) (y : List ℕ) → IsDistinct bytes_eq xs → list_any (bytes_eq y) xs ≡ false →
    IsDistinct bytes_eq (xs ++ y ∷ [])
unfolding IsDistinct
distinct_more [] y distinct none = (tt, tt)
distinct_more (x ∷ xs) y distinct none =
    let p = or_parts (bytes_eq y x) (list_any (bytes_eq y) xs) none in
    (differs_last x y xs distinct.0 (swapped x y p.0), distinct_more xs y distinct.1 p.1)

differs_not : (x y : List ℕ) (xs zs : List (List ℕ)) → bytes_eq y x ≡ true →
    AllByRecursion (λ z. bytes_eq x z ≡ false) (xs ++ y ∷ zs) → ⊥
differs_not x y [] zs same all =
    both_ways (bytes_eq x y) all.0 ((bytes_eq-Decides x y).1 (sym ((bytes_eq-Decides y x).0 same)))
differs_not x y (z ∷ xs) zs same all = differs_not x y xs zs same all.1

-- a name that stands before
pub not_distinct : (xs : List (List ℕ)) (y : List ℕ) (zs : List (List ℕ)) → list_any (bytes_eq y) xs ≡ true →
    IsDistinct bytes_eq (xs ++ y ∷ zs) → ⊥
unfolding IsDistinct
not_distinct [] y zs some distinct = both_ways false refl some
not_distinct (x ∷ xs) y zs some distinct =
    ⊎_elim
    (λ here. differs_not x y xs zs here distinct.0)
    (λ later. not_distinct xs y zs later distinct.1)
    (or_cases (bytes_eq y x) (list_any (bytes_eq y) xs) some)

pub no_names : IsDistinct bytes_eq []
unfolding IsDistinct
no_names = tt

-- a name that stands before is the same
pub tells_same : (xs : List (List ℕ)) (y : List ℕ) (zs : List (List ℕ)) → list_any (bytes_eq y) xs ≡ true →
    TellsSame (xs ++ y ∷ zs) true
tells_same xs y zs some = (λ _ distinct. not_distinct xs y zs some distinct, λ never. absurd (both_ways true never refl))

-- no names are the same
pub tells_none : (xs : List (List ℕ)) → IsDistinct bytes_eq xs → TellsSame xs false
tells_none xs distinct = (λ never. absurd (both_ways false refl never), λ _. distinct)

abbrev pub no_attribute : Raw
no_attribute = record {
  name = record { ref_ptr = (0, 0); now = [] };
  written = record { ref_ptr = (0, 0); now = [] };
}

-- one more name
pub names_next : (raws : List Raw) (i : ℕ) (a : Raw) → take (suc i) raws ≡ take i raws ++ a ∷ [] →
    names (take (i + 1) raws) ≡ names (take i raws) ++ a.name.now ∷ []
names_next raws i a is =
    ap (λ n. names (take n raws)) (add-one i) ∙ ap names is
    ∙ map-append (λ (x : Raw). x.name.now) (take i raws) (a ∷ [])

-- the names before one, and those behind it
pub names_all : (raws : List Raw) (i : ℕ) (a : Raw) → take (suc i) raws ≡ take i raws ++ a ∷ [] →
    names raws ≡ names (take i raws) ++ a.name.now ∷ names (drop (suc i) raws)
names_all raws i a is =
    ap names (sym (take-append-drop (suc i) raws) ∙ ap (λ xs. xs ++ drop (suc i) raws) is
    ∙ append_assoc (take i raws) (a ∷ []) (drop (suc i) raws))
    ∙ map-append (λ (x : Raw). x.name.now) (take i raws) (a ∷ drop (suc i) raws)

pub any_name : (name : List ℕ) (raws : List Raw) →
    list_any (λ a. bytes_eq name a.name.now) raws ≡ list_any (bytes_eq name) (names raws)
any_name name [] = refl
any_name name (a ∷ raws) = ap (λ b. bytes_eq name a.name.now || b) (any_name name raws)
