-- The places of declarations, and the map that has them.
use Rattle.std.proofs.Common.{◌≡◌, ◌⊎◌, ℕ, zero, suc, List, [], ◌∷◌, ◌++◌, reverse, Bool, true, false, cond}
use Rattle.std.proofs.Common.{Option, Some, None}
use Rattle.std.proofs.Common.{option_map, refl, sym, ap, ◌∙◌, bytes_eq, length, arith, inl, inr, Ok, Err}
use Rattle.std.proofs.Common.{nat_lt, get_or}
use Rattle.std.proofs.lemmas.Bool.{both_ways, ltb-false, ltb-true}
use Rattle.std.proofs.lemmas.List.{length-reverse, reverse-append, reverse-reverse}
use Rattle.std.proofs.lemmas.Option.{slice_get_past, slice_get_read}
use Rattle.std.proofs.lemmas.Slice.Eq.{bytes_eq-Decides}
use Rattle.std.specs.Prelude.{IsSome, OnErr, OnOk, Result, is_some, option_and_then, slice_get}
use Rattle.std.specs.Option.{option_or}
use Rattle.xml_tokens.specs.declared.scopes.Declaration.{Declaration}
use Rattle.xml_tokens.specs.declared.scopes.Scopes.{Scopes}
use Rattle.xml_tokens.specs.Scopes.{AreIndexed, checked_place, found_in, is_of, place_before, place_in, place_of}

reverse_more : {A : Type 0} (x : A) (xs : List A) → reverse (x ∷ xs) ≡ reverse xs ++ x ∷ []
reverse_more x xs = reverse-append (x ∷ []) xs

got_last : {A : Type 0} (xs : List A) (x : A) → slice_get (xs ++ x ∷ []) (length xs) ≡ Some x
got_last [] x = refl
got_last (y ∷ xs) x = got_last xs x

got_more : {A : Type 0} (xs : List A) (y : A) (i : ℕ) (x : A) → slice_get xs i ≡ Some x →
    slice_get (xs ++ y ∷ []) i ≡ Some x
got_more [] y i x is = absurd cc
got_more (z ∷ xs) y zero x is = is
got_more (z ∷ xs) y (suc i) x is = got_more xs y i x is

-- one more declaration, of another prefix
other_here : (ds : List Declaration) (d : Declaration) (p : List ℕ) (i : ℕ) → bytes_eq d.prefix.now p ≡ false →
    is_of p (slice_get (ds ++ d ∷ []) i) ≡ is_of p (slice_get ds i)
other_here [] d p zero other = other
other_here [] d p (suc i) other = refl
other_here (e ∷ ds) d p zero other = refl
other_here (e ∷ ds) d p (suc i) other = other_here ds d p i other

other_place : (ds : List Declaration) (d : Declaration) (p : List ℕ) (place : Option ℕ) →
    bytes_eq d.prefix.now p ≡ false → checked_place (ds ++ d ∷ []) p place ≡ checked_place ds p place
other_place ds d p None other = refl
other_place ds d p (Some i) other = ap (λ b. cond b (Some i) None) (other_here ds d p i other)

-- the place of the last declaration, before it is taken out and afterwards
last_place : (ds : List Declaration) (d : Declaration) (p : List ℕ) → bytes_eq d.prefix.now p ≡ true →
    checked_place (ds ++ d ∷ []) p (Some (length ds)) ≡ Some (length ds)
last_place ds d p same = ap (λ o. cond (is_of p o) (Some (length ds)) None) (got_last ds d)
    ∙ ap (λ b. cond b (Some (length ds)) None) same

past_place : (ds : List Declaration) (p : List ℕ) → checked_place ds p (Some (length ds)) ≡ None
past_place ds p = ap (λ o. cond (is_of p o) (Some (length ds)) None) (slice_get_past ds (length ds) (omega arith))

checked_same : (ds : List Declaration) (p : List ℕ) (place : Option ℕ) (i : ℕ) → checked_place ds p place ≡ Some i →
    place ≡ Some i
checked_same ds p None i is = absurd cc
checked_same ds p (Some j) i is =
    let both : (b : Bool) → cond b (Some j) None ≡ Some i → Some j ≡ Some i = λ b.
    elim b as (λ b. cond b (Some j) None ≡ Some i → Some j ≡ Some i) [ true ↦ λ e. e | false ↦ λ e. absurd cc ] in
    both (is_of p (slice_get ds j)) is

-- a prefix that these declarations have, the last one first: the place of its last declaration, which is there
abbrev pub HasLast : List Declaration → List ℕ → Type 0
HasLast ds p =
    (i : ℕ) × (d : Declaration) × (place_in ds p ≡ Some i) × (slice_get (reverse ds) i ≡ Some d)
    × (bytes_eq d.prefix.now p ≡ true) × (found_in ds p ≡ Some d.namespace)

last_of_prefix : (ds : List Declaration) (p : List ℕ) →
    ((place_in ds p ≡ None) × (found_in ds p ≡ None)) ⊎ HasLast ds p
last_of_prefix [] p = inl (refl, refl)
last_of_prefix (d ∷ ds) p =
    let G : Type 0 = ((place_in (d ∷ ds) p ≡ None) × (found_in (d ∷ ds) p ≡ None)) ⊎ HasLast (d ∷ ds) p in
    let here : bytes_eq d.prefix.now p ≡ true → G = λ same. inr (
      length ds,
      d,
      ap (λ b. cond b (Some (length ds)) (place_in ds p)) same,
      ap (λ xs. slice_get xs (length ds)) (reverse_more d ds)
          ∙ ap (slice_get (reverse ds ++ d ∷ [])) (sym (length-reverse ds)) ∙ got_last (reverse ds) d,
      same,
      ap (λ b. cond b (Some d.namespace) (found_in ds p)) same,
    ) in
    let below : bytes_eq d.prefix.now p ≡ false → G = λ other.
    elim (last_of_prefix ds p) [
      | inl none ↦ inl (
        ap (λ b. cond b (Some (length ds)) (place_in ds p)) other ∙ none.0,
        ap (λ b. cond b (Some d.namespace) (found_in ds p)) other ∙ none.1,
      )
      | inr some ↦ inr (
        some.0,
        some.1,
        ap (λ b. cond b (Some (length ds)) (place_in ds p)) other ∙ some.2,
        ap (λ xs. slice_get xs some.0) (reverse_more d ds) ∙ got_more (reverse ds) d some.0 some.1 some.3,
        some.4,
        ap (λ b. cond b (Some d.namespace) (found_in ds p)) other ∙ some.5,
      )
    ] in
    let both : (b : Bool) → bytes_eq d.prefix.now p ≡ b → G = λ b.
    elim b as (λ b. bytes_eq d.prefix.now p ≡ b → G) [ true ↦ here | false ↦ below ] in
    both (bytes_eq d.prefix.now p) refl

-- the declaration at the place is the one that is found
found_there : (ds : List Declaration) (p : List ℕ) →
    option_and_then (λ i. option_map (λ d. d.namespace) (slice_get (reverse ds) i)) (place_in ds p) ≡ found_in ds p
found_there ds p = elim (last_of_prefix ds p) [
  | inl none ↦
      ap (option_and_then (λ i. option_map (λ d. d.namespace) (slice_get (reverse ds) i))) none.0 ∙ sym none.1
  | inr some ↦
      ap (option_and_then (λ i. option_map (λ d. d.namespace) (slice_get (reverse ds) i))) some.2
      ∙ ap (option_map (λ (d : Declaration). d.namespace)) some.3 ∙ sym some.5
]

pub finds_declared : (scopes : Scopes) (p : List ℕ) (place : Option ℕ) → AreIndexed scopes →
    place ≡ checked_place scopes.declared.items p (place_of scopes p) →
    option_and_then (λ i. option_map (λ d. d.namespace) (slice_get scopes.declared.items i)) place
    ≡ found_in (reverse scopes.declared.items) p
finds_declared scopes p place indexed is =
    let items = scopes.declared.items in
    ap (option_and_then (λ i. option_map (λ d. d.namespace) (slice_get items i))) (is ∙ indexed p)
    ∙ ap (λ xs. option_and_then (λ i. option_map (λ d. d.namespace) (slice_get xs i)) (place_in (reverse items) p))
    (sym (reverse-reverse items))
    ∙ found_there (reverse items) p

-- what is found at a place that isn't there, and at one that is
pub past_end : (xs ds : List Declaration) (i : ℕ) → xs ≡ ds → false ≡ nat_lt i (length xs) →
    None ≡ option_map (λ (d : Declaration). d.namespace) (slice_get ds i)
past_end xs ds i same past =
    sym (ap (option_map (λ (d : Declaration). d.namespace)) (slice_get_past ds i
    (omega (arith, ltb-false i (length xs) (sym past), ap length same))))

pub at_place : (xs ds : List Declaration) (i : ℕ) (d : Declaration) → xs ≡ ds → true ≡ nat_lt i (length xs) →
    d ≡ get_or xs i d → Some d.namespace ≡ option_map (λ (d : Declaration). d.namespace) (slice_get ds i)
at_place xs ds i d same there is =
    sym (ap (option_map (λ (d : Declaration). d.namespace)) (ap (λ ys. slice_get ys i) (sym same)
    ∙ slice_get_read xs (length xs) i d refl (ltb-true i (length xs) (sym there)) is))

-- a place that these declarations have is right
right_place : (ds : List Declaration) (p : List ℕ) (i : ℕ) → place_in (reverse ds) p ≡ Some i →
    checked_place ds p (Some i) ≡ Some i
right_place ds p i is = elim (last_of_prefix (reverse ds) p) [
  | inl none ↦ let bad : None ≡ Some i = sym none.0 ∙ is in absurd cc
  | inr some ↦
      let same : Some some.0 ≡ Some i = sym some.2 ∙ is in
      let at : some.0 ≡ i = cc in
      let there : slice_get ds i ≡ Some some.1 =
      ap (λ xs. slice_get xs i) (sym (reverse-reverse ds)) ∙ ap (slice_get (reverse (reverse ds))) (sym at) ∙ some.3 in
      ap (λ o. cond (is_of p o) (Some i) None) there ∙ ap (λ b. cond b (Some i) None) some.4
]

-- one more declaration is in the map
pub indexes_more : (d : Declaration) (before after : Scopes) →
    after.declared.items ≡ before.declared.items ++ d ∷ [] →
    ((p : List ℕ) → place_of after p
    ≡ cond (bytes_eq d.prefix.now p) (Some (length before.declared.items)) (place_of before p)) →
    AreIndexed before → AreIndexed after
indexes_more d before after items set indexed p =
    let xs = before.declared.items in
    let n = length xs in
    let turned : reverse after.declared.items ≡ d ∷ reverse xs = ap reverse items ∙ reverse-append xs (d ∷ []) in
    let both : (b : Bool) → bytes_eq d.prefix.now p ≡ b →
    checked_place (xs ++ d ∷ []) p (cond b (Some n) (place_of before p))
    ≡ cond b (Some (length (reverse xs))) (place_in (reverse xs) p) = λ b.
    elim b as (λ b. bytes_eq d.prefix.now p ≡ b → checked_place (xs ++ d ∷ []) p (cond b (Some n) (place_of before p))
    ≡ cond b (Some (length (reverse xs))) (place_in (reverse xs) p)) [
      | true ↦ λ e. last_place xs d p e ∙ ap Some (sym (length-reverse xs))
      | false ↦ λ e. other_place xs d p (place_of before p) e ∙ indexed p
    ] in
    ap (λ ds. checked_place ds p (place_of after p)) items ∙ ap (checked_place (xs ++ d ∷ []) p) (set p)
    ∙ both (bytes_eq d.prefix.now p) refl ∙ ap (λ ds. place_in ds p) (sym turned)

-- the map has the place of the last declaration
pub last_in_map : (d : Declaration) (before middle : Scopes) → before.declared.items ≡ middle.declared.items ++ d ∷ [] →
    AreIndexed before → (p : List ℕ) → bytes_eq d.prefix.now p ≡ true →
    place_of before p ≡ Some (length middle.declared.items)
last_in_map d before middle items indexed p same =
    let xs = middle.declared.items in
    let turned : reverse before.declared.items ≡ d ∷ reverse xs = ap reverse items ∙ reverse-append xs (d ∷ []) in
    checked_same before.declared.items p (place_of before p) (length xs) (
    indexed p ∙ ap (λ ds. place_in ds p) turned
    ∙ ap (λ b. cond b (Some (length (reverse xs))) (place_in (reverse xs) p)) same ∙ ap Some (length-reverse xs)
    )

-- the map without the last declaration
pub indexes_less : (d : Declaration) (before middle after : Scopes) →
    before.declared.items ≡ middle.declared.items ++ d ∷ [] → place_of middle ≡ place_of before →
    after.declared.items ≡ middle.declared.items →
    ((p : List ℕ) → place_of after p ≡ place_before d (place_of middle) p) →
    d.before ≡ place_in (reverse middle.declared.items) d.prefix.now → AreIndexed before → AreIndexed after
indexes_less d before middle after items map kept back linked indexed p =
    let xs = middle.declared.items in
    let turned : reverse before.declared.items ≡ d ∷ reverse xs = ap reverse items ∙ reverse-append xs (d ∷ []) in
    let old : place_of middle p ≡ place_of before p = ap (λ f. f p) map in
    let others : bytes_eq d.prefix.now p ≡ false →
    checked_place xs p (place_of middle p) ≡ place_in (reverse xs) p = λ other.
    ap (checked_place xs p) old ∙ sym (other_place xs d p (place_of before p) other)
    ∙ ap (λ ds. checked_place ds p (place_of before p)) (sym items) ∙ indexed p ∙ ap (λ ds. place_in ds p) turned
    ∙ ap (λ b. cond b (Some (length (reverse xs))) (place_in (reverse xs) p)) other in
    let own : bytes_eq d.prefix.now p ≡ true →
    checked_place xs p (option_or d.before (place_of middle p)) ≡ place_in (reverse xs) p = λ same.
    let linked_here : d.before ≡ place_in (reverse xs) p =
    linked ∙ ap (place_in (reverse xs)) ((bytes_eq-Decides d.prefix.now p).0 same) in
    let at : place_of middle p ≡ Some (length xs) = old ∙ last_in_map d before middle items indexed p same in
    let by : (o : Option ℕ) → o ≡ place_in (reverse xs) p →
    checked_place xs p (option_or o (place_of middle p)) ≡ place_in (reverse xs) p = λ o.
    elim o as (λ o. o ≡ place_in (reverse xs) p →
    checked_place xs p (option_or o (place_of middle p)) ≡ place_in (reverse xs) p) [
      | None ↦ λ e. ap (checked_place xs p) at ∙ past_place xs p ∙ e
      | Some i ↦ λ e. right_place xs p i (sym e) ∙ e
    ] in by d.before linked_here in
    let both : (b : Bool) → bytes_eq d.prefix.now p ≡ b →
    checked_place xs p (cond b (option_or d.before (place_of middle p)) (place_of middle p))
    ≡ place_in (reverse xs) p = λ b.
    elim b as (λ b. bytes_eq d.prefix.now p ≡ b →
    checked_place xs p (cond b (option_or d.before (place_of middle p)) (place_of middle p))
    ≡ place_in (reverse xs) p) [ true ↦ own | false ↦ others ] in
    ap (λ ds. checked_place ds p (place_of after p)) kept ∙ ap (checked_place xs p) (back p)
    ∙ both (bytes_eq d.prefix.now p) refl ∙ ap (λ ds. place_in (reverse ds) p) (sym kept)

-- an entry that is there is changed without new memory
pub changed : {A E : Type 0} (r : Result A E) (U : Type 0) (x : Option ℕ) → OnOk r U → OnErr r (x ≡ None) →
    IsSome x → U
changed (Ok v) U x new none some = new
changed (Err e) U x new none some = absurd (both_ways (is_some x) (ap is_some none) some)

-- a prefix without a place before keeps its place
pub same_place : (d : Declaration) (scopes : Scopes) (p : List ℕ) → d.before ≡ None →
    place_of scopes p ≡ place_before d (place_of scopes) p
same_place d scopes p none =
    let both : (b : Bool) → place_of scopes p
    ≡ cond b (option_or None (place_of scopes p)) (place_of scopes p) = λ b.
    elim b as (λ b. place_of scopes p ≡ cond b (option_or None (place_of scopes p)) (place_of scopes p))
    [ true ↦ refl | false ↦ refl ] in
    both (bytes_eq d.prefix.now p)
    ∙ ap (λ o. cond (bytes_eq d.prefix.now p) (option_or o (place_of scopes p)) (place_of scopes p)) (sym none)
