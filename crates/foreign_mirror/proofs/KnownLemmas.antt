-- The addresses that a walk asked, and the set in which it keeps them.
use Rattle.std.proofs.Common.{◌≡◌, ℕ, Bool, true, false, ◌||◌, List, [], ◌∷◌, ◌++◌, refl, sym, ap, ◌∙◌, bytes_eq}
use Rattle.std.proofs.Common.{Ordering}
use Rattle.std.specs.Bool.{Decides}
use Rattle.std.specs.Prelude.{Contains}
use Rattle.std.specs.List.{list_any}
use Rattle.std.specs.BTreeMap.{is_at}
use Rattle.std.specs.BTreeSet.{insert_key}
use Rattle.std.specs.Cmp.Lexicographic.{slice_cmp}
use Rattle.std.specs.Ordering.{nat_cmp, is_eq, match_ordering}
use Rattle.std.specs.declared.cmp.Ordering.TheVariants.{Less, Equal, Greater}
use Rattle.std.proofs.lemmas.Bool.Decides.{Decides-at, Decides-by_or, Decides-like}
use Rattle.std.proofs.lemmas.List.Elements.{Decides-contains}
use Rattle.std.proofs.lemmas.List.Folds.{list_any-append}
use Rattle.std.proofs.lemmas.Map.Text.{is_eq-slice_cmp}
use Rattle.std.proofs.lemmas.Slice.Eq.{bytes_eq-Decides}

-- whether an address is among others
pub asked-Decides : (asked : List (List ℕ)) (address : List ℕ)
    → Decides (list_any (bytes_eq address) asked) (Contains asked address)
asked-Decides asked address =
    Decides-contains asked address (list_any (bytes_eq address) asked)
    (Decides-by_or (bytes_eq address) (λ (x : List ℕ). x ≡ address) (list_any (bytes_eq address))
    (λ x. Decides-like (bytes_eq address x) sym sym (bytes_eq-Decides address x)) refl (λ _ _. refl) asked)

pub bytes_eq-swaps : (x y : List ℕ) → bytes_eq x y ≡ bytes_eq y x
bytes_eq-swaps x y = go (bytes_eq x y) (bytes_eq y x) refl refl
  where
    go : (a b : Bool) → bytes_eq x y ≡ a → bytes_eq y x ≡ b → a ≡ b
    go true true e f = refl
    go false false e f = refl
    go true false e f = sym ((bytes_eq-Decides y x).1 (sym ((bytes_eq-Decides x y).0 e))) ∙ f
    go false true e f = sym e ∙ (bytes_eq-Decides x y).1 (sym ((bytes_eq-Decides y x).0 f))

or_false : (b : Bool) → (b || false) ≡ b
or_false true = refl
or_false false = refl

or_swaps : (a b : Bool) → (a || b) ≡ (b || a)
or_swaps true true = refl
or_swaps true false = refl
or_swaps false true = refl
or_swaps false false = refl

or_again : (a b : Bool) → (a || b) ≡ ((a || b) || a)
or_again true b = refl
or_again false true = refl
or_again false false = refl

or_along : (a b c : Bool) → (a || (b || c)) ≡ ((a || b) || c)
or_along true b c = refl
or_along false b c = refl

-- an address is among the keys of a set and a new one
module _ {K : Type 0} (text : K → List ℕ) (address : List ℕ) (key : K) where
  abbrev pub is_there : List K → Bool
  is_there keys = list_any (λ k. bytes_eq address (text k)) keys

  abbrev pub in_order : K → K → Ordering
  in_order x y = slice_cmp nat_cmp (text x) (text y)

  pub insert-there : (keys : List K)
      → is_there (insert_key in_order keys key) ≡ (is_there keys || bytes_eq address (text key))
  insert-there [] = or_false (bytes_eq address (text key))
  insert-there (k ∷ keys) = go (insert-there keys) (in_order key k) refl
    where
      go : is_there (insert_key in_order keys key) ≡ (is_there keys || bytes_eq address (text key))
          → (o : Ordering) → in_order key k ≡ o
          → is_there (match_ordering o (key ∷ k ∷ keys) (k ∷ keys) (k ∷ insert_key in_order keys key))
          ≡ (is_there (k ∷ keys) || bytes_eq address (text key))
      go others Less e = or_swaps (bytes_eq address (text key)) (is_there (k ∷ keys))
      go others Equal e =
          let same : text key ≡ text k =
          (bytes_eq-Decides (text key) (text k)).0 (sym (is_eq-slice_cmp (text key) (text k)) ∙ ap is_eq e) in
          or_again (bytes_eq address (text k)) (is_there keys)
          ∙ ap (λ (l : List ℕ). is_there (k ∷ keys) || bytes_eq address l) (sym same)
      go others Greater e =
          ap (λ (b : Bool). bytes_eq address (text k) || b) others
          ∙ or_along (bytes_eq address (text k)) (is_there keys) (bytes_eq address (text key))

-- one more address
pub knows-more : {K : Type 0} (text : K → List ℕ) (asked : List (List ℕ)) (added : List ℕ) (key : K)
    (before after : List K)
    → ((address : List ℕ) → is_there text address key before ≡ list_any (bytes_eq address) asked)
    → after ≡ insert_key (λ x y. slice_cmp nat_cmp (text x) (text y)) before key → text key ≡ added
    → (address : List ℕ) → is_there text address key after ≡ list_any (bytes_eq address) (asked ++ added ∷ [])
knows-more text asked added key before after knows is same address =
    ap (is_there text address key) is
    ∙ insert-there text address key before
    ∙ ap (λ (b : Bool). b || bytes_eq address (text key)) (knows address)
    ∙ ap (λ (l : List ℕ). list_any (bytes_eq address) asked || bytes_eq address l) same
    ∙ ap (λ (b : Bool). list_any (bytes_eq address) asked || b) (sym (or_false (bytes_eq address added)))
    ∙ sym (list_any-append (bytes_eq address) asked (added ∷ []))

found-there : {K : Type 0} (text : K → List ℕ) (address : List ℕ) (keys : List K)
    → list_any (is_at (λ k. slice_cmp nat_cmp address (text k))) keys
    ≡ list_any (λ k. bytes_eq address (text k)) keys
found-there text address [] = refl
found-there text address (k ∷ keys) =
    ap (λ (b : Bool). b || list_any (is_at (λ x. slice_cmp nat_cmp address (text x))) keys)
    (is_eq-slice_cmp address (text k))
    ∙ ap (λ (b : Bool). bytes_eq address (text k) || b) (found-there text address keys)

-- the set has the address if it was asked
pub contained : {K : Type 0} (text : K → List ℕ) (asked : List (List ℕ)) (own address : List ℕ) (keys : List K)
    (r : Bool) → ((q : List ℕ) → list_any (λ k. bytes_eq q (text k)) keys ≡ list_any (bytes_eq q) asked)
    → own ≡ address → r ≡ list_any (is_at (λ k. slice_cmp nat_cmp own (text k))) keys
    → Decides r (Contains asked address)
contained text asked own address keys r knows same is =
    Decides-at r (list_any (bytes_eq address) asked)
    (is ∙ found-there text own keys ∙ knows own ∙ ap (λ (l : List ℕ). list_any (bytes_eq l) asked) same)
    (asked-Decides asked address)
