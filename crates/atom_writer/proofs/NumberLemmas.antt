-- Numbers in rising order, and numbers that differ.
use Rattle.std.proofs.Common.{◌≡◌, ◌↔◌, ℕ, List, Bool, true, false, nat_lt, nat_eq, sym, ◌∙◌, arith, rules, IsTrue}
use Rattle.std.proofs.lemmas.Bool.{ltb-true, lt-ltb, false_from_ne_true, eqb-true}
use Rattle.std.proofs.lemmas.List.Sorted.{IsPermutation-sym, IsNonDecreasingBy-from_sort}
use Rattle.std.proofs.lemmas.Map.Keys.{sorted_from_strictly_increasing, below_from_sorted, IsDistinct-from_apart, IsDistinct-IsPermutation, IsStrictlyIncreasing-from_distinct}
use Rattle.std.specs.Cmp.{nat_eq_equiv}
use Rattle.std.specs.List.{IsAllAdjacentAnswer, IsDistinct}
use Rattle.std.specs.List.Sorted.{IsStrictlyIncreasing, IsPermutation, IsSorted}
use Rattle.std.specs.Ordering.{nat_cmp}

-- the test of all neighbours decides whether a list rises
pub rises_from_answer : (xs : List ℕ) (r : Bool) → IsAllAdjacentAnswer (λ x y b. b ≡ nat_lt x y) xs r
    → IsTrue r ↔ IsStrictlyIncreasing xs
rises_from_answer xs true h = (λ _ k below. ltb-true _ _ (sym (h k 0 below)), λ _. search rules)
rises_from_answer xs false h = (λ t. search rules, λ up. h.2 0 ∙ lt-ltb _ _ (up h.0 h.1))

-- numbers are distinct exactly where they rise once they are sorted
pub distinct_where_sorted_rise : (xs ys : List ℕ) → IsPermutation xs ys → IsSorted nat_cmp ys
    → IsStrictlyIncreasing ys ↔ IsDistinct nat_eq xs
distinct_where_sorted_rise xs ys p s = (
  λ up.
      let rising = sorted_from_strictly_increasing ys up in
      IsDistinct-IsPermutation nat_eq nat_eq_equiv.symm ys xs (IsPermutation-sym xs ys p)
      (IsDistinct-from_apart nat_eq ys (λ i j d below in_list. let lt =
      below_from_sorted ys i j d rising below in_list in
      false_from_ne_true _ (λ same. absurd (omega (arith, eqb-true _ _ same))))),
  λ apart. IsStrictlyIncreasing-from_distinct ys (IsNonDecreasingBy-from_sort (λ x. x) ys s)
      (IsDistinct-IsPermutation nat_eq nat_eq_equiv.symm xs ys p apart),
)
