-- The moments of the last operations rise along a history.
use Rattle.std.proofs.Common.{◌≡◌, inl, inr, ℕ, zero, suc, ◌<◌, ◌≤◌, ℤ, ◌<ℤ◌, List, length, take}
use Rattle.std.proofs.Common.{ap, sym, subst, ◌∙◌, arith}
use Rattle.std.proofs.lemmas.Int.{ints}
use Rattle.std.proofs.lemmas.Bool.{cases_lt}
use Rattle.member_rules.specs.declared.operation.Op.{Op}
use Rattle.member_rules.specs.Operation.{moment_of}
use Rattle.member_rules.specs.Fold.{last_moment}
use Rattle.member_rules.specs.History.{AreFollowing}
use Rattle.member_rules.proofs.FoldLemmas.{last_moment-push}
use Rattle.published_rule.proofs.MemberLemmas.{get-within, take-next}

moment-next : (created : ℤ) (history : List Op) (n : ℕ) → AreFollowing created history → n < length history
    → last_moment created (take n history) <ℤ last_moment created (take (suc n) history)
moment-next created history n following l =
    let next = get-within history n l in
    let last : last_moment created (take (suc n) history) ≡ moment_of next.0 =
    ap (last_moment created) (take-next n history next.0 next.1) ∙ last_moment-push created (take n history) next.0 in
    subst (λ (z : ℤ). last_moment created (take n history) <ℤ z) (sym last) (following n next.0 next.1).later

pub moments-rise : (created : ℤ) (history : List Op) (n m : ℕ) → AreFollowing created history → n < m
    → m ≤ length history → last_moment created (take n history) <ℤ last_moment created (take m history)
moments-rise created history n zero following l within = absurd (omega arith)
moments-rise created history n (suc m) following l within = elim (cases_lt n m) [
  | inl before ↦
      let behind = moments-rise created history n m following before (omega arith) in
      let last = moment-next created history m following (omega arith) in
      omega (arith, ints)
  | inr past ↦
      let here : n ≡ m = omega arith in
      subst (λ (k : ℕ). last_moment created (take k history) <ℤ last_moment created (take (suc m) history)) (sym here)
      (moment-next created history m following (omega arith))
]
