-- The effect of one more operation on a walk over a list of operations.
use Rattle.std.proofs.Common.{◌≡◌, ℕ, ◌+◌, ◌<◌, Bool, false, if◌then◌else◌, ◌==◌, eqb, Option, Some, None, List, ◌∷◌}
use Rattle.std.proofs.Common.{◌++◌, [], length, get_or, take, refl, sym, ap, ◌∙◌, arith, length-take}
use Rattle.std.specs.Option.{option_eq}
use Rattle.std.proofs.lemmas.List.{take_more}
use Rattle.member_rules.specs.declared.operation.Op.{Op}
use Rattle.member_rules.specs.Operation.{member_of, names}
use Rattle.member_rules.specs.Fold.{after_operation, fold_of, last_naming}
use Rattle.member_rules.proofs.FoldLemmas.{fold_of-push, last_naming-push}

take-one : (history : List Op) (i : ℕ) (operation : Op) → i < length history → operation ≡ get_or history i operation
    → take (i + 1) history ≡ take i history ++ operation ∷ []
take-one history i operation inside is = take_more history i operation inside
    ∙ ap (λ (o : Op). take i history ++ o ∷ []) (sym is)

pub fold_of-more : (history : List Op) (i : ℕ) (operation : Op) → i < length history
    → operation ≡ get_or history i operation → fold_of (take (i + 1) history)
    ≡ after_operation (fold_of (take i history)) operation
fold_of-more history i operation inside is = ap fold_of (take-one history i operation inside is)
    ∙ fold_of-push (take i history) operation

pub last_naming-more : (number : ℕ) (history : List Op) (i : ℕ) (operation : Op) → i < length history
    → operation ≡ get_or history i operation → last_naming number (take (i + 1) history)
    ≡ (if names number operation then i + 1 else last_naming number (take i history))
last_naming-more number history i operation inside is =
    let size : length (take i history) ≡ i = omega (arith, length-take i history) in
    ap (last_naming number) (take-one history i operation inside is)
    ∙ last_naming-push number (take i history) operation
    ∙ ap (λ n. if names number operation then n + 1 else last_naming number (take i history)) size

-- whether an operation names a member, by the test of the code
pub names-is : (number : ℕ) (operation : Op) (member : Option ℕ) (same : Bool) → member ≡ member_of operation
    → same ≡ option_eq eqb member (Some number) → names number operation ≡ same
names-is number operation member same is test =
    by_member (member_of operation) ∙ ap (λ (o : Option ℕ). option_eq eqb o (Some number)) (sym is) ∙ sym test
  where
    by_member : (named : Option ℕ)
        → (elim named as (λ _. Bool) [ None ↦ false | Some other ↦ other == number ])
        ≡ option_eq eqb named (Some number)
    by_member None = refl
    by_member (Some other) = refl
