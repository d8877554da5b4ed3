use Rattle.std.proofs.Common.{◌≡◌, ℕ, ◌+◌, Bool, true, false, if◌then◌else◌, take, sym, ap, ◌∙◌}
use Rattle.member_rules.specs.Fold.{last_naming}
use Rattle.member_rules.specs.Operation.{names}
use Rattle.member_rules.proofs.PlainLemmas.{last_naming-more, names-is}
use Rattle.member_rules.proofs.plain.plain_version.Goals.{then-eq, else-eq}
use Rattle.member_rules.proofs.plain.plain_version.Goals as goal

chosen : (named : Bool) (named_is : Bool) (at before : ℕ) → named ≡ named_is
    → (if named then at else before) ≡ (if named_is then at else before)
chosen named named_is at before e = ap (λ (b : Bool). if b then at else before) e

pub loop-at-preserved : goal.loop-at-preserved
loop-at-preserved c =
    let number = c.args.number in
    let operation = c.index-history-at.result in
    let before = last_naming number (take c.loop-at.at c.args.history.now) in
    let more = last_naming-more number c.args.history.now c.loop-at.at operation c.loop-at-test.true
    c.index-history-at.is in
    let named = names-is number operation c.member.result c.eq.result c.member.ensures c.eq.ensures in
    elim c.if-eq.branch [
      | then-eq w ↦ w.version-is ∙ sym (more ∙ chosen (names number operation) true (c.loop-at.at + 1) before
          (named ∙ w.if-eq.true))
      | else-eq w ↦ w.version-is ∙ c.loop-at.invariant
          ∙ sym (more ∙ chosen (names number operation) false (c.loop-at.at + 1) before (named ∙ w.if-eq.false))
    ]
