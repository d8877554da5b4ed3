use Rattle.std.proofs.Common.{◌≡◌, ◌⊎◌, inl, inr, Bool, true, false, refl}
use Rattle.feed_recovery.proofs.replay.operation_of.Goals as goal
use Rattle.feed_recovery.proofs.replay.operation_of.Goals.{else-may_follow-via-then-may_follow+else-is_small}
use Rattle.feed_recovery.proofs.replay.operation_of.Goals.{else-may_follow-via-else-may_follow}
use Rattle.member_rules.specs.History.{IsSmall, MayFollow}

pub returns-else-may_follow-clause-refused : goal.returns-else-may_follow-clause-refused
returns-else-may_follow-clause-refused c = λ history table.
    let cause : (¬ MayFollow c.args.head.now.created history c.in-Ok.operation)
    ⊎ (¬ IsSmall c.args.head.now.name c.in-Ok.operation) =
    elim c.else-may_follow.branch [
      | else-may_follow-via-then-may_follow+else-is_small w ↦ inr (λ small.
          let is = w.is_small.ensures.1 small in absurd (differ _ is w.if-is_small.false))
      | else-may_follow-via-else-may_follow w ↦ inl (λ follows.
          let is = (c.may_follow.ensures.exact c.args.head.now.created history table).1 follows in
          absurd (differ _ is w.if-may_follow.false))
    ] in (
      refl,
      refl,
      inr (
        record {
          operation = c.in-Ok.operation;
          rules = c.in-Ok.ensures.found.0;
          bytes = c.in-Ok.ensures.found.1;
          cause = cause;
        },
        refl,
      ),
    )
  where
    differ : (b : Bool) → b ≡ true → b ≡ false → ⊥
    differ b is not = cc
