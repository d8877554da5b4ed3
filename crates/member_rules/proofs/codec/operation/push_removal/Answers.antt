use Rattle.std.proofs.Common.{ℕ, List, subst, arith}
use Rattle.std.proofs.lemmas.Int.{ints}
use Rattle.member_rules.proofs.OperationLemmas.{removal_written}
use Rattle.member_rules.specs.Fields.{stamp}
use Rattle.member_rules.proofs.codec.operation.push_removal.Goals as goal

pub returns-clause-added : goal.returns-clause-added
returns-clause-added g c =
    let join = g.met.W.Out.joins in
    let P : List ℕ → Type 0 = g.W.Out.adds c.args.out.now c.push-2.new.out in
    subst P (removal_written c.args.removal.now)
    (rw (← c.removal.view_is, ← c.removal-inside.view_is)
    (join _ _ _ _ _ (join _ _ _ _ _ c.in_ok-push_number.ensures.added c.in_ok-push.ensures.added)
    c.in_ok-push-2.ensures.added))

pub returns-clause-rules : goal.returns-clause-rules
unfolding stamp
returns-clause-rules g c = rw (← c.removal.view_is, ← c.removal-inside.view_is) (record {
  tombstone = record {
    number =
        (c.removal-inside.invariant, c.in_ok-push_number.ensures.rules);
    when = c.in_ok-push-2.ensures.rules;
  };
  moment = c.in_ok-push.ensures.rules;
  in_order = omega (arith, ints, rw (← c.removal-inside.view_is) at c.removal.invariant.le);
})
