use Rattle.std.proofs.Common.{refl}
use Rattle.member_rules.specs.Fields.{size, stamp}
use Rattle.member_rules.proofs.FieldLemmas.{stopped, stamp_absent, stamp_past, stamp_found}
use Rattle.member_rules.proofs.codec.values.StampCoded.read.Goals as goal

pub returns-in_err-size : goal.returns-in_err-size
returns-in_err-size c =
    stopped size _ stamp _ _ c.args.unread.now.rest.now _ _ c.in_err-size.ensures c.from_residual.ensures.1
    (stamp_absent _)

pub returns-in_default : goal.returns-in_default
returns-in_default c = (
  refl,
  stamp_past c.args.unread.now.rest.now _ _ c.in_ok-size.ensures
      (λ z is same. let past = c.in_default.ensures.only z is same in absurd cc),
)

pub returns : goal.returns
returns c =
    stamp_found c.args.unread.now.rest.now _ _ _ c.in_ok-size.ensures c.in-Some.ensures.found.0
    c.in-Some.ensures.found.1
