use Rattle.std.proofs.Common.{refl, arith}
use Rattle.std.proofs.lemmas.Int.{ints}
use Rattle.member_rules.specs.Fields.{stamp}
use Rattle.member_rules.specs.RemovalFields.{stamp_from}
use Rattle.member_rules.proofs.FieldLemmas.{stopped, narrow_absent, narrow_broken, narrow_found, stamp_one}
use Rattle.member_rules.proofs.RuledLemmas.{from_narrows}
use Rattle.member_rules.proofs.codec.operation.read_when.Goals as goal

pub returns-in_err-when : goal.returns-in_err-when
returns-in_err-when c =
    let narrow = stamp_from c.args.moment in
    stopped stamp _ narrow _ _ c.args.unread.now.rest.now _ _ c.in_err-when.ensures c.from_residual.ensures.1
    (narrow_absent stamp narrow (from_narrows c.args.moment) _)

pub returns-then-millis : goal.returns-then-millis
unfolding stamp_from
returns-then-millis c = (
  refl,
  narrow_broken stamp (stamp_from c.args.moment) (from_narrows c.args.moment) stamp_one
      c.args.unread.now.rest.now _ _ c.in_ok-when.ensures (λ is. omega (arith, ints, is.1)),
)

pub returns : goal.returns
unfolding stamp stamp_from
returns c =
    narrow_found stamp (stamp_from c.args.moment) (from_narrows c.args.moment) c.args.unread.now.rest.now _ _
    c.in_ok-when.ensures (c.in_ok-when.ensures.lawful, omega (arith, ints))
