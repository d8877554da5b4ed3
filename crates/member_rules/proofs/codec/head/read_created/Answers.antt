use Rattle.std.proofs.Common.{refl, arith}
use Rattle.std.proofs.lemmas.Int.{ints}
use Rattle.member_rules.specs.Fields.{stamp}
use Rattle.member_rules.specs.HeadFields.{created}
use Rattle.member_rules.proofs.FieldLemmas.{stopped, narrow_absent, narrow_broken, narrow_found, stamp_one}
use Rattle.member_rules.proofs.RuledLemmas.{created_narrows}
use Rattle.member_rules.proofs.codec.head.read_created.Goals as goal

pub returns-in_err-created : goal.returns-in_err-created
returns-in_err-created c =
    stopped stamp _ created _ _ c.args.unread.now.rest.now _ _ c.in_err-created.ensures c.from_residual.ensures.1
    (narrow_absent stamp created created_narrows _)

pub returns-then-millis-lt0 : goal.returns-then-millis-lt0
unfolding created
returns-then-millis-lt0 c = (
  refl,
  narrow_broken stamp created created_narrows stamp_one c.args.unread.now.rest.now _ _ c.in_ok-created.ensures
      (λ is. omega (arith, ints, is.1)),
)

pub returns : goal.returns
unfolding stamp created
returns c =
    narrow_found stamp created created_narrows c.args.unread.now.rest.now _ _ c.in_ok-created.ensures
    (c.in_ok-created.ensures.lawful, omega (arith, ints))
