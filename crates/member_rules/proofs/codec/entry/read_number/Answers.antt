use Rattle.std.proofs.Common.{refl, arith}
use Rattle.member_rules.specs.Fields.{number, counted}
use Rattle.member_rules.proofs.FieldLemmas.{stopped, narrow_absent, narrow_broken, narrow_found, counted_narrows, number_one}
use Rattle.member_rules.proofs.codec.entry.read_number.Goals as goal

pub returns-in_err-number : goal.returns-in_err-number
returns-in_err-number c =
    stopped number _ counted _ _ c.args.unread.now.rest.now _ _ c.in_err-number.ensures c.from_residual.ensures.1
    (narrow_absent number counted counted_narrows _)

pub returns-then-number-eq0 : goal.returns-then-number-eq0
unfolding counted
returns-then-number-eq0 c = (
  refl,
  narrow_broken number counted counted_narrows number_one c.args.unread.now.rest.now _ _ c.in_ok-number.ensures
      (λ is. omega (arith, is.0)),
)

pub returns : goal.returns
unfolding number counted
returns c =
    narrow_found number counted counted_narrows c.args.unread.now.rest.now _ _ c.in_ok-number.ensures
    (omega arith, c.in_ok-number.ensures.lawful)
