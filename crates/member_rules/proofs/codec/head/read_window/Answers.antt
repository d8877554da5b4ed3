use Rattle.std.proofs.Common.{refl}
use Rattle.member_rules.specs.Fields.{number}
use Rattle.member_rules.specs.HeadFields.{window}
use Rattle.member_rules.proofs.FieldLemmas.{stopped, narrow_absent, narrow_broken, narrow_found, number_one}
use Rattle.member_rules.proofs.RuledLemmas.{window_narrows}
use Rattle.member_rules.proofs.codec.head.read_window.Goals as goal

pub returns-in_err-number : goal.returns-in_err-number
returns-in_err-number c =
    stopped number _ window _ _ c.args.unread.now.rest.now _ _ c.in_err-number.ensures c.from_residual.ensures.1
    (narrow_absent number window window_narrows _)

pub returns-in_default : goal.returns-in_default
unfolding window
returns-in_default c = (
  refl,
  narrow_broken number window window_narrows number_one c.args.unread.now.rest.now _ _ c.in_ok-number.ensures
      c.in_default.ensures.none,
)

pub returns : goal.returns
unfolding window
returns c =
    narrow_found number window window_narrows c.args.unread.now.rest.now _ _
    (rw (← c.in-Some.ensures.found) at c.in_ok-number.ensures) c.in-Some.ensures.rules
