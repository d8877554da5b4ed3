use Rattle.std.proofs.Common.{refl, arith}
use Rattle.member_rules.specs.Fields.{text}
use Rattle.member_rules.specs.HeadFields.{title}
use Rattle.member_rules.proofs.FieldLemmas.{stopped, narrow_absent, narrow_broken, narrow_found, text_one}
use Rattle.member_rules.proofs.RuledLemmas.{title_narrows}
use Rattle.member_rules.proofs.codec.head.read_title.Goals as goal

pub returns-in_err-text : goal.returns-in_err-text
returns-in_err-text c =
    stopped text _ title _ _ c.args.unread.now.rest.now _ _ c.in_err-text.ensures c.from_residual.ensures.1
    (narrow_absent text title title_narrows _)

pub returns-in_default : goal.returns-in_default
unfolding title
returns-in_default c = (
  refl,
  narrow_broken text title title_narrows text_one c.args.unread.now.rest.now _ _ c.in_ok-text.ensures
      (λ is. omega (arith, is.1, c.in_default.ensures)),
)

pub returns : goal.returns
unfolding title
returns c =
    narrow_found text title title_narrows c.args.unread.now.rest.now _ _
    (rw (← c.in-Some.ensures.0) at c.in_ok-text.ensures) c.in-Some.ensures.1
