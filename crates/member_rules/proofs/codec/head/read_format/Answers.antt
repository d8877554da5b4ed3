use Rattle.std.proofs.Common.{⊎_elim, refl, arith}
use Rattle.member_rules.specs.Fields.{byte}
use Rattle.member_rules.specs.HeadFields.{format}
use Rattle.member_rules.proofs.FieldLemmas.{stopped, narrow_absent, narrow_broken, narrow_found, byte_one}
use Rattle.member_rules.proofs.RuledLemmas.{format_narrows}
use Rattle.member_rules.proofs.codec.head.read_format.Goals as goal

pub returns-in_err-format : goal.returns-in_err-format
returns-in_err-format c =
    stopped byte _ format _ _ c.args.unread.now.rest.now _ _ c.in_err-format.ensures c.from_residual.ensures.1
    (narrow_absent byte format format_narrows _)

pub returns-then-format-lt1 : goal.returns-then-format-lt1
unfolding format
returns-then-format-lt1 c = (
  refl,
  narrow_broken byte format format_narrows byte_one c.args.unread.now.rest.now _ _ c.in_ok-format.ensures
      (λ is. ⊎_elim (λ low. omega (arith, is.0, low)) (λ high. omega (arith, is.1, high.1)) c.then-format-lt1.either),
)

pub returns : goal.returns
unfolding format
returns c =
    narrow_found byte format format_narrows c.args.unread.now.rest.now _ _ c.in_ok-format.ensures
    (omega arith, omega arith)
