use Rattle.std.proofs.Common.{refl}
use Rattle.tool_words.proofs.LineLemmas.{member_number-none, member_number-some}
use Rattle.tool_words.proofs.line.number_of.Goals as goal

pub returns-in-Some : goal.returns-in-Some
returns-in-Some c =
    let f = c.in-Some.ensures.found in member_number-some c.args.digits.now c.in-Some.number f.0 f.1 f.2

pub returns-in-None : goal.returns-in-None
returns-in-None c = (
  refl,
  member_number-none c.args.digits.now (λ n low high e. let found = c.in-None.ensures.only n low high e in cc),
)
