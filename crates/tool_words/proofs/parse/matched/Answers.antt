use Rattle.std.proofs.Common.{◌∙◌}
use Rattle.tool_words.proofs.parse.matched.Goals as goal

pub returns : goal.returns
returns c = record {
  found = tt;
  only = λ takes. absurd (c.in_default.not-OutOfMemory (c.kind.ensures ∙ c.in-Err.ensures.passes takes));
}
