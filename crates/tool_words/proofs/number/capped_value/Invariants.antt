use Rattle.std.proofs.Common.{◌≡◌, min, take}
use Rattle.tool_words.specs.Numbers.{number_value}
use Rattle.tool_words.proofs.number.capped_value.Given as goal

abbrev pub invariant-loop-digit : goal.invariant-loop-digit
invariant-loop-digit l = l.value ≡ min (number_value (take l.digit-index l.digits)) l.cap
