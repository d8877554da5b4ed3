use Rattle.std.proofs.Common.{take, bytes_eq}
use Rattle.std.specs.List.{IsDistinct}
use Rattle.xml_tokens.specs.Reading.{names}
use Rattle.xml_tokens.proofs.tag.has_same_pair.Given as goal

abbrev pub invariant-loop-index : goal.invariant-loop-index
invariant-loop-index l = IsDistinct bytes_eq (names (take l.index l.attributes))
