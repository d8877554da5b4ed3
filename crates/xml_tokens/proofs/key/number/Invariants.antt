use Rattle.std.proofs.Common.{◌≡◌, drop}
use Rattle.xml_tokens.specs.Keys.{number_from, number_of}
use Rattle.xml_tokens.proofs.key.number.Given as goal

abbrev pub invariant-loop-byte : goal.invariant-loop-byte
invariant-loop-byte l = number_from l.number (drop l.byte-index l.name) ≡ number_of l.name
