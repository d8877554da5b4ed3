use Rattle.std.proofs.Common.{◌≡◌, take}
use Rattle.std.specs.List.{list_any}
use Rattle.xml_tokens.specs.Characters.{is_suspect}
use Rattle.xml_tokens.proofs.characters.has_suspect.Given as goal

abbrev pub invariant-loop-byte : goal.invariant-loop-byte
invariant-loop-byte l = l.found ≡ list_any is_suspect (take l.byte-index l.block)
