use Rattle.std.proofs.Common.{◌≤◌, length}
use Rattle.std.specs.Prelude.{unwrap_or}
use Rattle.xml_tokens.specs.Reading.{numbered_behind}
use Rattle.xml_tokens.proofs.PartLemmas.{Leads}
use Rattle.xml_tokens.proofs.NumberLemmas.{left}
use Rattle.xml_tokens.proofs.cursor.Cursor.number.Given as goal

abbrev pub invariant-loop-byte : goal.invariant-loop-byte
invariant-loop-byte l = record {
  small : unwrap_or l.value 0 ≤ 0x10_FFFF;
  leads : Leads (numbered_behind l.base) l.fn.self.rest.now (left l.base l.value) l.rest;
}

abbrev pub decreases-loop-byte : goal.decreases-loop-byte
decreases-loop-byte l = length l.rest
