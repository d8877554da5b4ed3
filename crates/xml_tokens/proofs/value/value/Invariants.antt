use Rattle.std.proofs.Common.{length}
use Rattle.xml_tokens.proofs.ValueLemmas.{GoesOn}
use Rattle.xml_tokens.proofs.value.value.Given as goal

abbrev pub invariant-loop-byte : goal.invariant-loop-byte
invariant-loop-byte l = GoesOn l.fn.written l.out.items l.cursor.rest.now

abbrev pub decreases-loop-byte : goal.decreases-loop-byte
decreases-loop-byte l = length l.cursor.rest.now
