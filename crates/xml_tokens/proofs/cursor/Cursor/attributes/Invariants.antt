use Rattle.std.proofs.Common.{◌≡◌, [], length}
use Rattle.xml_tokens.proofs.BehindNameLemmas.{TagState}
use Rattle.xml_tokens.proofs.cursor.Cursor.attributes.Given as goal

abbrev pub invariant-loop-self : goal.invariant-loop-self
invariant-loop-self l = l.fn.attributes.items ≡ [] → TagState l.fn.self.rest.now l.attributes.items l.self.rest.now

abbrev pub decreases-loop-self : goal.decreases-loop-self
decreases-loop-self l = length l.self.rest.now
