-- The lines of the members before the next one are in the text.
use Rattle.std.proofs.Common.{ℤ, List}
use Rattle.member_rules.specs.declared.operation.Op.{Op}
use Rattle.member_rules.specs.Recent.{recent_members}
use Rattle.member_rules.specs.Table.{IsTableOf}
use Rattle.service_face.specs.Listing.{lines_at}
use Rattle.service_face.proofs.WalkLemmas.{IsWalked}
use Rattle.service_face.proofs.lines.listing.Given as goal

abbrev pub invariant-loop : goal.invariant-loop
invariant-loop l = (created : ℤ) (history : List Op) → IsTableOf l.members created history
    → IsWalked (recent_members history) (lines_at l.base history) l.counter l.next l.text.items
