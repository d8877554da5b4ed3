use Rattle.std.proofs.Common.{◌++◌, decimal, codes}
use Rattle.atom_values.specs.Stamp.{printed}
use Rattle.command_ends.specs.Summary.{gone_line}
use Rattle.command_ends.proofs.SummaryLemmas.{joins_three}
use Rattle.command_ends.proofs.summary_lines.push_tombstone.Goals as goal

pub returns : goal.returns
unfolding gone_line
returns c =
    let tombstone = c.tombstone.inside in
    let head = codes "gone " ++ decimal tombstone.number ++ codes " " in
    rw (← c.tombstone.view_is)
    (joins_three c.args.out.now.items c.push_numbered.new.out.items c.push_stamp.new.out.items
    c.extend_from_slice.new.self.items
    head (printed tombstone.when) (codes "\n")
    c.in_ok-push_numbered.ensures c.in_ok-push_stamp.ensures c.in_ok-extend_from_slice.ensures.items)
