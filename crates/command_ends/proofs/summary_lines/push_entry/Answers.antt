use Rattle.std.proofs.Common.{◌++◌, decimal, codes, true}
use Rattle.atom_values.specs.Escape.{escaped}
use Rattle.atom_values.specs.Stamp.{printed}
use Rattle.command_ends.specs.Summary.{entry_line}
use Rattle.command_ends.proofs.SummaryLemmas.{joins_five}
use Rattle.command_ends.proofs.summary_lines.push_entry.Goals as goal

pub returns : goal.returns
unfolding entry_line
returns c =
    let entry = c.entry.inside in
    let head = codes "entry " ++ decimal entry.number ++ codes " " in
    rw (← c.entry.view_is)
    (joins_five c.args.out.now.items c.push_numbered.new.out.items c.push_stamp.new.out.items
    c.extend_from_slice.new.self.items c.escape_into.new.out.items c.extend_from_slice-2.new.self.items
    head (printed entry.updated) (codes " ") (escaped true entry.title.value) (codes "\n")
    c.in_ok-push_numbered.ensures c.in_ok-push_stamp.ensures c.in_ok-extend_from_slice.ensures.items
    c.in_ok-escape_into.ensures.ok c.in_ok-extend_from_slice-2.ensures.items)
