use Rattle.std.proofs.Common.{◌++◌, codes, decimal}
use Rattle.mirror_commands.specs.Report.{complete_line}
use Rattle.command_ends.proofs.SummaryLemmas.{joins_number}
use Rattle.mirror_commands.proofs.report.push_complete.Goals as goal

pub returns : goal.returns
unfolding complete_line
returns c =
    joins_number c.push_numbered-2.result c.args.out.now.items c.push_numbered.new.out.items
    c.push_numbered-2.new.out.items (codes "complete " ++ decimal c.args.version ++ codes " ") (decimal c.args.live)
    (codes "\n") c.in_ok-push_numbered.ensures c.push_numbered-2.ensures
