use Rattle.std.proofs.Common.{codes}
use Rattle.chain_links.specs.Address.{printed}
use Rattle.mirror_commands.specs.Report.{missing_line}
use Rattle.command_ends.proofs.SummaryLemmas.{joins_three}
use Rattle.mirror_commands.proofs.report.push_missing.Goals as goal

pub returns : goal.returns
unfolding missing_line
returns c =
    joins_three c.args.out.now.items c.extend_from_slice.new.self.items c.print_into.new.out.items
    c.extend_from_slice-2.new.self.items (codes "missing ") (printed c.args.base.now c.args.address) (codes "\n")
    c.in_ok-extend_from_slice.ensures.items c.in_ok-print_into.ensures.ok c.in_ok-extend_from_slice-2.ensures.items
