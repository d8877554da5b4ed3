use Rattle.std.proofs.Common.{◌≡◌, ◌++◌, codes, decimal, Ok}
use Rattle.atom_values.specs.declared.memory.NoMemory.{NoMemory}
use Rattle.mirror_commands.specs.Report.{counts_line}
use Rattle.command_ends.proofs.SummaryLemmas.{joins_number}
use Rattle.mirror_commands.proofs.report.push_counts.Goals as goal

pub returns : goal.returns
unfolding counts_line
returns c =
    let counts = c.args.counts in
    let o0 = c.args.out.now.items in
    let o1 = c.push_numbered.new.out.items in
    let o2 = c.push_numbered-2.new.out.items in
    let o3 = c.push_numbered-3.new.out.items in
    let space = codes " " in
    let taken = codes "offers " ++ decimal counts.taken ++ space in
    let known = taken ++ decimal counts.known ++ space in
    let stale = known ++ decimal counts.stale ++ space in
    let two : o2 ≡ o0 ++ known =
    joins_number {T = Unit {0}} {E = NoMemory} (Ok tt) o0 o1 o2 taken (decimal counts.known) space
    c.in_ok-push_numbered.ensures c.in_ok-push_numbered-2.ensures in
    let three : o3 ≡ o0 ++ stale =
    joins_number {T = Unit {0}} {E = NoMemory} (Ok tt) o0 o2 o3 known (decimal counts.stale) space two
    c.in_ok-push_numbered-3.ensures in
    joins_number c.push_numbered-4.result o0 o3 c.push_numbered-4.new.out.items stale (decimal counts.refused)
    (codes "\n") three c.push_numbered-4.ensures
