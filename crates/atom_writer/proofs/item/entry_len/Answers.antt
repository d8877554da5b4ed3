use Rattle.std.proofs.Common.{arith}
use Rattle.atom_writer.proofs.LengthLemmas.{without_failure, entry_piece-counted}
use Rattle.atom_writer.proofs.item.entry_len.Goals as goal

pub returns-clause-length : goal.returns-clause-length
returns-clause-length c =
    let never = c.push_entry.ensures.failed in
    let base = without_failure c.push_entry.result never c.push_entry.ensures.base in
    let rules = without_failure c.push_entry.result never c.push_entry.ensures.rules in
    let added = without_failure c.push_entry.result never c.push_entry.ensures.added in
    omega (arith, added, entry_piece-counted c.args.name.now c.args.entry.now base rules)
