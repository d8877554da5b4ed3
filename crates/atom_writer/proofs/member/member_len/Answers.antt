use Rattle.std.proofs.Common.{arith}
use Rattle.atom_writer.proofs.LengthLemmas.{without_failure, member_text-counted}
use Rattle.atom_writer.proofs.member.member_len.Goals as goal

pub returns : goal.returns
returns c =
    let never = c.push_member.ensures.failed in
    let base = without_failure c.push_member.result never c.push_member.ensures.base in
    let author = without_failure c.push_member.result never c.push_member.ensures.author in
    let rules = without_failure c.push_member.result never c.push_member.ensures.rules in
    let added = without_failure c.push_member.result never c.push_member.ensures.added in
    omega (arith, added, member_text-counted c.args.name.now c.args.entry.now base author rules)
