use Rattle.std.proofs.Common.{arith}
use Rattle.atom_writer.proofs.LengthLemmas.{without_failure, text-counted}
use Rattle.atom_writer.proofs.write.doc_len.Goals as goal

pub returns-clause-length : goal.returns-clause-length
returns-clause-length c =
    let never = c.push_doc.ensures.failed in
    let rules = without_failure c.push_doc.result never c.push_doc.ensures.rules in
    let added = without_failure c.push_doc.result never c.push_doc.ensures.added in
    omega (arith, added, text-counted c.args.doc.now rules)
