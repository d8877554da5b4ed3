use Rattle.std.proofs.Common.{List, ap, length, arith}
use Rattle.atom_writer.specs.Doc.{DocValue}
use Rattle.coverage_auditor.proofs.ChainLemmas.{length-shown}
use Rattle.coverage_auditor.proofs.chain.Chain.len.Goals as goal

pub returns : goal.returns
returns c =
    let size = length-shown c.self.inside.documents.items c.self.inside.places.items c.self.invariant.placed in
    let view = ap (λ (documents : List DocValue). length documents) c.self.view_is in
    omega (arith, size, view, c.self.inside.places.ok, c.len.ensures)
