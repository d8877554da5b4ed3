use Rattle.std.proofs.Common.{length, drop}
use Rattle.std.proofs.lemmas.Bool.Decides.{Decides-eqb}
use Rattle.std.proofs.lemmas.Slice.Eq.{starts_is}
use Rattle.atom_grammar.proofs.TextLemmas.{starts_by}
use Rattle.atom_grammar.proofs.reader.Reader.at.Goals as goal

pub returns : goal.returns
returns c =
    let h =
    starts_is Decides-eqb c.args.self.now.rest.now c.args.bytes.now c.starts_with.result
    c.starts_with.ensures.value in
    starts_by c.args.bytes.now c.args.self.now.rest.now c.starts_with.result
    (λ t. (drop (length c.args.bytes.now) c.args.self.now.rest.now, h.0 t)) h.1
