use Rattle.std.proofs.Common.{None, Some}
use Rattle.std.proofs.lemmas.Bool.Decides.{Decides-eqb}
use Rattle.std.proofs.lemmas.Slice.Eq.{strip_prefix_is}
use Rattle.atom_grammar.specs.Parts.{literal}
use Rattle.atom_grammar.proofs.ReadingLemmas.{found, literal_alone}
use Rattle.atom_grammar.proofs.reader.Reader.literal.Goals as goal

pub returns-in-Some : goal.returns-in-Some
unfolding literal
returns-in-Some c =
    found (literal c.args.bytes.now) (literal_alone c.args.bytes.now) c.args.self.now.rest.now tt c.in-Some.rest.now
    tt tt
    (strip_prefix_is Decides-eqb c.args.self.now.rest.now c.args.bytes.now (Some c.in-Some.rest)
    c.in-Some.ensures.cases)

pub returns-in-None : goal.returns-in-None
unfolding literal
returns-in-None c = λ other left _ _ e.
    strip_prefix_is Decides-eqb c.args.self.now.rest.now c.args.bytes.now None c.in-None.ensures.cases left e
