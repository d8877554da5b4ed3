use Rattle.std.proofs.Common.{false}
use Rattle.atom_grammar.specs.Parts.{content}
use Rattle.atom_grammar.proofs.ReadingLemmas.{no_memory}
use Rattle.atom_grammar.proofs.TextLemmas.{content_nowhere, content_refused, content_found, read_none, read_some}
use Rattle.atom_grammar.proofs.reader.Reader.content.Goals as goal

pub returns-in_default : goal.returns-in_default
returns-in_default c = content_nowhere c.args.self.now.rest.now c.in_default.ensures

pub returns-in_err-text : goal.returns-in_err-text
returns-in_err-text c =
    no_memory (λ value. value) content c.args.self.now.rest.now c.up_to.new.self.rest.now c.from_residual.result
    c.from_residual.ensures.1

pub returns-in_default-2 : goal.returns-in_default-2
returns-in_default-2 c =
    content_refused c.args.self.now.rest.now c.in-Some.written.now c.up_to.new.self.rest.now c.in-Some.ensures
    (read_none false c.in-Some.written.now c.in_ok-text.field-0 c.in_default-2.is c.in_ok-text.ensures)

pub returns : goal.returns
returns c =
    content_found c.args.self.now.rest.now c.in-Some.written.now c.up_to.new.self.rest.now c.in-Some-2.text
    c.in-Some.ensures
    (read_some false c.in-Some.written.now c.in-Some-2.text c.in_ok-text.field-0 c.in-Some-2.is c.in_ok-text.ensures)
