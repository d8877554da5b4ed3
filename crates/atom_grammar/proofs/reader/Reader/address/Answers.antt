use Rattle.std.proofs.Common.{sym, ap, ◌∙◌}
use Rattle.atom_grammar.specs.Parts.{starts}
use Rattle.atom_grammar.proofs.NameLemmas.{address_elsewhere, address_nowhere, address_read, base_lacks}
use Rattle.atom_grammar.proofs.reader.Reader.address.Goals as goal

pub returns-then-not-at : goal.returns-then-not-at
returns-then-not-at c =
    address_elsewhere c.args.base.now c.args.self.now.rest.now
    (ap (λ x. starts x c.args.self.now.rest.now) (sym c.text.ensures.text) ∙ sym c.at.ensures ∙ c.if-not-at.true)

pub returns-in_default : goal.returns-in_default
returns-in_default c = address_nowhere c.args.base.now c.args.self.now.rest.now c.in_default.ensures

pub returns : goal.returns
returns c =
    address_read c.args.base.now c.args.self.now.rest.now c.in-Some.written.now c.up_to.new.self.rest.now
    c.read.result c.ok_or.result c.ok_or.ensures.value
    (base_lacks c.args.base.now c.text.ensures.base) c.in-Some.ensures c.read.ensures.found c.read.ensures.only
