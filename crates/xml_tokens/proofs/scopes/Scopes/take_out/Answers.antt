use Rattle.std.proofs.Common.{refl, sym, ◌∙◌, arith}
use Rattle.xml_tokens.proofs.ScopeLemmas.{taken_out}
use Rattle.xml_tokens.proofs.scopes.Scopes.take_out.Goals as goal

pub returns-then-declares : goal.returns-then-declares
returns-then-declares c =
    let s = c.args.self.now in
    taken_out s (record s { declared = c.pop.new.self }) c.pop.result refl (sym c.declares.ensures ∙ c.if-declares.true)
    c.pop.ensures.items (λ some. c.pop.ensures.variant.1 (omega (arith, s.declared.ok.0, some)))

pub returns-else-declares : goal.returns-else-declares
returns-else-declares c = (refl, sym c.declares.ensures ∙ c.if-declares.false)
