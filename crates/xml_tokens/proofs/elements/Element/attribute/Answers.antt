use Rattle.std.proofs.Common.{sym, ◌∙◌}
use Rattle.xml_tokens.proofs.FirstLemmas.{attribute_found, attribute_none, attribute_turn}
use Rattle.xml_tokens.proofs.elements.Element.attribute.Goals as goal

pub loop-attribute-init : goal.loop-attribute-init
loop-attribute-init c = attribute_none c.args.name.now

pub returns-then-eq : goal.returns-then-eq
returns-then-eq c =
    attribute_found c.args.name.now c.deref-attribute-items.result.now c.args.self.now.attributes.items
    c.loop-attribute.attribute-index _ c.in_ok-value.field-0.items c.deref-attribute-items.ensures.value
    c.loop-attribute-test.true c.requires c.loop-attribute.invariant (sym c.eq.ensures ∙ c.if-eq.true)
    (λ a lawful. c.in_ok-value.ensures lawful.1.1.0 a.value lawful.1.1.1)

pub loop-attribute-preserved : goal.loop-attribute-preserved
loop-attribute-preserved c =
    attribute_turn c.args.name.now c.deref-attribute-items.result.now c.args.self.now.attributes.items
    c.loop-attribute.attribute-index _ c.deref-attribute-items.ensures.value c.loop-attribute-test.true c.requires
    c.loop-attribute.invariant (sym c.eq.ensures ∙ c.if-eq.false)
