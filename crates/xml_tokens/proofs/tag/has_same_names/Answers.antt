use Rattle.std.proofs.Common.{get_or, ap, subst, ◌∙◌}
use Rattle.std.proofs.Math.Seq.{take-suc}
use Rattle.std.proofs.lemmas.List.{take_all}
use Rattle.xml_tokens.specs.Keys.{AreApart, HasNeighbors}
use Rattle.xml_tokens.proofs.KeyLemmas.{keys_more, keys_of, tells_same_names}
use Rattle.xml_tokens.proofs.SameNameLemmas.{no_attribute}
use Rattle.xml_tokens.proofs.tag.has_same_names.Goals as goal

pub loop-attribute-preserved : goal.loop-attribute-preserved
loop-attribute-preserved c =
    let raws = c.args.attributes.now in
    let i = c.loop-attribute.attribute-index in
    keys_more raws i (get_or raws i no_attribute) c.key.result c.loop-attribute.keys.items c.push.new.self.items
    (take-suc raws i no_attribute c.loop-attribute-test.true) c.key.ensures c.in_ok-push.ensures.items
    c.loop-attribute.invariant

pub returns : goal.returns
returns c =
    let raws = c.args.attributes.now in
    tells_same_names raws c.loop-attribute.keys.items c.sort_unstable.new.self.items c.has_same_neighbors.result
    (c.loop-attribute.invariant
    ∙ ap keys_of (take_all c.loop-attribute.attribute-index raws c.loop-attribute-test.false))
    c.sort_unstable.ensures.permutation c.sort_unstable.ensures.sorted
    (λ is. subst HasNeighbors c.as_slice.ensures.value (c.has_same_neighbors.ensures.some is))
    (λ is. subst AreApart c.as_slice.ensures.value (c.has_same_neighbors.ensures.none is))
