use Rattle.std.proofs.Common.{get_or, take, drop, suc, true, bytes_eq, sym, subst, ◌∙◌}
use Rattle.std.proofs.Math.Seq.{take-suc}
use Rattle.std.proofs.lemmas.List.{take_all}
use Rattle.std.specs.List.{IsDistinct}
use Rattle.xml_tokens.specs.declared.tag.Attribute.{Attribute as Raw}
use Rattle.xml_tokens.specs.Reading.{TellsSame, names}
use Rattle.xml_tokens.proofs.SameNameLemmas.{any_name, distinct_more, names_all, names_next, no_attribute, no_names}
use Rattle.xml_tokens.proofs.SameNameLemmas.{tells_none, tells_same}
use Rattle.xml_tokens.proofs.tag.has_same_pair.Goals as goal

pub loop-index-init : goal.loop-index-init
loop-index-init c = no_names

pub loop-index-preserved : goal.loop-index-preserved
loop-index-preserved c =
    let raws = c.args.attributes.now in
    let i = c.loop-index.index in
    let a : Raw = get_or raws i no_attribute in
    subst (IsDistinct bytes_eq) (sym (names_next raws i a (take-suc raws i no_attribute c.loop-index-test.true)))
    (distinct_more (names (take i raws)) a.name.now c.loop-index.invariant
    (sym (any_name a.name.now (take i raws)) ∙ sym c.has_name.ensures ∙ c.if-has_name.false))

pub returns-then-has_name : goal.returns-then-has_name
returns-then-has_name c =
    let raws = c.args.attributes.now in
    let i = c.loop-index.index in
    let a : Raw = get_or raws i no_attribute in
    subst (λ xs. TellsSame xs true) (sym (names_all raws i a (take-suc raws i no_attribute c.loop-index-test.true)))
    (tells_same (names (take i raws)) a.name.now (names (drop (suc i) raws))
    (sym (any_name a.name.now (take i raws)) ∙ sym c.has_name.ensures ∙ c.if-has_name.true))

pub returns : goal.returns
returns c =
    let raws = c.args.attributes.now in
    tells_none (names raws) (subst (λ xs. IsDistinct bytes_eq (names xs))
    (take_all c.loop-index.index raws c.loop-index-test.false) c.loop-index.invariant)
