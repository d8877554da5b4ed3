use Rattle.std.proofs.Common.{◌∙◌, All, subst}
use Rattle.std.proofs.lemmas.List.{take_all}
use Rattle.atom_values.proofs.WalkLemmas.{All-one_more}
use Rattle.entry_reader.proofs.rules.ManyRuled.show_rules.Goals as goal

pub loop-item-preserved : goal.loop-item-preserved
loop-item-preserved g c =
    All-one_more g.T.Copies.rules c.as_slice-item-items.result.now c.loop-item.item-index c.item-item.result
    c.loop-item-test.true c.item-item.is c.loop-item.invariant c.show_rules.ensures

pub returns : goal.returns
returns g c =
    let items = c.as_slice-item-items.result.now in
    let whole = take_all c.loop-item.item-index items c.loop-item-test.false in (
      c.as_slice-item-items.ensures.within,
      subst (All g.T.Copies.rules) (whole ∙ c.as_slice-item-items.ensures.items) c.loop-item.invariant,
    )
