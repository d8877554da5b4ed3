use Rattle.std.proofs.Common.{ℕ, List, subst}
use Rattle.std.proofs.lemmas.List.Elements.{All-nil}
use Rattle.atom_values.proofs.WalkLemmas.{All-one_more}
use Rattle.member_rules.proofs.FieldLemmas.{items_more}
use Rattle.member_rules.proofs.codec.lists.push_list.Goals as goal

pub loop-item-init : goal.loop-item-init
loop-item-init g c = record { added = c.in_ok-push.ensures.added; rules = All-nil g.T.Coded.field.Is }

pub loop-item-preserved : goal.loop-item-preserved
loop-item-preserved g c =
    let items = c.args.items.now in
    let i = c.loop-item.item-index in
    record {
      added = subst (λ (s : List ℕ). g.W.Out.adds c.args.out.now c.push-in-loop-item.new.out s)
          (items_more g.T.Coded.field.bytes items i c.item-item.result c.loop-item-test.true c.item-item.is)
          (g.met.W.Out.joins _ _ _ _ _ c.loop-item.invariant.added c.in_ok-push-2.ensures.added);
      rules = All-one_more g.T.Coded.field.Is items i c.item-item.result c.loop-item-test.true c.item-item.is
          c.loop-item.invariant.rules c.in_ok-push-2.ensures.rules;
    }
