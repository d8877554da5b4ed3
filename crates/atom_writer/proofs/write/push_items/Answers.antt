use Rattle.std.proofs.Common.{ℕ, List, subst}
use Rattle.std.proofs.lemmas.List.Elements.{All-nil}
use Rattle.deleted_entries.specs.Item.{IsItem}
use Rattle.atom_writer.specs.Pieces.{item_piece}
use Rattle.atom_values.proofs.WalkLemmas.{All-one_more}
use Rattle.atom_writer.proofs.PieceLemmas.{joined-none, joined-map-more}
use Rattle.atom_writer.proofs.write.push_items.Goals as goal

pub loop-item-init : goal.loop-item-init
loop-item-init g c = record { added = rw joined-none (g.met.W.Out.starts _); rules = All-nil IsItem }

pub loop-item-preserved : goal.loop-item-preserved
loop-item-preserved g c =
    let items = c.args.items.now in
    let i = c.loop-item.item-index in
    record {
      added = subst (λ (s : List ℕ). g.W.Out.adds c.args.out.now c.push_item.new.out s)
          (joined-map-more (item_piece c.args.name.now) items i c.item-item.result c.loop-item-test.true c.item-item.is)
          (g.met.W.Out.joins _ _ _ _ _ c.loop-item.invariant.added c.in_ok-push_item.ensures.added);
      rules = All-one_more IsItem items i c.item-item.result c.loop-item-test.true c.item-item.is
          c.loop-item.invariant.rules c.in_ok-push_item.ensures.rules;
    }
