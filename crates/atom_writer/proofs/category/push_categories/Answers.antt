use Rattle.std.proofs.Common.{ℕ, List, subst}
use Rattle.std.proofs.lemmas.List.Elements.{All-nil}
use Rattle.atom_values.specs.Category.{IsCategory}
use Rattle.atom_writer.specs.Parts.{category_text}
use Rattle.atom_values.proofs.WalkLemmas.{All-one_more}
use Rattle.atom_writer.proofs.PieceLemmas.{flat_map-more}
use Rattle.atom_writer.proofs.category.push_categories.Goals as goal

pub loop-category-init : goal.loop-category-init
loop-category-init g c = record { added = g.met.W.Out.starts _; rules = All-nil IsCategory }

pub loop-category-preserved : goal.loop-category-preserved
loop-category-preserved g c =
    let items = c.args.categories.now in
    let i = c.loop-category.category-index in
    record {
      added = subst (λ (s : List ℕ). g.W.Out.adds c.args.out.now c.push_category.new.out s)
          (flat_map-more category_text items i c.category-item.result c.loop-category-test.true c.category-item.is)
          (g.met.W.Out.joins _ _ _ _ _ c.loop-category.invariant.added c.in_ok-push_category.ensures.added);
      rules = All-one_more IsCategory items i c.category-item.result c.loop-category-test.true c.category-item.is
          c.loop-category.invariant.rules c.in_ok-push_category.ensures.rules;
    }
