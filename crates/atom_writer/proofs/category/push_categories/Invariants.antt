use Rattle.std.proofs.Common.{All, take}
use Rattle.std.specs.Prelude.{flat_map}
use Rattle.atom_values.specs.Category.{IsCategory}
use Rattle.atom_writer.specs.Parts.{category_text}
use Rattle.atom_writer.proofs.category.push_categories.Given as goal

abbrev pub invariant-loop-category : goal.invariant-loop-category
invariant-loop-category g l = record {
  added : g.W.Out.adds l.fn.out l.out (flat_map category_text (take l.category-index l.categories));
  rules : All IsCategory (take l.category-index l.categories);
}
