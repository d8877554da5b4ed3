use Rattle.std.proofs.Common.{sym, subst, ◌∙◌}
use Rattle.std.proofs.lemmas.Bool.{false≢true}
use Rattle.mirror_walk.specs.Index.{IsBaseMap, IsIndexed}
use Rattle.mirror_walk.proofs.BaseLemmas.{bare-none, base-bare}
use Rattle.mirror_walk.proofs.documents.Documents.list.Goals as goal
use Rattle.mirror_walk.proofs.documents.Documents.list.Goals.{After-replace-map}

-- an empty base map
begun : (c : After-replace-map)
    → IsIndexed c.self.inside.kept.items c.self.inside.archives c.self.inside.best c.replace-map.new.dest
    c.self.inside.listed c.self.inside.feed c.self.inside.name
begun c =
    let kept = c.self.inside.kept.items in
    let none = c.new.ensures in
    record {
      archives_there = c.self.invariant.archives_there;
      best_there = c.self.invariant.best_there;
      base_there = subst (IsBaseMap kept) (sym c.replace-map.ensures.after)
          (base-bare kept c.new.result (bare-none kept c.new.result none.last none.empty none.bare));
      listing = λ on. absurd (false≢true (sym c.if-self.false ∙ on));
      feed_there = c.self.invariant.feed_there;
      name_there = c.self.invariant.name_there;
    }

pub invariant_of-self : goal.invariant_of-self
invariant_of-self c = begun (goal.at.invariant_of-self c).After-replace-map

pub invariant_of-self-in_err-self-inside : goal.invariant_of-self-in_err-self-inside
invariant_of-self-in_err-self-inside c = begun (goal.at.invariant_of-self-in_err-self-inside c).After-replace-map
