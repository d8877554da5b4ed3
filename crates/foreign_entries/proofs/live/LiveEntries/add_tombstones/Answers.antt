use Rattle.std.proofs.Common.{◌≡◌, [], ◌∷◌, ◌++◌, sym, subst, ◌∙◌}
use Rattle.std.proofs.lemmas.List.{nil_from_length}
use Rattle.foreign_entries.specs.Added.{AddsTombstones}
use Rattle.foreign_entries.proofs.AddedLemmas.{no_tombstones, one_more_tombstone, one_less, none_left}
use Rattle.foreign_entries.proofs.live.LiveEntries.add_tombstones.Goals as goal

pub loop-gone-init : goal.loop-gone-init
loop-gone-init c = ([], c.into_iter-gone-iterator.ensures.into_iter_gives.0, no_tombstones c.args.self.now)

pub loop-gone-preserved : goal.loop-gone-preserved
loop-gone-preserved c =
    let done = c.loop-gone.invariant.0 in
    let g = c.in-Some.gone in (
      done ++ g ∷ [],
      one_less done _ _ c.args.gone.items g c.loop-gone.invariant.1 c.in-Some.ensures.steps.0,
      one_more_tombstone done g c.args.self.now c.loop-gone.self c.add_tombstone.new.self
          c.loop-gone.invariant.2 c.in_ok-add_tombstone.ensures,
    )

pub returns : goal.returns
returns c =
    let rest = c.loop-gone.gone-iterator.rest in
    let nil : rest.items ≡ [] = nil_from_length rest.items (sym rest.ok.0 ∙ c.in-None.ensures.steps.0) in
    subst (λ xs. AddsTombstones xs c.args.self.now c.loop-gone.self)
    (none_left c.loop-gone.invariant.0 _ c.args.gone.items c.loop-gone.invariant.1 nil) c.loop-gone.invariant.2
