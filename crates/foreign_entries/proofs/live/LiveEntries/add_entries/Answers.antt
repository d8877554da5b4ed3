use Rattle.std.proofs.Common.{◌≡◌, [], ◌∷◌, ◌++◌, sym, subst, ◌∙◌}
use Rattle.std.proofs.lemmas.List.{nil_from_length}
use Rattle.foreign_entries.specs.Added.{AddsEntries}
use Rattle.foreign_entries.proofs.AddedLemmas.{no_entries, one_more_entry, one_less, none_left}
use Rattle.foreign_entries.proofs.live.LiveEntries.add_entries.Goals as goal

pub loop-entry-init : goal.loop-entry-init
loop-entry-init c = ([], c.into_iter-entry-iterator.ensures.into_iter_gives.0, no_entries c.args.document_updated c.args.self.now)

pub loop-entry-preserved : goal.loop-entry-preserved
loop-entry-preserved c =
    let done = c.loop-entry.invariant.0 in
    let e = c.in-Some.entry in (
      done ++ e ∷ [],
      one_less done _ _ c.args.entries.items e c.loop-entry.invariant.1 c.in-Some.ensures.steps.0,
      one_more_entry done e c.args.document_updated c.args.self.now c.loop-entry.self c.add_entry.new.self
          c.loop-entry.invariant.2 c.in_ok-add_entry.ensures,
    )

pub returns : goal.returns
returns c =
    let rest = c.loop-entry.entry-iterator.rest in
    let nil : rest.items ≡ [] = nil_from_length rest.items (sym rest.ok.0 ∙ c.in-None.ensures.steps.0) in
    subst (λ xs. AddsEntries xs c.args.document_updated c.args.self.now c.loop-entry.self)
    (none_left c.loop-entry.invariant.0 _ c.args.entries.items c.loop-entry.invariant.1 nil) c.loop-entry.invariant.2
