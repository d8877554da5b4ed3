use Rattle.std.proofs.Common.{[], ◌∷◌, ◌++◌, OnOk, subst}
use Rattle.std.proofs.lemmas.Result.{on_ok_weaker}
use Rattle.feed_reader.specs.contracts.values.ForeignDoc.{the_view}
use Rattle.foreign_entries.specs.Tally.{Tallies}
use Rattle.foreign_entries.proofs.AddedLemmas.{one_more_document}
use Rattle.foreign_entries.proofs.live.LiveEntries.add.Goals as goal

pub returns : goal.returns
returns c = λ documents tallies.
    subst (λ d. OnOk c.add_tombstones.result (Tallies (documents ++ d ∷ []) c.add_tombstones.new.self)) c.document.view_is
    (on_ok_weaker c.add_tombstones.result
    (λ adds. one_more_document documents (the_view c.document.inside) c.args.self.now c.add_entries.new.self
    c.add_tombstones.new.self c.into_vec.result.items c.into_vec-2.result.items c.into_vec.ensures.items
    c.into_vec-2.ensures.items c.in_ok-add_entries.ensures adds tallies)
    c.add_tombstones.ensures)
