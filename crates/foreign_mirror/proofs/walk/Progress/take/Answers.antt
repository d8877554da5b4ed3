use Rattle.std.proofs.Common.{sym, subst}
use Rattle.feed_reader.specs.Feed.{DocumentValue}
use Rattle.foreign_entries.specs.Tally.{Tallies}
use Rattle.foreign_mirror.specs.declared.walk.Visit.{Visit}
use Rattle.foreign_mirror.specs.declared.walk.Visit.TheVariants.{Taken}
use Rattle.foreign_mirror.specs.Walk.{IsOfFeed}
use Rattle.foreign_mirror.specs.Steps.{IsFound}
use Rattle.foreign_mirror.proofs.SoFarLemmas.{taken-docs, taken-feed}
use Rattle.foreign_mirror.proofs.walk.Progress.take.Goals as goal

pub returns-in_ok-add-in-Taken : goal.returns-in_ok-add-in-Taken
returns-in_ok-add-in-Taken c = λ documents taken.
    let old = c.args.self.now in
    let new = c.outcome.new.self in
    let d : DocumentValue = c.args.document in
    let found : IsFound old new c.args.address d (Taken c.in-Taken.prev) =
    subst (λ (v : Visit). IsFound old new c.args.address d v) c.in-Taken.is c.in-Ok.ensures in
    let joins = found.1 in (
      found.0,
      subst (λ f. IsOfFeed f d) taken.feed joins.of_feed,
      record {
        feed = taken-feed documents d old new joins taken;
        live = c.in_ok-add-in-Taken.ensures documents (subst (Tallies documents) (sym joins.live) taken.live);
        docs = taken-docs documents d old new joins taken;
      },
      joins.keys,
    )
