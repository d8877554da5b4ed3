use Rattle.std.proofs.Common.{refl}
use Rattle.std.proofs.lemmas.Result.{on_ok_weaker}
use Rattle.doc_source.specs.Fetch.{FetchState}
use Rattle.feed_disk.specs.declared.area.Area.TheVariants.{Journal}
use Rattle.feed_life.specs.StoreFetch.{store_answers}
use Rattle.feed_life.proofs.WalkedLemmas.{on-ok-of, walk-runs}
use Rattle.feed_life.proofs.walks.walk_over.Goals as goal

pub returns-clause-runs : goal.returns-clause-runs
returns-clause-runs c = on_ok_weaker c.end_of.result (λ over head history kept ready.
    let documents = c.args.documents.now in
    let source : FetchState = record {
      asked = documents.asked;
      answers = store_answers documents.store.head documents.store.history;
      faults = 0;
    } in
    walk-runs c.begun_images_are_whole.ensures c.stores_answer_what_is_served.ensures head history kept c.args.disk.now
    c.walk-walked.new.disk c.args.mirror.now c.walk-walked.new.self documents source ready refl _
    c.walk-walked.result over (c.walk-walked.ensures.served tt head history)
    (c.walk-walked.ensures.walked tt) (λ worked. (c.walk-walked.ensures.sound worked).stands tt)
    (c.walk-walked.ensures.moments tt tt) (λ worked. (c.walk-walked.ensures.sound worked).rests tt)
    (λ worked. (c.walk-walked.ensures.sound worked).most))
    c.end_of.ensures

pub returns-clause-later : goal.returns-clause-later
returns-clause-later c = on-ok-of c.end_of.result _ (c.walk-walked.ensures.setting.others Journal (λ e. cc)).leaves.later
