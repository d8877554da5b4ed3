use Rattle.std.proofs.Common.{◌≡◌, ℕ, ◌∙◌, ap, sym, subst, arith, rules}
use Rattle.feed_disk.proofs.MomentLemmas.{alone_begins, alone_joins}
use Rattle.feed_recovery.specs.Documents.{sealed_count}
use Rattle.feed_recovery.specs.Stored.{stored_of}
use Rattle.feed_commands.specs.Pile.{TakesFront, offers_of}
use Rattle.feed_commands.proofs.PileLemmas.{archive-prefix, archives_of, feed-prefix, front-archive, front-feed, front-head, head-prefix, same-archive}
use Rattle.feed_commands.proofs.commands.pile.print_documents.Goals as goal

pub returns-in_err-write_pile_head-clause-prefix : goal.returns-in_err-write_pile_head-clause-prefix
returns-in_err-write_pile_head-clause-prefix g c = λ is seen observable.
    head-prefix g.D.Disk.observable (stored_of c.args.store.now) _ _ (c.in_err-write_pile_head.ensures.prefix observable)

pub returns-in_err-feed_offer-clause-cut : goal.returns-in_err-feed_offer-clause-cut
returns-in_err-feed_offer-clause-cut g c = λ fault is observable. (
  offers_of (stored_of c.args.store.now),
  front-head g.D.Disk.observable (stored_of c.args.store.now) _ _ (c.in_ok-write_pile_head.ensures.whole observable),
)

pub returns-in_err-print_offer-clause-prefix : goal.returns-in_err-print_offer-clause-prefix
returns-in_err-print_offer-clause-prefix g c = λ is seen observable.
    feed-prefix g.D.Disk.observable (stored_of c.args.store.now) _ _ (g.O.Sink.state c.write_pile_head.new.sink) _
    c.in_ok-feed_offer.ensures.offer seen (c.in_ok-write_pile_head.ensures.whole observable)
    (c.in_err-print_offer.ensures.prefix observable)

pub loop-number-init : goal.loop-number-init
loop-number-init g c = record {
  within = search rules;
  head = search rules;
  history = search rules;
  unspent = search rules;
  stands = search rules;
  front = λ observable.
      let stored = stored_of c.args.store.now in
      let before = g.O.Sink.state c.args.output.now in
      let after = g.O.Sink.state c.print_offer.new.output in
      let all : c.sealed-number.result ≡ sealed_count c.args.store.now =
      c.sealed-number.ensures ∙ ap sealed_count c.in_ok-feed_offer.ensures.same in
      subst (λ (number : ℕ). TakesFront g.D.Disk.observable (offers_of stored) (archives_of stored number) before
      after) (sym all)
      (front-feed g.D.Disk.observable stored _ before (g.O.Sink.state c.write_pile_head.new.sink) after
      c.in_ok-feed_offer.ensures.offer (c.in_ok-write_pile_head.ensures.whole observable)
      (c.in_ok-print_offer.ensures.whole observable));
  areas = λ a. alone_begins _ a;
  disk_faults = search rules;
  output_faults = search rules;
}

pub returns-in_err-archive_offer-clause-areas : goal.returns-in_err-archive_offer-clause-areas
returns-in_err-archive_offer-clause-areas g c = λ a.
    alone_joins _ _ _ a (c.loop-number.invariant.areas a) (c.archive_offer.ensures.areas a)

pub returns-in_err-print_offer-2-clause-prefix : goal.returns-in_err-print_offer-2-clause-prefix
returns-in_err-print_offer-2-clause-prefix g c = λ is seen observable.
    archive-prefix g.D.Disk.observable (stored_of c.args.store.now) c.loop-number.number _ _
    (g.O.Sink.state c.loop-number.output) _ (omega arith)
    (λ disk. c.in_ok-archive_offer.ensures.offer disk
    ∙ same-archive _ _ _ _ _ c.loop-number.invariant.head c.loop-number.invariant.history)
    seen (c.loop-number.invariant.front observable) (c.in_err-print_offer-2.ensures.prefix observable)

pub returns-in_err-print_offer-2-clause-areas : goal.returns-in_err-print_offer-2-clause-areas
returns-in_err-print_offer-2-clause-areas g c = λ a.
    alone_joins _ _ _ a (c.loop-number.invariant.areas a) (c.archive_offer.ensures.areas a)

pub loop-number-preserved : goal.loop-number-preserved
loop-number-preserved g c = record {
  within = omega arith;
  head = search rules;
  history = search rules;
  unspent = search rules;
  stands = search rules;
  front = λ observable.
      front-archive g.D.Disk.observable (stored_of c.args.store.now) c.loop-number.number _ _
      (g.O.Sink.state c.loop-number.output) _ (omega arith)
      (λ disk. c.in_ok-archive_offer.ensures.offer disk
      ∙ same-archive _ _ _ _ _ c.loop-number.invariant.head c.loop-number.invariant.history)
      (c.loop-number.invariant.front observable) (c.in_ok-print_offer-2.ensures.whole observable);
  areas = λ a. alone_joins _ _ _ a (c.loop-number.invariant.areas a) (c.archive_offer.ensures.areas a);
  disk_faults = search rules;
  output_faults = search rules;
}
