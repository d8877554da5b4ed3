use Rattle.std.proofs.Common.{◌≡◌, inr, subst}
use Rattle.std.proofs.lemmas.Result.{err_from_is_err_and, on_ok_weaker}
use Rattle.feed_disk.specs.declared.area.Area.TheVariants.{Journal, Sealed, Mirror}
use Rattle.feed_disk.proofs.MomentLemmas.{alone_joins}
use Rattle.feed_recovery.specs.Stored.{stored_of}
use Rattle.feed_recovery.proofs.LoadedLemmas.{payloads-then-alone}
use Rattle.command_ends.specs.Fault.{IsRefusal}
use Rattle.command_ends.specs.StoreFaults.{load_fault}
use Rattle.store_commands.proofs.AnswerOnLemmas.{not-refusal}
use Rattle.store_commands.proofs.StoreLemmas.{opens-same}
use Rattle.feed_commands.proofs.commands.pile.print_pile.Goals as goal

pub returns-in_err-store-clause-opened : goal.returns-in_err-store-clause-opened
returns-in_err-store-clause-opened g c = λ fault is observable stored opens refusal.
    let p = err_from_is_err_and c.from_residual.result c.from_residual.ensures.1 in
    let same : fault ≡ load_fault c.in_err-store.field-0.0 = cc (p.1, p.2) in
    not-refusal c.in_err-store.field-0.0
    (c.in_err-store.ensures.only observable stored.head stored.history stored.seals opens) (subst IsRefusal same refusal)

pub returns-clause-whole : goal.returns-clause-whole
returns-clause-whole g c = on_ok_weaker c.print_documents-printed.result
    (λ whole observable.
    let stored = stored_of c.in_ok-store.store in (
      stored,
      opens-same (g.D.Disk.state c.args.disk.now).content (g.D.Disk.state c.load.new.disk).content stored
          (c.in_ok-store.ensures.same observable) (c.in_ok-store.ensures.opens observable).opens,
      whole observable,
    ))
    c.print_documents-printed.ensures.whole

pub returns-clause-prefix : goal.returns-clause-prefix
returns-clause-prefix g c = λ is observable.
    let stored = stored_of c.in_ok-store.store in (
      stored,
      opens-same (g.D.Disk.state c.args.disk.now).content (g.D.Disk.state c.load.new.disk).content stored
          (c.in_ok-store.ensures.same observable) (c.in_ok-store.ensures.opens observable).opens,
      c.print_documents-printed.ensures.prefix is observable,
    )

pub returns-clause-cut : goal.returns-clause-cut
returns-clause-cut g c = λ fault is sink.
    let stored = stored_of c.in_ok-store.store in
    let cut = c.print_documents-printed.ensures.cut fault is sink in (
      cut.1.front,
      cut.1.taken,
      λ observable.
          inr record {
            stored = stored;
            opens = opens-same (g.D.Disk.state c.args.disk.now).content (g.D.Disk.state c.load.new.disk).content stored
                (c.in_ok-store.ensures.same observable) (c.in_ok-store.ensures.opens observable).opens;
            left = cut.0;
            is = cut.1.is observable;
          },
    )

pub returns-clause-refused : goal.returns-clause-refused
returns-clause-refused g c = λ fault is refusal observable. absurd (c.print_documents-printed.ensures.opened fault is observable refusal)

pub returns-clause-safe : goal.returns-clause-safe
returns-clause-safe g c = λ observable.
    payloads-then-alone _ _ _ (c.in_ok-store.ensures.payloads observable) (c.print_documents-printed.ensures.areas Journal)
    (c.print_documents-printed.ensures.areas Sealed)

pub returns-clause-mirror : goal.returns-clause-mirror
returns-clause-mirror g c = alone_joins _ _ _ Mirror c.load.ensures.mirror (c.print_documents-printed.ensures.areas Mirror)
