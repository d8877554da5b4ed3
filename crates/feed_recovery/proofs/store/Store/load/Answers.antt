use Rattle.std.proofs.Common.{List, ℕ, Err, ◌∙◌, ap, subst, arith}
use Rattle.std.proofs.lemmas.Result.{err_from_is_err_and}
use Rattle.feed_disk.specs.declared.area.Area.TheVariants.{Journal, Sealed, Mirror}
use Rattle.feed_journal.specs.Records.{records}
use Rattle.feed_journal.specs.declared.fault.LogFault.{LogFault}
use Rattle.feed_recovery.specs.Faults.{IsLoadFault}
use Rattle.feed_recovery.specs.Store.{seal_count}
use Rattle.feed_recovery.proofs.FaultLemmas.{opens_without}
use Rattle.feed_recovery.proofs.LoadedLemmas.{all_same, alone_stands, both-payloads, journal_same, loaded_calls}
use Rattle.feed_recovery.proofs.LoadedLemmas.{loaded_rests, mirror_alone, mirror_journal, payloads-leave}
use Rattle.feed_recovery.proofs.LoadedLemmas.{sealed_journal, sealed_same}
use Rattle.feed_recovery.proofs.ReadingLemmas.{reads_begin}
use Rattle.feed_recovery.proofs.RefusedLemmas.{refusal-log}
use Rattle.feed_recovery.proofs.SettleLemmas.{rest_settles}
use Rattle.feed_recovery.proofs.store.Store.load.Goals as goal

pub returns-in_err-journal-clause-payloads : goal.returns-in_err-journal-clause-payloads
returns-in_err-journal-clause-payloads g c = λ tells.
    let s = g.D.Disk.state c.args.disk.now in
    let m = g.D.Disk.state c.open.new.disk in
    record {
      journal = c.open.ensures.moments tells;
      sealed = alone_stands s m Sealed (c.open.ensures.others Sealed sealed_journal);
    }

pub returns-in_err-journal-clause-moments : goal.returns-in_err-journal-clause-moments
returns-in_err-journal-clause-moments g c = λ tells.
    payloads-leave (g.D.Disk.state c.args.disk.now) (g.D.Disk.state c.open.new.disk)
    (g.met.D.Disk.is_disk c.args.disk.now) (returns-in_err-journal-clause-payloads g c tells)

pub returns-in_err-journal-clause-mirror : goal.returns-in_err-journal-clause-mirror
returns-in_err-journal-clause-mirror g c = c.open.ensures.others Mirror mirror_journal

pub returns-in_err-seals-clause-payloads : goal.returns-in_err-seals-clause-payloads
returns-in_err-seals-clause-payloads g c = λ tells.
    let s = g.D.Disk.state c.args.disk.now in
    let m = g.D.Disk.state c.open.new.disk in
    let t = g.D.Disk.state c.load.new.disk in
    both-payloads s m t t c.open.ensures.others c.load.ensures.others (reads_begin t) (c.open.ensures.moments tells)
    (c.load.ensures.moments tells)

pub returns-in_err-seals-clause-moments : goal.returns-in_err-seals-clause-moments
returns-in_err-seals-clause-moments g c = λ tells.
    payloads-leave (g.D.Disk.state c.args.disk.now) (g.D.Disk.state c.load.new.disk)
    (g.met.D.Disk.is_disk c.args.disk.now) (returns-in_err-seals-clause-payloads g c tells)

pub returns-in_err-seals-clause-mirror : goal.returns-in_err-seals-clause-mirror
returns-in_err-seals-clause-mirror g c =
    let t = g.D.Disk.state c.load.new.disk in
    mirror_alone (g.D.Disk.state c.args.disk.now) (g.D.Disk.state c.open.new.disk) t t c.open.ensures.others
    c.load.ensures.others (reads_begin t)

pub returns-in_err-store-clause-only : goal.returns-in_err-store-clause-only
returns-in_err-store-clause-only g c = λ tells head history seals opens.
    let s = g.D.Disk.state c.args.disk.now in
    let m = g.D.Disk.state c.open.new.disk in
    let t = g.D.Disk.state c.load.new.disk in
    let fault = c.in_err-store.field-0.0 in
    let same = c.in_ok-journal.ensures.same tells in
    let same' = c.in_ok-seals.ensures.same tells in
    let first = journal_same s m t t c.open.ensures.others c.load.ensures.others same same' in
    let second = sealed_same s m t t c.open.ensures.others c.load.ensures.others same same' in
    let cause = subst (λ (l : List (List ℕ)). IsLoadFault l (records (s.content Sealed)) fault) first
    (subst (λ (l : List (List ℕ)). IsLoadFault (records (t.content Journal)) l fault) second
    (c.in_err-store.ensures.fault.cause tells)) in
    let returned = err_from_is_err_and c.from_residual-in_err-store.result
    c.from_residual-in_err-store.ensures.1 in
    rw (returned.1, returned.2)
    (opens_without (s.content Journal) (s.content Sealed) head history seals opens fault cause)

pub returns-in_err-store-clause-payloads : goal.returns-in_err-store-clause-payloads
returns-in_err-store-clause-payloads g c = λ tells.
    both-payloads (g.D.Disk.state c.args.disk.now) (g.D.Disk.state c.open.new.disk) (g.D.Disk.state c.load.new.disk)
    (g.D.Disk.state c.reopen.new.disk) c.open.ensures.others c.load.ensures.others c.reopen.ensures.reads
    (c.open.ensures.moments tells) (c.load.ensures.moments tells)

pub returns-in_err-store-clause-moments : goal.returns-in_err-store-clause-moments
returns-in_err-store-clause-moments g c = λ tells.
    payloads-leave (g.D.Disk.state c.args.disk.now) (g.D.Disk.state c.reopen.new.disk)
    (g.met.D.Disk.is_disk c.args.disk.now) (returns-in_err-store-clause-payloads g c tells)

pub returns-in_err-store-clause-mirror : goal.returns-in_err-store-clause-mirror
returns-in_err-store-clause-mirror g c =
    mirror_alone (g.D.Disk.state c.args.disk.now) (g.D.Disk.state c.open.new.disk) (g.D.Disk.state c.load.new.disk)
    (g.D.Disk.state c.reopen.new.disk) c.open.ensures.others c.load.ensures.others c.reopen.ensures.reads

pub returns-clause-same : goal.returns-clause-same
returns-clause-same g c = λ tells. all_same (g.D.Disk.state c.args.disk.now) (g.D.Disk.state c.open.new.disk)
    (g.D.Disk.state c.load.new.disk) (g.D.Disk.state c.reopen.new.disk) c.open.ensures.others
    c.load.ensures.others (c.in_ok-journal.ensures.same tells) (c.in_ok-seals.ensures.same tells)
    c.reopen.ensures.reads

pub returns-clause-payloads : goal.returns-clause-payloads
returns-clause-payloads g c = λ tells.
    both-payloads (g.D.Disk.state c.args.disk.now) (g.D.Disk.state c.open.new.disk) (g.D.Disk.state c.load.new.disk)
    (g.D.Disk.state c.reopen.new.disk) c.open.ensures.others c.load.ensures.others c.reopen.ensures.reads
    (c.open.ensures.moments tells) (c.load.ensures.moments tells)

pub returns-clause-moments : goal.returns-clause-moments
returns-clause-moments g c = λ tells.
    payloads-leave (g.D.Disk.state c.args.disk.now) (g.D.Disk.state c.reopen.new.disk)
    (g.met.D.Disk.is_disk c.args.disk.now) (returns-clause-payloads g c tells)

pub returns-clause-settled : goal.returns-clause-settled
returns-clause-settled g c = λ tells whole.
    let u = g.D.Disk.state c.reopen.new.disk in
    let store = c.in_ok-store.store in
    let rests = loaded_rests (g.D.Disk.state c.args.disk.now) (g.D.Disk.state c.open.new.disk)
    (g.D.Disk.state c.load.new.disk) u c.open.ensures.others c.load.ensures.others c.reopen.ensures.reads
    (c.in_ok-journal.ensures.certain tells) (c.in_ok-journal.ensures.closed tells) (c.in_ok-store.ensures.begins tells)
    (c.in_ok-seals.ensures.rests tells) whole in
    record {
      settled = rest_settles c.begun_images_are_whole.ensures u store.head store.history (seal_count store)
          (c.in_ok-store.ensures.stands tells).opens rests;
      rests = rests;
    }

pub returns-clause-mirror : goal.returns-clause-mirror
returns-clause-mirror g c =
    mirror_alone (g.D.Disk.state c.args.disk.now) (g.D.Disk.state c.open.new.disk) (g.D.Disk.state c.load.new.disk)
    (g.D.Disk.state c.reopen.new.disk) c.open.ensures.others c.load.ensures.others c.reopen.ensures.reads

pub returns-clause-calls : goal.returns-clause-calls
returns-clause-calls g c =
    loaded_calls (g.D.Disk.state c.args.disk.now) (g.D.Disk.state c.open.new.disk) (g.D.Disk.state c.load.new.disk)
    (g.D.Disk.state c.reopen.new.disk) c.in_ok-journal.journal.log.calls c.in_ok-seals.seals.calls _
    c.in_ok-journal.ensures.calls.0 c.in_ok-seals.ensures.calls.0 c.in_ok-journal.ensures.calls.1
    c.in_ok-seals.ensures.calls.1 c.in_ok-store.ensures.calls

pub returns-in_err-journal-clause-refusal : goal.returns-in_err-journal-clause-refusal
returns-in_err-journal-clause-refusal g c =
    let returned = err_from_is_err_and c.from_residual.result c.from_residual.ensures.1 in
    rw returned.1 (refusal-log c.in_err-journal.field-0.0 returned.0
    (λ index is. c.in_err-journal.ensures.unchanged index (ap (λ (f : LogFault). Err f) is)) returned.2)

pub returns-in_err-seals-clause-refusal : goal.returns-in_err-seals-clause-refusal
returns-in_err-seals-clause-refusal g c =
    let returned = err_from_is_err_and c.from_residual-in_err-seals.result c.from_residual-in_err-seals.ensures.1 in
    rw returned.1 (refusal-log c.in_err-seals.field-0.0 returned.0
    (λ index is. c.in_err-seals.ensures.unchanged index (ap (λ (f : LogFault). Err f) is)) returned.2)

pub returns-in_err-store-clause-refusal : goal.returns-in_err-store-clause-refusal
returns-in_err-store-clause-refusal g c =
    let returned = err_from_is_err_and c.from_residual-in_err-store.result c.from_residual-in_err-store.ensures.1 in
    rw (returned.1, returned.2) c.in_err-store.ensures.refused

pub returns-clause-faults : goal.returns-clause-faults
returns-clause-faults g c = record {
  later = omega (arith, c.open.ensures.faults.later, c.load.ensures.faults.later, c.reopen.ensures.reads.later);
  failed = λ is. absurd (cc);
  unfailed = λ not. c.in_ok-store.ensures.worked
      ∙ c.load.ensures.faults.unfailed (λ is. let found = c.in_ok-seals.was in absurd (cc))
      ∙ c.open.ensures.faults.unfailed (λ is. let found = c.in_ok-journal.was in absurd (cc));
}
