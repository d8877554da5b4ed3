use Rattle.std.proofs.Common.{◌≡◌, Err, length, Result, sym, ◌∙◌, ap, subst}
use Rattle.atom_values.specs.Counts.{CountsFault}
use Rattle.feed_disk.specs.declared.area.Area.TheVariants.{Journal, Sealed}
use Rattle.feed_journal.specs.Log.{IsLog, LogValue}
use Rattle.feed_recovery.specs.Loading.{IsSealOf}
use Rattle.std.specs.Prelude.{IfSome}
use Rattle.store_scrub.specs.Scrub.{IsScrubRefusal, IsSound, IsUnsound}
use Rattle.store_scrub.specs.Verdict.{IsClear, IsVerdict}
use Rattle.store_scrub.specs.declared.fault.Unsound.{Unsound}
use Rattle.store_scrub.specs.declared.fault.Unsound.TheVariants.{DiskFault}
use Rattle.store_scrub.specs.declared.sound.Sound.{Sound}
use Rattle.store_scrub.proofs.ScrubLemmas.{clear-sound, counts-raised, err-weaker, ok-weaker}
use Rattle.store_scrub.proofs.ScrubLemmas.{read-store, scrub-refusal, unsound-replay, verdict-refusal, verdict-unsound}
use Rattle.store_scrub.proofs.sound.scrub_logs.Goals as goal

pub returns-in-Err-clause-unsound : goal.returns-in-Err-clause-unsound
returns-in-Err-clause-unsound g c = λ tells.
    let s = g.D.Disk.state c.args.disk.now in
    subst (IsUnsound (s.content Journal) (s.content Sealed)) (sym c.from.ensures)
    (unsound-replay (s.content Journal) (s.content Sealed) c.in-Err.fault (c.in-Err.ensures.fault.cause tells)
    c.in-Err.ensures.refused)

pub returns-in-Err-clause-refusal : goal.returns-in-Err-clause-refusal
returns-in-Err-clause-refusal g c =
    subst IsScrubRefusal (sym c.from.ensures) (scrub-refusal c.in-Err.fault c.in-Err.ensures.refused)

pub returns-in-Err-clause-faults : goal.returns-in-Err-clause-faults
returns-in-Err-clause-faults g c =
    let s = g.D.Disk.state c.args.disk.now in
    let t = g.D.Disk.state c.read.new.disk in
    subst (λ (u : Unsound). CountsFault s.faults t.faults (◌≡◌ {A = Result Sound Unsound} (Err u) (Err DiskFault))) (sym c.from.ensures)
    (counts-raised {T = Sound} s.faults t.faults c.in-Err.fault c.read.ensures.reads.later c.in-Err.ensures.fault.faults)

pub returns-clause-sound : goal.returns-clause-sound
returns-clause-sound g c =
    let s = g.D.Disk.state c.args.disk.now in
    let t = g.D.Disk.state c.read.new.disk in
    let replayed = c.in-Ok.replayed in
    let ok = c.in-Ok.ensures in
    let log = c.finish-journal.result in
    let seals = c.read.new.seals in
    ok-weaker c.verdict-outcome.result (λ found. IsClear replayed log seals found.records found.seals)
    (λ found. g.D.Disk.observable → IsSound (s.content Journal) (s.content Sealed) found.records found.seals)
    (λ found clear tells. clear-sound (s.content Journal) (s.content Sealed) replayed log seals
    (read-store s t replayed c.read.new.reader.log log c.args.seals seals (ok.journal tells) (ok.compared tells)
    c.read.ensures.reads (ok.lists tells) c.finish-journal.ensures (c.requires.seals.list tells) (c.requires.ends tells)
    ok.worked.seals_log) found.records found.seals clear) c.verdict-outcome.ensures.sound

pub returns-clause-unsound : goal.returns-clause-unsound
returns-clause-unsound g c =
    let s = g.D.Disk.state c.args.disk.now in
    let t = g.D.Disk.state c.read.new.disk in
    let replayed = c.in-Ok.replayed in
    let ok = c.in-Ok.ensures in
    let log = c.finish-journal.result in
    let seals = c.read.new.seals in
    err-weaker c.verdict-outcome.result (IsVerdict replayed log seals)
    (λ fault. g.D.Disk.observable → IsUnsound (s.content Journal) (s.content Sealed) fault)
    (λ fault verdict tells. verdict-unsound (s.content Journal) (s.content Sealed) replayed log seals
    (read-store s t replayed c.read.new.reader.log log c.args.seals seals (ok.journal tells) (ok.compared tells)
    c.read.ensures.reads (ok.lists tells) c.finish-journal.ensures (c.requires.seals.list tells) (c.requires.ends tells)
    ok.worked.seals_log) fault verdict) c.verdict-outcome.ensures.unsound

pub returns-clause-refusal : goal.returns-clause-refusal
returns-clause-refusal g c =
    let replayed = c.in-Ok.replayed in
    let ok = c.in-Ok.ensures in
    let log = c.finish-journal.result in
    let seals = c.read.new.seals in
    err-weaker c.verdict-outcome.result (IsVerdict replayed log seals) IsScrubRefusal
    (verdict-refusal replayed log seals ok.rules (subst IsLog (sym c.finish-journal.ensures) ok.logs.rules)
    (subst IsLog (sym ok.worked.seals_log)
    (record { follow = c.requires.seals.rules.follow; few = c.requires.seals.rules.few }))
    (ap (λ (l : LogValue). length l.extents) c.finish-journal.ensures ∙ ok.logs.count)
    (subst (λ (l : LogValue). IfSome replayed.wrong (IsSealOf l.extents)) (sym ok.worked.seals_log) ok.wrong))
    c.verdict-outcome.ensures.unsound
