use Rattle.std.proofs.Common.{◌≡◌, ℕ, None, Ok, Err, Result, refl, sym, ap, subst, ◌∙◌, arith}
use Rattle.std.specs.Prelude.{IsErrAnd}
use Rattle.feed_journal.specs.declared.fault.LogFault.{LogFault}
use Rattle.feed_journal.specs.declared.fault.LogFault.TheVariants.{Changed, DiskFault}
use Rattle.atom_values.specs.Counts.{CountsFault}
use Rattle.feed_disk.proofs.MomentLemmas.{alone_joins}
use Rattle.mirror_walk.specs.Holding.{first_missing, payloads_of}
use Rattle.mirror_walk.specs.Listing.{ShowsSome}
use Rattle.mirror_walk.specs.Loaded.{IsLoadedOf}
use Rattle.mirror_walk.specs.Mirror.{MirrorValue}
use Rattle.mirror_walk.proofs.PassedLemmas.{counts-passed}
use Rattle.mirror_walk.proofs.RereadLemmas.{read-passed}
use Rattle.mirror_walk.proofs.VisitAnswerLemmas.{ok-works}
use Rattle.sha2.specs.Sha256.{sha256}
use Rattle.coverage_certificate.proofs.HeldLemmas.{digesting-count, digesting-next, digesting-start, digesting-text, read_joins}
use Rattle.coverage_certificate.proofs.of.digest_live.Goals as goal

pub loop-number-init : goal.loop-number-init
loop-number-init g c =
    digesting-start g.D.Disk.observable c.args.mirror.now c.args.name.now (g.D.Disk.state c.args.disk.now)
    c.new-hasher.result c.new-hasher.ensures c.requires.listed c.requires.unspent c.requires.stands

pub loop-number-preserved : goal.loop-number-preserved
loop-number-preserved g c =
    digesting-next g.D.Disk.observable c.args.mirror.now c.args.name.now (g.D.Disk.state c.args.disk.now)
    (g.D.Disk.state c.loop-number.disk) c.loop-number.mirror c.loop-number.hasher c.loop-number.count
    c.loop-number.after c.loop-number.invariant (g.D.Disk.state c.entry.new.disk) c.entry.new.self
    c.update.new.self c.in-Some.number c.in_ok-entry.entry c.as_slice.result.now c.in-Some.ensures.found
    (omega arith) c.in_ok-entry.ensures.entry (c.as_slice.ensures.value ∙ c.in_ok-document.ensures) c.update.ensures
    (c.in_ok-entry.ensures.mirror.same (ok-works _ _)) (c.in_ok-entry.ensures.mirror.stands (ok-works _ _)) c.in_ok-entry.ensures.areas
    (c.in_ok-entry.ensures.faults.unfailed (ok-works _ _))

-- a fault that is passed on
passed-on : {T : Type 0} (result : Result T LogFault) (fault : LogFault) (index : ℕ)
    → IsErrAnd result (λ given. given ≡ fault) → result ≡ Err (Changed index) → fault ≡ Changed index
passed-on (Ok value) fault index is e = absurd is
passed-on (Err given) fault index is e = let same : given ≡ Changed index = cc in sym is ∙ same

pub returns-in_err-entry-clause-changed : goal.returns-in_err-entry-clause-changed
returns-in_err-entry-clause-changed g c = λ index changed.
    subst (λ (m : MirrorValue). ShowsSome m.kept index) c.loop-number.invariant.keeps (
      c.in-Some.number,
      c.in_err-entry.ensures.changed index (ap (λ (f : LogFault). Err f)
          (passed-on c.from_residual.result c.in_err-entry.field-0.0 index c.from_residual.ensures.1 changed)),
    )

pub returns-in_err-entry-clause-areas : goal.returns-in_err-entry-clause-areas
returns-in_err-entry-clause-areas g c = λ a.
    alone_joins _ (g.D.Disk.state c.loop-number.disk) _ a (c.loop-number.invariant.areas a)
    (c.in_err-entry.ensures.areas a)

pub returns-in_err-document-clause-areas : goal.returns-in_err-document-clause-areas
returns-in_err-document-clause-areas g c = λ a.
    alone_joins _ (g.D.Disk.state c.loop-number.disk) _ a (c.loop-number.invariant.areas a)
    (c.in_ok-entry.ensures.areas a)

pub returns-clause-count : goal.returns-clause-count
returns-clause-count g c =
    digesting-count g.D.Disk.observable c.args.mirror.now c.args.name.now (g.D.Disk.state c.args.disk.now)
    (g.D.Disk.state c.loop-number.disk) c.loop-number.mirror c.loop-number.hasher c.loop-number.count
    c.loop-number.after c.loop-number.invariant (c.in_default.ensures.last refl)

pub returns-clause-digest : goal.returns-clause-digest
returns-clause-digest g c = λ observable.
    c.finalize-digest.ensures c.loop-number.invariant.message c.loop-number.invariant.holds
    ∙ ap sha256 (digesting-text g.D.Disk.observable c.args.mirror.now c.args.name.now (g.D.Disk.state c.args.disk.now)
    (g.D.Disk.state c.loop-number.disk) c.loop-number.mirror c.loop-number.hasher c.loop-number.count
    c.loop-number.after c.loop-number.invariant (c.in_default.ensures.last refl) observable)

pub returns-clause-whole : goal.returns-clause-whole
returns-clause-whole g c =
    subst (λ (m : MirrorValue). first_missing m.kept ≡ None) c.loop-number.invariant.keeps c.in_default.ensures.whole

pub returns-clause-loaded : goal.returns-clause-loaded
returns-clause-loaded g c =
    subst (λ (m : MirrorValue). IsLoadedOf m.base (payloads_of m.kept) m.kept) c.loop-number.invariant.keeps
    c.in_default.ensures.loaded

pub returns-in_err-entry-clause-mirror : goal.returns-in_err-entry-clause-mirror
returns-in_err-entry-clause-mirror g c =
    let t = g.D.Disk.state c.entry.new.disk in
    read_joins g.D.Disk.observable t c.args.mirror.now c.loop-number.mirror c.entry.new.self _
    c.loop-number.invariant.keeps
    (read-passed g.D.Disk.observable t c.loop-number.mirror c.entry.new.self c.from_residual.result
    c.in_err-entry.field-0.0 c.from_residual.ensures.1 c.in_err-entry.ensures.mirror)

pub returns-in_err-entry-clause-faults : goal.returns-in_err-entry-clause-faults
returns-in_err-entry-clause-faults g c =
    let after = (g.D.Disk.state c.entry.new.disk).faults in
    subst (λ (n : ℕ). CountsFault n after (c.from_residual.result ≡ Err DiskFault)) c.loop-number.invariant.faults
    (counts-passed _ after c.from_residual.result c.in_err-entry.field-0.0 DiskFault c.from_residual.ensures.1
    c.in_err-entry.ensures.faults)
