use Rattle.std.proofs.Common.{◌≡◌, ◌≢◌, inl, inr, ℕ, Global, Vec, Result, Err, refl, ap, subst}
use Rattle.feed_recovery.specs.Documents.{IsArchiveFault}
use Rattle.feed_recovery.specs.declared.fault.ArchiveFault.{ArchiveFault}
use Rattle.feed_recovery.specs.declared.fault.ArchiveFault.TheVariants.{NotSealed, Changed, DiskFault, NoMemory}
use Rattle.document_server.specs.declared.failure.Failure.{Failure}
use Rattle.document_server.specs.declared.failure.Failure.TheVariants as failure
use Rattle.http_face.specs.Reply.{disk_changed}
use Rattle.http_face.specs.declared.reply.Reply.{Reply}
use Rattle.document_server.specs.Reply.{unchanged}
use Rattle.document_server.proofs.StepLemmas.{failed_by, gains-archive, replied-unchanged, steps-archive}
use Rattle.document_server.proofs.StepLemmas.{steps-archive-failed, worked}
use Rattle.document_server.proofs.document.show_archive.Goals as goal

-- the faults that aren't of the disk
not_sealed : (fault : ArchiveFault) (number sealed : ℕ) → fault ≡ NotSealed number sealed
    → (let result : Result (Vec ℕ Global) ArchiveFault = Err fault in result ≢ Err DiskFault)
not_sealed fault number sealed is = failed_by fault (NotSealed number sealed) DiskFault is (λ same. cc)

changed : (fault : ArchiveFault) (index : ℕ) → fault ≡ Changed index
    → (let result : Result (Vec ℕ Global) ArchiveFault = Err fault in result ≢ Err DiskFault)
changed fault index is = failed_by fault (Changed index) DiskFault is (λ same. cc)

no_memory : (fault : ArchiveFault) → fault ≡ NoMemory
    → (let result : Result (Vec ℕ Global) ArchiveFault = Err fault in result ≢ Err DiskFault)
no_memory fault is = failed_by fault NoMemory DiskFault is (λ same. cc)

changed_reply : (let result : Result Reply Failure = Err failure.Changed in result ≢ Err failure.Disk)
changed_reply same = cc

no_memory_reply : (let result : Result Reply Failure = Err failure.NoMemory in result ≢ Err failure.Disk)
no_memory_reply same = cc

pub returns-in-Ok-clause-answered : goal.returns-in-Ok-clause-answered
returns-in-Ok-clause-answered g c =
    replied-unchanged _ c.args.store.now c.archive.new.self c.document.result
    (inl (
      c.in-Ok.ensures.sealed,
      inl (
        c.in-Ok.text.items,
        record { long = c.in-Ok.ensures.length; seen = c.in-Ok.ensures.document },
        ap unchanged c.document.ensures,
      ),
    ))
    (gains-archive c.args.store.now c.archive.new.self _ (c.in-Ok.ensures.store.same (worked _ _)))

pub returns-in-Ok-clause-steps : goal.returns-in-Ok-clause-steps
returns-in-Ok-clause-steps g c =
    let ensured = c.in-Ok.ensures in
    steps-archive g.D.Disk.observable _ _ c.args.store.now c.archive.new.self _ _ c.requires.unspent ensured.areas
    ensured.calls
    (ensured.store.same (worked _ _)) (worked _ _) (ensured.store.stands (worked _ _)) (ensured.faults.unfailed (worked _ _))

pub returns-in-Err-NotSealed-clause-answered : goal.returns-in-Err-NotSealed-clause-answered
returns-in-Err-NotSealed-clause-answered g c =
    let is = c.in-Err-NotSealed.field-0-is in
    replied-unchanged _ c.args.store.now c.archive.new.self c.line.result
    (let fault = subst (IsArchiveFault c.args.store.now c.args.number) is
    c.in-Err-NotSealed.ensures.refused in
    inr (fault.0, ap unchanged c.line.ensures))
    (gains-archive c.args.store.now c.archive.new.self _ (c.in-Err-NotSealed.ensures.store.same (not_sealed _ _ _ is)))

pub returns-in-Err-NotSealed-clause-steps : goal.returns-in-Err-NotSealed-clause-steps
returns-in-Err-NotSealed-clause-steps g c =
    let is = c.in-Err-NotSealed.field-0-is in
    let ensured = c.in-Err-NotSealed.ensures in
    steps-archive g.D.Disk.observable _ _ c.args.store.now c.archive.new.self _ _ c.requires.unspent ensured.areas
    ensured.calls
    (ensured.store.same (not_sealed _ _ _ is)) (worked _ _)
    (ensured.store.stands (not_sealed _ _ _ is)) (ensured.faults.unfailed (not_sealed _ _ _ is))

pub returns-in-Err-DiskFault-clause-steps : goal.returns-in-Err-DiskFault-clause-steps
returns-in-Err-DiskFault-clause-steps g c =
    let ensured = c.in-Err-DiskFault.ensures in
    let fault = ap Err c.in-Err-DiskFault.field-0-is in
    steps-archive-failed g.D.Disk.observable _ _ c.args.store.now c.archive.new.self _ _ c.requires.unspent ensured.areas
    ensured.calls (ensured.store.spent fault) refl ensured.faults.later (ensured.faults.failed fault)

pub returns-in-Err-Changed-clause-answered : goal.returns-in-Err-Changed-clause-answered
returns-in-Err-Changed-clause-answered g c =
    let is = c.in-Err-Changed.field-0-is in
    let ensured = c.in-Err-Changed.ensures in
    replied-unchanged _ c.args.store.now c.archive.new.self disk_changed
    (inl (
      (subst (IsArchiveFault c.args.store.now c.args.number) is ensured.refused).0,
      inr ((λ tells. ensured.never tells _ (ap Err is)), refl),
    ))
    (gains-archive c.args.store.now c.archive.new.self _ (ensured.store.same (changed _ _ is)))

pub returns-in-Err-Changed-clause-steps : goal.returns-in-Err-Changed-clause-steps
returns-in-Err-Changed-clause-steps g c =
    let is = c.in-Err-Changed.field-0-is in
    let ensured = c.in-Err-Changed.ensures in
    steps-archive g.D.Disk.observable _ _ c.args.store.now c.archive.new.self _ _ c.requires.unspent ensured.areas
    ensured.calls
    (ensured.store.same (changed _ _ is)) changed_reply
    (ensured.store.stands (changed _ _ is)) (ensured.faults.unfailed (changed _ _ is))

pub returns-in-Err-NoMemory-clause-answered : goal.returns-in-Err-NoMemory-clause-answered
returns-in-Err-NoMemory-clause-answered g c =
    let is = c.in-Err-NoMemory.field-0-is in
    gains-archive c.args.store.now c.archive.new.self _ (c.in-Err-NoMemory.ensures.store.same (no_memory _ is))

pub returns-in-Err-NoMemory-clause-steps : goal.returns-in-Err-NoMemory-clause-steps
returns-in-Err-NoMemory-clause-steps g c =
    let is = c.in-Err-NoMemory.field-0-is in
    let ensured = c.in-Err-NoMemory.ensures in
    steps-archive g.D.Disk.observable _ _ c.args.store.now c.archive.new.self _ _ c.requires.unspent ensured.areas
    ensured.calls
    (ensured.store.same (no_memory _ is)) no_memory_reply
    (ensured.store.stands (no_memory _ is)) (ensured.faults.unfailed (no_memory _ is))
