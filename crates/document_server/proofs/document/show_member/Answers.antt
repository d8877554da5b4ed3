use Rattle.std.proofs.Common.{◌≡◌, ◌≢◌, inl, inr, ℕ, ℤ, Global, Vec, Result, Err, refl, ap, subst}
use Rattle.feed_recovery.specs.Documents.{IsMemberFault}
use Rattle.feed_recovery.specs.declared.fault.MemberFault.{MemberFault}
use Rattle.feed_recovery.specs.declared.fault.MemberFault.TheVariants.{NotFound, Deleted, Changed, DiskFault, NoMemory}
use Rattle.document_server.specs.declared.failure.Failure.{Failure}
use Rattle.document_server.specs.declared.failure.Failure.TheVariants as failure
use Rattle.http_face.specs.Reply.{disk_changed}
use Rattle.http_face.specs.declared.reply.Reply.{Reply}
use Rattle.document_server.specs.Reply.{unchanged}
use Rattle.document_server.proofs.RowLemmas.{never-is, gone-is, live-is}
use Rattle.document_server.proofs.StepLemmas.{failed_by, gains-member, replied-unchanged, steps-member}
use Rattle.document_server.proofs.StepLemmas.{steps-member-failed, worked}
use Rattle.document_server.proofs.document.show_member.Goals as goal

-- the faults that aren't of the disk
not_found : (fault : MemberFault) (number : ℕ) → fault ≡ NotFound number
    → (let result : Result (Vec ℕ Global) MemberFault = Err fault in result ≢ Err DiskFault)
not_found fault number is = failed_by fault (NotFound number) DiskFault is (λ same. cc)

deleted : (fault : MemberFault) (number : ℕ) (when : ℤ) → fault ≡ Deleted number when
    → (let result : Result (Vec ℕ Global) MemberFault = Err fault in result ≢ Err DiskFault)
deleted fault number when is = failed_by fault (Deleted number when) DiskFault is (λ same. cc)

changed : (fault : MemberFault) (index : ℕ) → fault ≡ Changed index
    → (let result : Result (Vec ℕ Global) MemberFault = Err fault in result ≢ Err DiskFault)
changed fault index is = failed_by fault (Changed index) DiskFault is (λ same. cc)

no_memory : (fault : MemberFault) → fault ≡ NoMemory
    → (let result : Result (Vec ℕ Global) MemberFault = Err fault in result ≢ Err DiskFault)
no_memory fault is = failed_by fault NoMemory DiskFault is (λ same. cc)

changed_reply : (let result : Result Reply Failure = Err failure.Changed in result ≢ Err failure.Disk)
changed_reply same = cc

no_memory_reply : (let result : Result Reply Failure = Err failure.NoMemory in result ≢ Err failure.Disk)
no_memory_reply same = cc

pub returns-in-Ok-clause-answered : goal.returns-in-Ok-clause-answered
returns-in-Ok-clause-answered g c =
    replied-unchanged _ c.args.store.now c.member.new.self c.document.result
    (
    let live = c.in-Ok.ensures.live in
    live-is _ _ _ live.0 live.1.updated live.1.state (inl (
      c.in-Ok.text.items,
      record { document = c.in-Ok.ensures.entry; seen = c.in-Ok.ensures.document },
      ap unchanged c.document.ensures,
    )))
    (gains-member c.args.store.now c.member.new.self _ (c.in-Ok.ensures.store.same (worked _ _)))

pub returns-in-Ok-clause-steps : goal.returns-in-Ok-clause-steps
returns-in-Ok-clause-steps g c =
    let ensured = c.in-Ok.ensures in
    steps-member g.D.Disk.observable _ _ c.args.store.now c.member.new.self _ _ c.requires.unspent ensured.areas ensured.calls
    (ensured.store.same (worked _ _)) (worked _ _) (ensured.store.stands (worked _ _)) (ensured.faults.unfailed (worked _ _))

pub returns-in-Err-NotFound-clause-answered : goal.returns-in-Err-NotFound-clause-answered
returns-in-Err-NotFound-clause-answered g c =
    let is = c.in-Err-NotFound.field-0-is in
    replied-unchanged _ c.args.store.now c.member.new.self c.line.result
    (let fault = subst (IsMemberFault c.args.store.now c.args.number) is
    c.in-Err-NotFound.ensures.refused in
    never-is _ _ _ fault.1 (ap unchanged c.line.ensures))
    (gains-member c.args.store.now c.member.new.self _ (c.in-Err-NotFound.ensures.store.same (not_found _ _ is)))

pub returns-in-Err-NotFound-clause-steps : goal.returns-in-Err-NotFound-clause-steps
returns-in-Err-NotFound-clause-steps g c =
    let is = c.in-Err-NotFound.field-0-is in
    let ensured = c.in-Err-NotFound.ensures in
    steps-member g.D.Disk.observable _ _ c.args.store.now c.member.new.self _ _ c.requires.unspent ensured.areas ensured.calls
    (ensured.store.same (not_found _ _ is)) (worked _ _)
    (ensured.store.stands (not_found _ _ is)) (ensured.faults.unfailed (not_found _ _ is))

pub returns-in-Err-Deleted-clause-answered : goal.returns-in-Err-Deleted-clause-answered
returns-in-Err-Deleted-clause-answered g c =
    let is = c.in-Err-Deleted.field-0-is in
    replied-unchanged _ c.args.store.now c.member.new.self c.line-in-Err-Deleted.result
    (let fault = subst (IsMemberFault c.args.store.now c.args.number) is
    c.in-Err-Deleted.ensures.refused in
    gone-is _ _ _ _ fault.1 (ap unchanged c.line-in-Err-Deleted.ensures))
    (gains-member c.args.store.now c.member.new.self _ (c.in-Err-Deleted.ensures.store.same (deleted _ _ _ is)))

pub returns-in-Err-Deleted-clause-steps : goal.returns-in-Err-Deleted-clause-steps
returns-in-Err-Deleted-clause-steps g c =
    let is = c.in-Err-Deleted.field-0-is in
    let ensured = c.in-Err-Deleted.ensures in
    steps-member g.D.Disk.observable _ _ c.args.store.now c.member.new.self _ _ c.requires.unspent ensured.areas ensured.calls
    (ensured.store.same (deleted _ _ _ is)) (worked _ _)
    (ensured.store.stands (deleted _ _ _ is)) (ensured.faults.unfailed (deleted _ _ _ is))

pub returns-in-Err-DiskFault-clause-steps : goal.returns-in-Err-DiskFault-clause-steps
returns-in-Err-DiskFault-clause-steps g c =
    let ensured = c.in-Err-DiskFault.ensures in
    let fault = ap Err c.in-Err-DiskFault.field-0-is in
    steps-member-failed g.D.Disk.observable _ _ c.args.store.now c.member.new.self _ _ c.requires.unspent ensured.areas
    ensured.calls (ensured.store.spent fault) refl ensured.faults.later (ensured.faults.failed fault)

pub returns-in-Err-Changed-clause-answered : goal.returns-in-Err-Changed-clause-answered
returns-in-Err-Changed-clause-answered g c =
    let is = c.in-Err-Changed.field-0-is in
    let ensured = c.in-Err-Changed.ensures in
    let fault = subst (IsMemberFault c.args.store.now c.args.number) is ensured.refused in
    replied-unchanged _ c.args.store.now c.member.new.self disk_changed
    (live-is _ _ _ _ fault.updated fault.state (inr ((λ tells. ensured.never tells _ (ap Err is)), refl)))
    (gains-member c.args.store.now c.member.new.self _ (ensured.store.same (changed _ _ is)))

pub returns-in-Err-Changed-clause-steps : goal.returns-in-Err-Changed-clause-steps
returns-in-Err-Changed-clause-steps g c =
    let is = c.in-Err-Changed.field-0-is in
    let ensured = c.in-Err-Changed.ensures in
    steps-member g.D.Disk.observable _ _ c.args.store.now c.member.new.self _ _ c.requires.unspent ensured.areas ensured.calls
    (ensured.store.same (changed _ _ is)) changed_reply
    (ensured.store.stands (changed _ _ is)) (ensured.faults.unfailed (changed _ _ is))

pub returns-in-Err-NoMemory-clause-steps : goal.returns-in-Err-NoMemory-clause-steps
returns-in-Err-NoMemory-clause-steps g c =
    let is = c.in-Err-NoMemory.field-0-is in
    let ensured = c.in-Err-NoMemory.ensures in
    steps-member g.D.Disk.observable _ _ c.args.store.now c.member.new.self _ _ c.requires.unspent ensured.areas ensured.calls
    (ensured.store.same (no_memory _ is)) no_memory_reply
    (ensured.store.stands (no_memory _ is)) (ensured.faults.unfailed (no_memory _ is))
