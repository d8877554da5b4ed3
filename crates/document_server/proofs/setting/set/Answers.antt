use Rattle.std.proofs.Common.{◌≡◌, ◌≢◌, inl, inr, Result, Err, sym, ap, subst, ◌∙◌}
use Rattle.document_server.specs.declared.failure.Failure.{Failure}
use Rattle.document_server.specs.declared.failure.Failure.TheVariants.{Disk, Changed, NoMemory}
use Rattle.http_face.specs.declared.reply.Reply.{Reply}
use Rattle.document_server.specs.Answer.{ComesTo}
use Rattle.document_server.specs.Reply.{IsAsked}
use Rattle.document_server.proofs.LeaveLemmas.{leaves-answered, leaves-failing}
use Rattle.document_server.proofs.OverLemmas.{answer-changed, comes-err}
use Rattle.document_server.proofs.StepLemmas.{changed-undisk, failed_by, memory-undisk, steps-as, worked}
use Rattle.document_server.proofs.setting.set.Goals as goal
use Rattle.feed_recovery.specs.Store.{seal_count}
use Rattle.feed_recovery.proofs.SettleLemmas.{rest_settles}
use Rattle.member_rules.specs.declared.ask.Ask.TheVariants.{Change}

no_memory : (result : Result Reply Failure) (failure : Failure) → result ≡ Err failure → failure ≡ NoMemory
    → result ≢ Err Disk
no_memory result failure gives is same = failed_by failure NoMemory Disk is (λ clash. cc) (sym gives ∙ same)

no_change : (result : Result Reply Failure) (failure : Failure) → result ≡ Err failure → failure ≡ Changed
    → result ≢ Err Disk
no_change result failure gives is same = failed_by failure Changed Disk is (λ clash. cc) (sym gives ∙ same)

pub returns-in-Ok-clause-answered : goal.returns-in-Ok-clause-answered
returns-in-Ok-clause-answered g c =
    inl (subst (ComesTo (IsAsked c.args.store.now (Change c.args.setting) c.args.now) c.args.store.now c.change.new.store)
    c.in-Ok.is c.change.ensures.answered)

pub returns-in-Ok-clause-leaves : goal.returns-in-Ok-clause-leaves
returns-in-Ok-clause-leaves g c = λ observable.
    leaves-failing _ _ _ c.args.store.now c.change.new.store _ _
    (λ e. absurd (worked _ _ (sym c.in-Ok.is ∙ e)))
    (leaves-answered c.begun_images_are_whole.ensures _ _ _ c.args.store.now c.change.new.store _
    (g.met.D.Disk.is_disk c.args.disk.now) (c.requires.stands observable) observable c.change.ensures.leaves)

pub returns-in-Ok-clause-settled : goal.returns-in-Ok-clause-settled
returns-in-Ok-clause-settled g c = λ works observable rests.
    let steps = c.change.ensures.steps in
    let no_fault : c.change.result ≢ Err Disk = λ e. worked _ _ (sym c.in-Ok.is ∙ e) in
    rest_settles c.begun_images_are_whole.ensures (g.D.Disk.state c.change.new.disk) c.change.new.store.head
    c.change.new.store.history (seal_count c.change.new.store) (steps.stands no_fault observable).opens
    (steps.rests no_fault observable rests)

pub returns-in-Ok-clause-steps : goal.returns-in-Ok-clause-steps
returns-in-Ok-clause-steps g c =
    steps-as _ _ _ _ _ _ _ (λ e. absurd (worked _ _ (sym c.in-Ok.is ∙ e))) (λ is. absurd (c.in-Ok.ensures.own.undisk is))
    c.change.ensures.steps

pub returns-in-Err-Disk-clause-answered : goal.returns-in-Err-Disk-clause-answered
returns-in-Err-Disk-clause-answered g c =
    let fails = c.in-Err-Disk.is ∙ ap Err c.in-Err-Disk.field-0-is in
    let steps = c.change.ensures.steps in
    inr (inr (c.line.ensures, steps.faults.failed fails, steps.stays fails, steps.spent fails))

pub returns-in-Err-Disk-clause-leaves : goal.returns-in-Err-Disk-clause-leaves
returns-in-Err-Disk-clause-leaves g c = λ observable.
    leaves-failing _ _ _ c.args.store.now c.change.new.store _ _ (λ e. c.line.ensures)
    (leaves-answered c.begun_images_are_whole.ensures _ _ _ c.args.store.now c.change.new.store _
    (g.met.D.Disk.is_disk c.args.disk.now) (c.requires.stands observable) observable c.change.ensures.leaves)

pub returns-in-Err-Disk-clause-steps : goal.returns-in-Err-Disk-clause-steps
returns-in-Err-Disk-clause-steps g c =
    steps-as _ _ _ _ _ _ _ (λ e. c.line.ensures) (λ is. c.in-Err-Disk.is ∙ ap Err c.in-Err-Disk.field-0-is)
    c.change.ensures.steps

pub returns-in-Err-Changed-clause-answered : goal.returns-in-Err-Changed-clause-answered
returns-in-Err-Changed-clause-answered g c =
    answer-changed _ c.args.store.now c.change.new.store c.line-in-Err-Changed.result _ c.line-in-Err-Changed.ensures
    (comes-err (IsAsked c.args.store.now (Change c.args.setting) c.args.now) c.args.store.now c.change.new.store
    c.change.result _ Changed c.in-Err-Changed.is c.in-Err-Changed.field-0-is c.change.ensures.answered)

pub returns-in-Err-Changed-clause-leaves : goal.returns-in-Err-Changed-clause-leaves
returns-in-Err-Changed-clause-leaves g c = λ observable.
    leaves-failing _ _ _ c.args.store.now c.change.new.store _ _
    (λ e. absurd (no_change _ _ c.in-Err-Changed.is c.in-Err-Changed.field-0-is e))
    (leaves-answered c.begun_images_are_whole.ensures _ _ _ c.args.store.now c.change.new.store _
    (g.met.D.Disk.is_disk c.args.disk.now) (c.requires.stands observable) observable c.change.ensures.leaves)

pub returns-in-Err-Changed-clause-settled : goal.returns-in-Err-Changed-clause-settled
returns-in-Err-Changed-clause-settled g c = λ works observable rests.
    let steps = c.change.ensures.steps in
    let no_fault = no_change _ _ c.in-Err-Changed.is c.in-Err-Changed.field-0-is in
    rest_settles c.begun_images_are_whole.ensures (g.D.Disk.state c.change.new.disk) c.change.new.store.head
    c.change.new.store.history (seal_count c.change.new.store) (steps.stands no_fault observable).opens
    (steps.rests no_fault observable rests)

pub returns-in-Err-Changed-clause-steps : goal.returns-in-Err-Changed-clause-steps
returns-in-Err-Changed-clause-steps g c =
    steps-as _ _ _ _ _ _ _ (λ e. absurd (no_change _ _ c.in-Err-Changed.is c.in-Err-Changed.field-0-is e))
    (λ is. absurd (changed-undisk (sym c.line-in-Err-Changed.ensures ∙ is))) c.change.ensures.steps

pub returns-in-Err-NoMemory-clause-answered : goal.returns-in-Err-NoMemory-clause-answered
returns-in-Err-NoMemory-clause-answered g c =
    inr (inl (
      c.line-in-Err-NoMemory.ensures,
      comes-err (IsAsked c.args.store.now (Change c.args.setting) c.args.now) c.args.store.now c.change.new.store
          c.change.result _ NoMemory c.in-Err-NoMemory.is c.in-Err-NoMemory.field-0-is c.change.ensures.answered,
    ))

pub returns-in-Err-NoMemory-clause-leaves : goal.returns-in-Err-NoMemory-clause-leaves
returns-in-Err-NoMemory-clause-leaves g c = λ observable.
    leaves-failing _ _ _ c.args.store.now c.change.new.store _ _
    (λ e. absurd (no_memory _ _ c.in-Err-NoMemory.is c.in-Err-NoMemory.field-0-is e))
    (leaves-answered c.begun_images_are_whole.ensures _ _ _ c.args.store.now c.change.new.store _
    (g.met.D.Disk.is_disk c.args.disk.now) (c.requires.stands observable) observable c.change.ensures.leaves)

pub returns-in-Err-NoMemory-clause-settled : goal.returns-in-Err-NoMemory-clause-settled
returns-in-Err-NoMemory-clause-settled g c = λ works observable rests.
    let steps = c.change.ensures.steps in
    let no_fault = no_memory _ _ c.in-Err-NoMemory.is c.in-Err-NoMemory.field-0-is in
    rest_settles c.begun_images_are_whole.ensures (g.D.Disk.state c.change.new.disk) c.change.new.store.head
    c.change.new.store.history (seal_count c.change.new.store) (steps.stands no_fault observable).opens
    (steps.rests no_fault observable rests)

pub returns-in-Err-NoMemory-clause-steps : goal.returns-in-Err-NoMemory-clause-steps
returns-in-Err-NoMemory-clause-steps g c =
    steps-as _ _ _ _ _ _ _ (λ e. absurd (no_memory _ _ c.in-Err-NoMemory.is c.in-Err-NoMemory.field-0-is e))
    (λ is. absurd (memory-undisk (sym c.line-in-Err-NoMemory.ensures ∙ is))) c.change.ensures.steps
