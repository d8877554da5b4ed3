use Rattle.std.proofs.Common.{sym, ◌∙◌}
use Rattle.document_server.specs.Reply.{IsOutcome}
use Rattle.document_server.specs.Served.{answers_of, paged}
use Rattle.document_server.proofs.LeaveLemmas.{reads-leave}
use Rattle.document_server.proofs.LinkLemmas.{stays-or-grows}
use Rattle.document_server.proofs.PageLemmas.{answer-page, answer-unpaged, leaves-unpaged, page-undisk, paged-reply}
use Rattle.document_server.proofs.StepLemmas.{reads-none, steps-none}
use Rattle.document_server.proofs.paged.answer_paged.Goals as goal

-- a page

pub returns-in-Ok-Some-clause-answered : goal.returns-in-Ok-Some-clause-answered
returns-in-Ok-Some-clause-answered g c = λ observable.
    let store = c.args.store.now in
    let request = c.args.request.now in
    answer-page (IsOutcome store request c.args.now) (paged c.args.service store request) store c.in-Ok-Some.reply _
    (sym c.in-Ok-Some.ensures.reply ∙ c.in-Ok-Some.field-0-is)

pub returns-in-Ok-Some-clause-steps : goal.returns-in-Ok-Some-clause-steps
returns-in-Ok-Some-clause-steps g c =
    let store = c.args.store.now in
    let reply = c.in-Ok-Some.reply in
    steps-none g.D.Disk.observable (g.D.Disk.state c.args.disk.now) store _
    (page-undisk reply (paged-reply c.args.service store c.args.request.now reply
    (sym c.in-Ok-Some.ensures.reply ∙ c.in-Ok-Some.field-0-is))) c.requires.unspent c.requires.stands

pub returns-in-Ok-Some-clause-leaves : goal.returns-in-Ok-Some-clause-leaves
returns-in-Ok-Some-clause-leaves g c = λ observable.
    let disk = g.D.Disk.state c.args.disk.now in
    let store = c.args.store.now in
    reads-leave c.begun_images_are_whole.ensures (answers_of c.args.service store c.args.request.now c.args.now) disk disk
    store store _ (g.met.D.Disk.is_disk c.args.disk.now) (c.requires.stands observable) (reads-none disk store)

-- no page

pub returns-in-Ok-None-clause-answered : goal.returns-in-Ok-None-clause-answered
returns-in-Ok-None-clause-answered g c = λ observable.
    let store = c.args.store.now in
    let request = c.args.request.now in
    answer-unpaged (IsOutcome store request c.args.now) (paged c.args.service store request) store c.answer.new.store
    c.answer.result _ (sym c.in-Ok-None.ensures.reply ∙ c.in-Ok-None.field-0-is) (c.answer.ensures.answered observable)

pub returns-in-Ok-None-clause-leaves : goal.returns-in-Ok-None-clause-leaves
returns-in-Ok-None-clause-leaves g c = λ observable.
    let store = c.args.store.now in
    let request = c.args.request.now in
    leaves-unpaged (IsOutcome store request c.args.now) (paged c.args.service store request)
    (g.D.Disk.state c.args.disk.now) (g.D.Disk.state c.answer.new.disk) store c.answer.new.store _
    (sym c.in-Ok-None.ensures.reply ∙ c.in-Ok-None.field-0-is) (c.answer.ensures.leaves observable)

pub returns-in-Ok-None-clause-grows : goal.returns-in-Ok-None-clause-grows
returns-in-Ok-None-clause-grows g c =
    stays-or-grows c.args.request.now.verb c.answer.result _ _ c.answer.ensures.grows c.answer.ensures.same

-- memory ran out

pub returns-in-Err-clause-leaves : goal.returns-in-Err-clause-leaves
returns-in-Err-clause-leaves g c = λ observable.
    let disk = g.D.Disk.state c.args.disk.now in
    let store = c.args.store.now in
    reads-leave c.begun_images_are_whole.ensures (answers_of c.args.service store c.args.request.now c.args.now) disk disk
    store store _ (g.met.D.Disk.is_disk c.args.disk.now) (c.requires.stands observable) (reads-none disk store)
