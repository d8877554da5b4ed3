use Rattle.std.proofs.Common.{ap, ◌∙◌}
use Rattle.std.specs.Prelude.{Err, Some}
use Rattle.document_server.proofs.LeaveLemmas.{reads-leave}
use Rattle.document_server.proofs.LinkLemmas.{replies-answered, replies-refused}
use Rattle.document_server.proofs.StepLemmas.{reads-none, steps-as}
use Rattle.document_server.specs.Served.{answers_of}
use Rattle.feed_recovery.proofs.SizeLemmas.{is_sized}
use Rattle.document_server.proofs.session.reply_to.Goals as goal

pub returns-in-Ok-clause-replies : goal.returns-in-Ok-clause-replies
returns-in-Ok-clause-replies g c = λ observable.
    replies-answered (answers_of c.args.service) (g.D.Disk.state c.args.disk.now) (g.D.Disk.state c.answer_paged.new.disk)
    (g.C.Clock.coming c.args.clock.now) (g.C.Clock.coming c.now-now.new.self) (g.K.Conn.state c.args.link.now)
    (g.K.Conn.state c.read_request.new.conn) g.C.Clock.observable g.K.Conn.observable c.args.store.now c.answer_paged.new.store
    c.in-Ok.request c.now-now.result c.answer_paged.result _
    (is_sized (g.D.Disk.state c.args.disk.now) c.args.store.now (c.requires.stands observable) c.requires.logs)
    c.in-Ok.ensures.rules c.in-Ok.ensures.heard c.now-now.ensures.moment c.now-now.ensures.later
    (c.answer_paged.ensures.answered observable) (c.answer_paged.ensures.leaves observable) c.answer_paged.ensures.steps.spent
    c.answer_paged.ensures.only

pub returns-in-Ok-clause-steps : goal.returns-in-Ok-clause-steps
returns-in-Ok-clause-steps g c =
    steps-as _ _ _ _ _ _ _ c.answer_paged.ensures.steps.spent c.answer_paged.ensures.only c.answer_paged.ensures.steps

pub returns-in-Ok-clause-grows : goal.returns-in-Ok-clause-grows
returns-in-Ok-clause-grows g c = c.answer_paged.ensures.grows

pub returns-in-Ok-clause-spent : goal.returns-in-Ok-clause-spent
returns-in-Ok-clause-spent g c = λ spent. ap Some (c.answer_paged.ensures.only spent)

pub returns-in-Err-clause-replies : goal.returns-in-Err-clause-replies
returns-in-Err-clause-replies g c = λ observable.
    let disk = g.D.Disk.state c.args.disk.now in
    let store = c.args.store.now in
    rw c.reply.ensures.reply (replies-refused disk (g.C.Clock.coming c.args.clock.now) (g.K.Conn.state c.args.link.now)
    (g.K.Conn.state c.read_request.new.conn) g.C.Clock.observable g.K.Conn.observable ⊥ store c.in-Err.fault
    (is_sized disk store (c.requires.stands observable) c.requires.logs) c.requires.unspent (λ e. e)
    (λ e. c.read_request.ensures.failed (c.in-Err.is ∙ ap Err e)) c.in-Err.ensures.refused
    (reads-leave c.begun_images_are_whole.ensures (λ _. ⊥) disk disk store store ⊥
    (g.met.D.Disk.is_disk c.args.disk.now) (c.requires.stands observable) (reads-none disk store)))
