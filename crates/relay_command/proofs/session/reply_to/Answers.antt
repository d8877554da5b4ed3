use Rattle.std.proofs.Common.{inl, inr, ap, ◌∙◌, sym}
use Rattle.std.specs.Prelude.{Some}
use Rattle.http_face.specs.Reply.{disk_fault}
use Rattle.document_server.proofs.StepLemmas.{counts-as, counts-none}
use Rattle.relay_command.proofs.ReplyLemmas.{fault-replied, fault-undisk, fault-unsent, read-back-as, read-none}
use Rattle.relay_command.proofs.ReplyLemmas.{some-same, spent-reply}
use Rattle.relay_command.proofs.session.reply_to.Goals as goal

pub returns-in-Ok-clause-replied : goal.returns-in-Ok-clause-replied
returns-in-Ok-clause-replied g c = λ tells. inr (inl (record {
  request = c.in-Ok.request;
  rules = c.in-Ok.ensures.rules;
  heard = c.in-Ok.ensures.heard tells;
  relayed = c.relay_answer.ensures.relayed;
}))

pub returns-in-Ok-clause-documents : goal.returns-in-Ok-clause-documents
returns-in-Ok-clause-documents g c = λ seen tells ok. record {
  request = c.in-Ok.request;
  heard = c.in-Ok.ensures.heard tells;
  held = c.relay_answer.ensures.held seen ok;
  served = λ head history holds. c.relay_answer.ensures.served seen head history holds ok;
}

pub returns-in-Ok-clause-spent : goal.returns-in-Ok-clause-spent
returns-in-Ok-clause-spent g c =
    spent-reply g.D.Disk.observable (g.D.Disk.state c.relay_answer.new.disk) c.args.mirror.now c.relay_answer.new.mirror
    c.args.base.now c.args.mirror.now.kept c.in-Ok.request c.relay_answer.result c.relay_answer.ensures.relayed
    c.requires.unspent c.relay_answer.ensures.mirror

pub returns-in-Ok-clause-mirror : goal.returns-in-Ok-clause-mirror
returns-in-Ok-clause-mirror g c =
    read-back-as g.D.Disk.observable (g.D.Disk.state c.relay_answer.new.disk) c.args.mirror.now c.relay_answer.new.mirror
    _ _ (ap Some) (some-same c.relay_answer.result disk_fault) c.relay_answer.ensures.mirror

pub returns-in-Ok-clause-faults : goal.returns-in-Ok-clause-faults
returns-in-Ok-clause-faults g c =
    counts-as _ _ _ _ (ap Some) (some-same c.relay_answer.result disk_fault) c.relay_answer.ensures.faults

pub returns-in-Err-clause-replied : goal.returns-in-Err-clause-replied
returns-in-Err-clause-replied g c = λ tells.
    rw c.reply.ensures.reply (fault-replied g.D.Disk.observable c.args.base.now c.args.mirror.now.kept
    (g.K.Conn.state c.args.link.now).left c.in-Err.fault
    (λ other other'. c.in-Err.ensures.refused other other' tells))

pub returns-in-Err-clause-documents : goal.returns-in-Err-clause-documents
returns-in-Err-clause-documents g c = λ seen tells.
    rw c.reply.ensures.reply (fault-unsent c.args.base.now c.args.mirror.now.kept (g.K.Conn.state c.args.link.now).left
    c.in-Err.fault)

pub returns-in-Err-clause-mirror : goal.returns-in-Err-clause-mirror
returns-in-Err-clause-mirror g c =
    read-none g.D.Disk.observable (g.D.Disk.state c.args.disk.now) c.args.mirror.now _
    (λ e. fault-undisk c.in-Err.fault (sym c.reply.ensures.reply ∙ e)) c.requires.stands

pub returns-in-Err-clause-faults : goal.returns-in-Err-clause-faults
returns-in-Err-clause-faults g c =
    counts-none _ _ (λ e. fault-undisk c.in-Err.fault (sym c.reply.ensures.reply ∙ e))
