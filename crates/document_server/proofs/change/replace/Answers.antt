use Rattle.std.proofs.Common.{sym, ap, subst, ◌∙◌}
use Rattle.document_server.specs.Answer.{IsReadAs, absent_reply}
use Rattle.member_rules.specs.declared.ask.Ask.TheVariants.{Replace}
use Rattle.document_server.proofs.RowLemmas.{absent-is, comes-as, commits-as, present-is, sent-read, sent-refused}
use Rattle.document_server.proofs.StepLemmas.{replied-none}
use Rattle.document_server.proofs.change.replace.Goals as goal

pub returns-in-Some-clause-answered : goal.returns-in-Some-clause-answered
returns-in-Some-clause-answered g c =
    replied-none _ c.args.store.now _
    (absent-is _ _ _ (ap absent_reply (sym c.state.ensures) ∙ sym c.absent.ensures.reply ∙ c.in-Some.is))

pub returns-in-Ok-clause-answered : goal.returns-in-Ok-clause-answered
returns-in-Ok-clause-answered g c =
    comes-as _ _ (λ given is. present-is _ _ given
    (ap absent_reply (sym c.state.ensures) ∙ sym c.absent.ensures.reply ∙ c.in_default.is)
    (sent-read c.args.store.now c.args.request.now
    (λ draft. Replace c.args.number draft) c.args.now c.in-Ok.draft given
    (subst (IsReadAs c.args.request.now) c.in-Ok.is c.in_ok-draft.ensures.read) is)) c.args.store.now
    c.change.new.store c.change.result c.change.ensures.answered

pub returns-in-Ok-clause-leaves : goal.returns-in-Ok-clause-leaves
returns-in-Ok-clause-leaves g c =
    commits-as g.D.Disk.observable _ _ (λ given is. present-is _ _ given
    (ap absent_reply (sym c.state.ensures) ∙ sym c.absent.ensures.reply ∙ c.in_default.is)
    (sent-read c.args.store.now c.args.request.now
    (λ draft. Replace c.args.number draft) c.args.now c.in-Ok.draft given
    (subst (IsReadAs c.args.request.now) c.in-Ok.is c.in_ok-draft.ensures.read) is)) _ _ c.args.store.now
    c.change.new.store _ c.change.ensures.leaves

pub returns-in-Err-clause-answered : goal.returns-in-Err-clause-answered
returns-in-Err-clause-answered g c =
    replied-none _ c.args.store.now _ (present-is _ _ _
    (ap absent_reply (sym c.state.ensures) ∙ sym c.absent.ensures.reply ∙ c.in_default.is)
    (sent-refused c.args.store.now c.args.request.now (λ draft. Replace c.args.number draft) c.args.now _
    (subst (IsReadAs c.args.request.now) c.in-Err.is c.in_ok-draft.ensures.read)))
