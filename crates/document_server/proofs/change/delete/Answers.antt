use Rattle.std.proofs.Common.{sym, ap, ◌∙◌}
use Rattle.document_server.specs.Answer.{absent_reply}
use Rattle.document_server.proofs.RowLemmas.{absent-is, comes-as, commits-as, present-is}
use Rattle.document_server.proofs.StepLemmas.{replied-none}
use Rattle.document_server.proofs.change.delete.Goals as goal

pub returns-in-Some-clause-answered : goal.returns-in-Some-clause-answered
returns-in-Some-clause-answered g c =
    replied-none _ c.args.store.now _
    (absent-is _ _ _ (ap absent_reply (sym c.state.ensures) ∙ sym c.absent.ensures.reply ∙ c.in-Some.is))

pub returns-in-None-clause-answered : goal.returns-in-None-clause-answered
returns-in-None-clause-answered g c =
    comes-as _ _
    (λ given. present-is _ _ given (ap absent_reply (sym c.state.ensures) ∙ sym c.absent.ensures.reply ∙ c.in-None.is))
    c.args.store.now c.change.new.store c.change.result c.change.ensures.answered

pub returns-in-None-clause-leaves : goal.returns-in-None-clause-leaves
returns-in-None-clause-leaves g c =
    commits-as g.D.Disk.observable _ _
    (λ given. present-is _ _ given (ap absent_reply (sym c.state.ensures) ∙ sym c.absent.ensures.reply ∙ c.in-None.is))
    _ _ c.args.store.now c.change.new.store _ c.change.ensures.leaves
