use Rattle.std.proofs.Common.{subst}
use Rattle.document_server.specs.Answer.{IsReadAs}
use Rattle.member_rules.specs.declared.ask.Ask.TheVariants.{Create}
use Rattle.document_server.proofs.RowLemmas.{comes-as, commits-as, sent-read, sent-refused}
use Rattle.document_server.proofs.StepLemmas.{replied-none}
use Rattle.document_server.proofs.change.create.Goals as goal

pub returns-in-Ok-clause-answered : goal.returns-in-Ok-clause-answered
returns-in-Ok-clause-answered g c =
    comes-as _ _
    (λ given. sent-read c.args.store.now c.args.request.now (λ draft. Create draft) c.args.now c.in-Ok.draft given
    (subst (IsReadAs c.args.request.now) c.in-Ok.is c.in_ok-draft.ensures.read))
    c.args.store.now c.change.new.store c.change.result c.change.ensures.answered

pub returns-in-Ok-clause-leaves : goal.returns-in-Ok-clause-leaves
returns-in-Ok-clause-leaves g c =
    commits-as g.D.Disk.observable _ _
    (λ given. sent-read c.args.store.now c.args.request.now (λ draft. Create draft) c.args.now c.in-Ok.draft given
    (subst (IsReadAs c.args.request.now) c.in-Ok.is c.in_ok-draft.ensures.read))
    _ _ c.args.store.now c.change.new.store _ c.change.ensures.leaves

pub returns-in-Err-clause-answered : goal.returns-in-Err-clause-answered
returns-in-Err-clause-answered g c =
    replied-none _ c.args.store.now _
    (sent-refused c.args.store.now c.args.request.now (λ draft. Create draft) c.args.now _
    (subst (IsReadAs c.args.request.now) c.in-Err.is c.in_ok-draft.ensures.read))
