use Rattle.std.proofs.Common.{inl}
use Rattle.document_server.specs.Reply.{IsAsked}
use Rattle.document_server.proofs.ChangeLemmas.{comes-roomy, grows-roomy, is-asked, leaves-roomy, reads-refused, refused-is}
use Rattle.document_server.proofs.ChangeLemmas.{replied-refused, steps-refused, steps-roomy}
use Rattle.document_server.proofs.StepLemmas.{worked}
use Rattle.document_server.proofs.change.change.Goals as goal

pub returns-in-Ok-clause-answered : goal.returns-in-Ok-clause-answered
returns-in-Ok-clause-answered g c =
    let old = c.args.store.now in
    let prepared = c.prepare.new.self in
    comes-roomy old prepared _ _ _ _ c.prepare.ensures.same _ _
    (is-asked old prepared _ _ _ _ c.prepare.ensures.same c.args.ask c.args.now c.in-Ok.ready c.in-Ok.ensures.decided
    c.in-Ok.ensures.commits) c.commit.new.store c.commit.result c.commit.ensures.answered

pub returns-in-Ok-clause-leaves : goal.returns-in-Ok-clause-leaves
returns-in-Ok-clause-leaves g c =
    let old = c.args.store.now in
    let prepared = c.prepare.new.self in
    leaves-roomy old prepared _ _ _ _ c.prepare.ensures.same g.D.Disk.observable _ _
    (is-asked old prepared _ _ _ _ c.prepare.ensures.same c.args.ask c.args.now c.in-Ok.ready c.in-Ok.ensures.decided
    c.in-Ok.ensures.commits) _ _ c.commit.new.store _ c.commit.ensures.leaves

pub returns-in_ok-refused-in-Err-clause-answered :
    goal.returns-in_ok-refused-in-Err-clause-answered
returns-in_ok-refused-in-Err-clause-answered g c =
    replied-refused c.args.store.now c.prepare.new.self _ _ _ _ c.prepare.ensures.same
    (IsAsked c.args.store.now c.args.ask c.args.now) _
    (refused-is c.args.store.now c.args.ask c.args.now c.in-Err.fault _ c.in-Err.ensures.refused
    c.in_ok-refused-in-Err.ensures.reply)

pub returns-in-Ok-clause-steps : goal.returns-in-Ok-clause-steps
returns-in-Ok-clause-steps g c =
    steps-roomy c.args.store.now c.prepare.new.self _ _ _ _ c.prepare.ensures.same g.D.Disk.observable _ _
    c.commit.new.store _ c.commit.ensures.steps

pub returns-in-Ok-clause-grows : goal.returns-in-Ok-clause-grows
returns-in-Ok-clause-grows g c = λ done.
    grows-roomy c.args.store.now c.prepare.new.self _ _ _ _ c.prepare.ensures.same _ _ c.commit.new.store
    (c.commit.ensures.grows done)

pub returns-in_ok-refused-in-Err-clause-steps : goal.returns-in_ok-refused-in-Err-clause-steps
returns-in_ok-refused-in-Err-clause-steps g c =
    steps-refused c.args.store.now c.prepare.new.self _ _ _ _ c.prepare.ensures.same g.D.Disk.observable _ _ (worked _ _)
    c.requires.unspent c.requires.stands

pub returns-in_ok-refused-in-Err-clause-leaves : goal.returns-in_ok-refused-in-Err-clause-leaves
returns-in_ok-refused-in-Err-clause-leaves g c =
    inl (reads-refused c.args.store.now c.prepare.new.self _ _ _ _ c.prepare.ensures.same g.D.Disk.observable _ ⊥
    (λ is. is) c.requires.unspent c.requires.stands)
