use Rattle.std.proofs.Common.{◌≢◌, inl, Result, Err, ap, ◌∙◌}
use Rattle.std.proofs.lemmas.Result.{err_from_is_err_and}
use Rattle.member_rules.specs.Head.{HeadValue}
use Rattle.document_server.proofs.ChangeLemmas.{calls-some, commits, done-same, replied-done}
use Rattle.document_server.proofs.StepLemmas.{counts-worked, reads-none, steps-failed, steps-none, worked}
use Rattle.document_server.specs.declared.failure.Failure.{Failure}
use Rattle.document_server.specs.declared.failure.Failure.TheVariants.{Disk, NoMemory}
use Rattle.http_face.specs.declared.reply.Reply.{Reply}
use Rattle.document_server.proofs.change.commit.Goals as goal

no_memory : (let result : Result Reply Failure = Err NoMemory in result ≢ Err Disk)
no_memory same = cc

pub returns-in-Err-clause-steps : goal.returns-in-Err-clause-steps
returns-in-Err-clause-steps g c =
    steps-none g.D.Disk.observable _ c.args.store.now _ no_memory c.requires.unspent c.requires.stands

pub returns-in-Err-clause-leaves : goal.returns-in-Err-clause-leaves
returns-in-Err-clause-leaves g c = inl (reads-none _ c.args.store.now)

pub returns-in_err-commit-clause-steps : goal.returns-in_err-commit-clause-steps
returns-in_err-commit-clause-steps g c =
    let p = err_from_is_err_and c.from_residual.result c.from_residual.ensures.1 in
    let ensured = c.in_err-commit.ensures in
    steps-failed g.D.Disk.observable _ _ c.args.store.now c.commit.new.self _ (p.1 ∙ ap Err p.2) c.commit.ensures.head
    ensured.before.0 ensured.before.1 c.commit.ensures.mirror ensured.calls.faults.later ensured.calls.faults.failed
    (calls-some _ _ _ _ _ ensured.calls.most)

pub returns-in_err-commit-clause-leaves : goal.returns-in_err-commit-clause-leaves
returns-in_err-commit-clause-leaves g c =
    let p = err_from_is_err_and c.from_residual.result c.from_residual.ensures.1 in
    commits g.D.Disk.observable _ _ c.args.store.now _ _ _ (λ tells rests. (c.commit.ensures.leaves tells rests).moments)
    (λ works. absurd (works (p.1 ∙ ap Err p.2)))

pub returns-clause-steps : goal.returns-clause-steps
returns-clause-steps g c =
    let ensured = c.in_ok-commit.ensures in
    record {
      head = c.commit.ensures.head;
      faults = counts-worked _ _ _ (worked _ _) ensured.calls.faults.worked;
      spent = λ fails. absurd (worked _ _ fails);
      stays = λ fails. absurd (worked _ _ fails);
      unspent = λ _. ensured.committed.unspent;
      stands = λ _. ensured.stands;
      rests = λ _ tells rests. (ensured.settled tells rests).rests;
      mirror = c.commit.ensures.mirror;
      calls = calls-some _ _ _ _ _ ensured.calls.most;
    }

pub returns-clause-leaves : goal.returns-clause-leaves
returns-clause-leaves g c = commits g.D.Disk.observable _ _ c.args.store.now _ _ _
    (λ tells rests. (c.commit.ensures.leaves tells rests).moments) (λ _. c.in_ok-commit.ensures.committed.history)

pub returns-clause-grows : goal.returns-clause-grows
returns-clause-grows g c = λ done. record {
  operation = c.args.ready.operation;
  history = c.in_ok-commit.ensures.committed.history;
  seal = c.args.ready.seal;
  due = c.requires.prepared.seal;
  calls = c.in_ok-commit.ensures.calls.all;
}

pub returns-clause-answered : goal.returns-clause-answered
returns-clause-answered g c =
    replied-done c.windows_seal_in_turn.ensures c.args.store.now c.commit.new.self c.args.ready
    c.in_ok-commit.ensures.committed.history c.commit.ensures.rules c.commit.ensures.head
    c.in_ok-commit.ensures.committed.sealed
    c.in-Ok.reply
    (c.in-Ok.ensures.reply ∙ done-same _ _ _ _
    (ap (λ (h : HeadValue). h.name) (c.behind-store.view_is ∙ c.head.ensures))
    c.op.ensures)
