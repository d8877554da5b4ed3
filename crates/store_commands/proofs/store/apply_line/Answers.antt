use Rattle.std.proofs.Common.{ap, sym, ◌∙◌}
use Rattle.store_commands.proofs.MomentsLemmas.{operation-calls}
use Rattle.store_commands.proofs.RoomLemmas.{line-refused, line-made, line-prepared}
use Rattle.feed_recovery.proofs.SizeLemmas.{journal-size, seals-size}
use Rattle.store_commands.proofs.store.apply_line.Goals as goal

pub returns-in-Err-clause-refused : goal.returns-in-Err-clause-refused
returns-in-Err-clause-refused g c =
    let store = c.args.store.now in
    let disk = g.D.Disk.state c.args.disk.now in
    rw c.of_prepare.ensures (λ refusal observable.
    line-refused store (journal-size disk store (c.requires.stands observable) c.prepare.ensures.logs.0)
    (seals-size disk store (c.requires.stands observable) c.prepare.ensures.logs.1) c.args.number c.args.now c.args.line.now
    c.in-Some.ask c.in-Err.fault (sym c.in_ok-ask.ensures ∙ c.in-Some.is) c.in-Err.ensures.refused refusal)

pub returns-in_ok-commit-in-Ok-clause-made : goal.returns-in_ok-commit-in-Ok-clause-made
returns-in_ok-commit-in-Ok-clause-made g c = λ observable.
    let store = c.args.store.now in
    let disk = g.D.Disk.state c.args.disk.now in
    let prepared = c.prepare.new.self in
    line-made store prepared c.commit.new.self prepared.members.spare prepared.journal.spare prepared.seals.spare
    prepared.spare c.prepare.ensures.same
    (journal-size disk store (c.requires.stands observable) c.prepare.ensures.logs.0)
    (seals-size disk store (c.requires.stands observable) c.prepare.ensures.logs.1) c.args.number c.args.now c.args.line.now
    c.in-Some.ask c.in-Ok.ready (sym c.in_ok-ask.ensures ∙ c.in-Some.is) c.in-Ok.ensures.decided
    c.in-Ok.ensures.commits c.commit.ensures.head c.in_ok-commit-in-Ok.ensures.committed.history
    c.in_ok-commit-in-Ok.ensures.committed.sealed

pub returns-in_ok-commit-in-Ok-clause-calls : goal.returns-in_ok-commit-in-Ok-clause-calls
returns-in_ok-commit-in-Ok-clause-calls g c =
    operation-calls (g.D.Disk.state c.args.disk.now) (g.D.Disk.state c.commit.new.disk) c.in-Ok.ready.seal _ _
    c.in_ok-commit-in-Ok.ensures.calls.all

pub returns-in_err-commit-in-Ok-clause-failed : goal.returns-in_err-commit-in-Ok-clause-failed
returns-in_err-commit-in-Ok-clause-failed g c = λ e observable rests.
    let store = c.args.store.now in
    let disk = g.D.Disk.state c.args.disk.now in
    let prepared = c.prepare.new.self in
    let moments = (c.commit.ensures.leaves observable rests).moments in (
      c.in-Ok.ready.operation,
      line-prepared store prepared prepared.members.spare prepared.journal.spare prepared.seals.spare prepared.spare
          c.prepare.ensures.same
          (journal-size disk store (c.requires.stands observable) c.prepare.ensures.logs.0)
          (seals-size disk store (c.requires.stands observable) c.prepare.ensures.logs.1) c.args.number c.args.now
          c.args.line.now c.in-Some.ask c.in-Ok.ready (sym c.in_ok-ask.ensures ∙ c.in-Some.is) c.in-Ok.ensures.decided
          c.in-Ok.ensures.commits,
      c.in_err-commit-in-Ok.ensures.before.0 ∙ ap (λ s. s.history) c.prepare.ensures.same,
      rw c.prepare.ensures.same at moments,
    )
