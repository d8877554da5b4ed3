use Rattle.std.proofs.Common.{◌∙◌, sym}
use Rattle.feed_drill.proofs.TurnLemmas.{make-kept, make-none, make-some, on-ok}
use Rattle.feed_drill.proofs.turn.make.Goals as goal
use Rattle.feed_drill.proofs.turn.make.Goals.{in-Some+in_ok-crash+else-version-turn, in_default}

pub returns-then-version-turn : goal.returns-then-version-turn
returns-then-version-turn c history held lives same next =
    make-kept c.args.life.now c.crash.new.life _ _ c.args.turn history held c.args.stop c.in-Some.stop c.in-Some.is
    (c.in_ok-crash.ensures history held lives same) (sym c.version.ensures ∙ c.if-version-turn.true) next

pub returns : goal.returns
returns c = on-ok c.ask.result (λ done history held lives same next. elim c.match-stop.branch [
  | in-Some+in_ok-crash+else-version-turn w ↦
      make-some c.args.life.now w.crash.new.life c.ask.new.life c.match-stop.life c.args.head.now _ _ c.args.turn
      history
      held c.args.stop w.in-Some.stop w.in-Some.is w.life-is (w.in_ok-crash.ensures history held lives same)
      (λ is. w.if-version-turn.false (w.version.ensures ∙ is)) done same next
  | in_default w ↦
      make-none c.args.life.now c.ask.new.life c.match-stop.life c.args.head.now _ _ c.args.turn history held
      c.args.stop
      w.in_default.is w.life-is done lives same next
]) c.ask.ensures
