use Rattle.std.proofs.Common.{refl}
use Rattle.store_commands.specs.Apply.{answer}
use Rattle.store_commands.proofs.apply.apply.Goals as goal

pub returns-in-Err-clause-refused : goal.returns-in-Err-clause-refused
unfolding answer
returns-in-Err-clause-refused g c = λ refusal source clock. rw
    (← c.in_ok-head.ensures, c.in-Err.ensures.refused refusal source clock) refl

pub returns-in_ok-text-in-Ok-clause-answer : goal.returns-in_ok-text-in-Ok-clause-answer
unfolding answer
returns-in_ok-text-in-Ok-clause-answer g c = λ source clock.
    rw (
      c.in_ok-text-in-Ok.ensures,
      c.in_ok-doc-in-Ok.ensures,
      ← c.in_ok-head.ensures,
      c.in-Ok.ensures.history source clock,
    ) refl
