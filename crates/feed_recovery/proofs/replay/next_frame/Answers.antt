use Rattle.std.proofs.Common.{Err, Result, Option, ap, refl, ◌∙◌}
use Rattle.feed_journal.specs.declared.fault.LogFault.{LogFault}
use Rattle.feed_journal.specs.declared.reader.Frame.{Frame}
use Rattle.feed_recovery.proofs.replay.next_frame.Goals as goal

pub returns-in-Err-Changed-clause-refused : goal.returns-in-Err-Changed-clause-refused
returns-in-Err-Changed-clause-refused g c =
    let failed : LogFault → Result (Option Frame) LogFault = λ fault. Err fault in (
      refl,
      refl,
      c.next.ensures.changed c.in-Err-Changed.index
          (c.in-Err-Changed.is ∙ ap failed c.in-Err-Changed.field-0-is),
    )
