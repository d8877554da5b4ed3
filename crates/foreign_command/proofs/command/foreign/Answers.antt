use Rattle.std.proofs.Common.{◌≡◌, ◌⊎◌, inl, inr, ⊎_elim, ℕ, ap, ◌∙◌, subst, sym}
use Rattle.command_ends.specs.Answer.{Answer}
use Rattle.command_ends.specs.Printed.{printed_answer}
use Rattle.command_ends.specs.Status.{code_of}
use Rattle.command_ends.proofs.AnsweredLemmas.{ends-printed}
use Rattle.foreign_command.specs.Ends.{IsOwnAnswer}
use Rattle.foreign_command.proofs.OwnAnswerLemmas.{asks_over, own_answer}
use Rattle.foreign_command.proofs.command.foreign.Goals as goal

pub returns-in-Ok-clause-complete : goal.returns-in-Ok-clause-complete
returns-in-Ok-clause-complete g c = λ observable given is no_fetch no_output.
    let same = c.foreign_has_one_answer.ensures _ c.args.from.now (printed_answer c.in-Ok.printed) given
    (c.in-Ok.ensures.given observable) is in
    ⊎_elim (λ e. inl (e ∙ ap (λ (a : Answer). code_of a.status) same))
    (λ e. absurd (no_output (c.end_printed.ensures.faults.failed e))) c.end_printed.ensures.ends

pub returns-in-Ok-clause-walks : goal.returns-in-Ok-clause-walks
returns-in-Ok-clause-walks g c = λ observable.
    record {
      asks = asks_over _ _ c.args.from.now c.in-Ok.printed (code_of c.end_printed.result)
          (c.in-Ok.ensures.goes observable) c.in-Ok.ensures.ends c.end_printed.ensures.ends;
      own = λ head history serves same answered.
          ends-printed (IsOwnAnswer head history) g.O.Sink.observable (g.O.Sink.state c.args.output.now)
          (g.O.Sink.state c.end_printed.new.output) (printed_answer c.in-Ok.printed) (code_of c.end_printed.result)
          (own_answer c.own_chains_are_read.ensures.read _ c.args.from.now (printed_answer c.in-Ok.printed) head history
          (c.in-Ok.ensures.given observable) serves same)
          c.in-Ok.ensures.ends c.end_printed.ensures.ends c.end_printed.ensures.prints c.end_printed.ensures.whole;
    }
