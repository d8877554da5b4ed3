use Rattle.std.proofs.Common.{◌≡◌, ◌⊎◌, inl, ⊎_elim, ℕ, Err, ap, subst, sym, ◌∙◌}
use Rattle.command_ends.specs.Answer.{Answer, Prints}
use Rattle.command_ends.specs.Ends.{IsAlone, IsAnswered, IsDone, alone_line}
use Rattle.command_ends.specs.Fault.{fault_answer}
use Rattle.command_ends.specs.Status.{code_of}
use Rattle.command_ends.proofs.AnsweredLemmas.{ends-printed, ends-refused, fault-counts, printed-counts}
use Rattle.command_ends.proofs.EndLemmas.{answered-refusal, no_done}
use Rattle.command_ends.proofs.PrintLemmas.{alone-fault}
use Rattle.mirror_commands.specs.Audit.{IsAudited, MayEndAudit}
use Rattle.mirror_commands.specs.Printed.{printed_answer}
use Rattle.mirror_commands.proofs.AuditEndLemmas.{audits-done, audits-undone}
use Rattle.mirror_commands.proofs.AuditRunLemmas.{done-status, stops-complete, stops-status}
use Rattle.mirror_commands.proofs.OneAuditedLemmas.{one-audited}
use Rattle.mirror_commands.proofs.auditing.audit.Goals as goal

pub returns-in-Ok-clause-statuses : goal.returns-in-Ok-clause-statuses
returns-in-Ok-clause-statuses g c =
    done-status (code_of (printed_answer c.in-Ok.printed).status) (code_of c.end_printed.result) c.in-Ok.ensures.ends
    c.end_printed.ensures.ends

pub returns-in-Ok-clause-answered : goal.returns-in-Ok-clause-answered
returns-in-Ok-clause-answered g c = λ observable answered.
    ends-printed (IsAudited (g.I.Source.state c.args.input.now).left) g.O.Sink.observable
    (g.O.Sink.state c.args.output.now) (g.O.Sink.state c.end_printed.new.output) (printed_answer c.in-Ok.printed)
    (code_of c.end_printed.result) (c.in-Ok.ensures.given observable) c.in-Ok.ensures.ends c.end_printed.ensures.ends
    c.end_printed.ensures.prints c.end_printed.ensures.whole

pub returns-in-Ok-clause-output_faults : goal.returns-in-Ok-clause-output_faults
returns-in-Ok-clause-output_faults g c = printed-counts _ _ _ c.end_printed.ensures.faults

pub returns-in-Ok-clause-complete : goal.returns-in-Ok-clause-complete
returns-in-Ok-clause-complete g c = λ observable given is no_input no_output.
    let same = one-audited (g.I.Source.state c.args.input.now).left (printed_answer c.in-Ok.printed) given
    (c.in-Ok.ensures.given observable) is in
    ⊎_elim (λ e. inl (e ∙ ap (λ (a : Answer). code_of a.status) same))
    (λ e. absurd (no_output (c.end_printed.ensures.faults.failed e))) c.end_printed.ensures.ends

pub returns-in-Ok-clause-audits : goal.returns-in-Ok-clause-audits
returns-in-Ok-clause-audits g c = λ observable.
    audits-done (g.I.Source.state c.args.input.now).left (printed_answer c.in-Ok.printed)
    (code_of c.end_printed.result) (c.in-Ok.ensures.given observable) c.in-Ok.ensures.ends c.end_printed.ensures.ends

pub returns-in-Err-clause-statuses : goal.returns-in-Err-clause-statuses
returns-in-Err-clause-statuses g c =
    subst MayEndAudit (sym (ap code_of c.print_fault.ensures.status))
    (stops-status c.in-Err.fault c.in-Err.ensures.only_errors)

pub returns-in-Err-clause-answered : goal.returns-in-Err-clause-answered
returns-in-Err-clause-answered g c = λ observable answered.
    let fault = c.in-Err.fault in
    let status = ap code_of c.print_fault.ensures.status in
    ends-refused (IsAudited (g.I.Source.state c.args.input.now).left) g.O.Sink.observable
    (g.O.Sink.state c.args.output.now) (g.O.Sink.state c.print_fault.new.output) (fault_answer fault)
    (code_of c.print_fault.result)
    (c.in-Err.ensures.refused (answered-refusal fault (subst IsAnswered status answered)) observable) status
    (no_done fault) c.print_fault.ensures.prints

pub returns-in-Err-clause-alone : goal.returns-in-Err-clause-alone
returns-in-Err-clause-alone g c = λ sink alone. subst (λ (ended : ℕ). IsAlone ended
    → Prints (g.O.Sink.state c.args.output.now) (g.O.Sink.state c.print_fault.new.output) (alone_line ended))
    (sym (ap code_of c.print_fault.ensures.status))
    (λ same. subst (Prints (g.O.Sink.state c.args.output.now) (g.O.Sink.state c.print_fault.new.output))
    (sym (alone-fault c.in-Err.fault same)) (c.print_fault.ensures.prints sink)) alone

pub returns-in-Err-clause-output_faults : goal.returns-in-Err-clause-output_faults
returns-in-Err-clause-output_faults g c =
    fault-counts c.in-Err.fault _ _ _ (ap code_of c.print_fault.ensures.status) c.print_fault.ensures.faults

pub returns-in-Err-clause-complete : goal.returns-in-Err-clause-complete
returns-in-Err-clause-complete g c = λ observable given is no_input no_output.
    let fault = c.in-Err.fault in
    subst (λ (n : ℕ). (n ≡ code_of given.status) ⊎ (n ≡ 5)) (sym (ap code_of c.print_fault.ensures.status))
    (stops-complete (g.I.Source.state c.args.input.now).left fault given c.in-Err.ensures.only_errors
    (λ refusal. c.in-Err.ensures.refused refusal observable) is
    (λ e. no_input (c.verdict.ensures.input.failed (c.in-Err.is ∙ ap Err e))))

pub returns-in-Err-clause-audits : goal.returns-in-Err-clause-audits
returns-in-Err-clause-audits g c = λ observable.
    audits-undone (g.I.Source.state c.args.input.now).left (code_of c.print_fault.result)
    (λ done. no_done c.in-Err.fault (subst IsDone (ap code_of c.print_fault.ensures.status) done))
