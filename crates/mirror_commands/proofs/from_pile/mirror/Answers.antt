use Rattle.std.proofs.Common.{◌≡◌, ◌⊎◌, inl, ⊎_elim, ℕ, Result, Err, IsOk, refl, sym, ap, subst, ◌∙◌, arith}
use Rattle.mirror_commands.specs.declared.printed.Printed.{Printed}
use Rattle.mirror_commands.specs.declared.report_fault.ReportFault.{ReportFault}
use Rattle.mirror_commands.specs.declared.report_fault.ReportFault.TheVariants.{Other}
use Rattle.command_ends.specs.declared.fault.Fault.TheVariants.{Disk}
use Rattle.command_ends.specs.Answer.{Answer, Prints}
use Rattle.command_ends.specs.Ends.{IsAlone, IsAnswered, alone_line}
use Rattle.mirror_commands.specs.MirrorCrash.{IsAfterLoad}
use Rattle.mirror_commands.specs.MirrorEnds.{IsPileAnswer, IsLater, MayEndPileReport}
use Rattle.mirror_commands.specs.MirrorFaults.{report_answer}
use Rattle.mirror_commands.specs.Printed.{printed_answer}
use Rattle.mirror_commands.specs.Served.{IsReported}
use Rattle.command_ends.specs.Status.{code_of}
use Rattle.command_ends.proofs.AnsweredLemmas.{ends-printed, ends-refused, printed-counts}
use Rattle.mirror_commands.proofs.LoadedLemmas.{stores-alone}
use Rattle.mirror_commands.proofs.MirrorEndLemmas.{disk-code, fault-complete}
use Rattle.mirror_commands.proofs.MirrorEndLemmas.{pile-gave, pile-left, pile-refused, pile-same, pile-served, printed-never}
use Rattle.mirror_commands.proofs.ReportFaultLemmas.{after-later, alone-report, answered-report, disk-of, report-counts, report-no_done, report-unreported}
use Rattle.mirror_commands.proofs.from_pile.mirror.Goals as goal

pub returns-in-Ok-clause-answered : goal.returns-in-Ok-clause-answered
returns-in-Ok-clause-answered g c = λ disk observable answered.
    let shown = c.in-Ok.ensures.printed disk observable in
    ends-printed (IsPileAnswer c.args.report c.args.capacity c.args.base.now (g.D.Disk.state c.args.disk.now).content
    (g.I.Source.state c.args.input.now).left) g.O.Sink.observable (g.O.Sink.state c.args.output.now) (g.O.Sink.state c.end_printed.new.output)
    (printed_answer c.in-Ok.printed) (code_of c.end_printed.result)
    (inl record { kept = shown.kept; loaded = shown.loaded; is = inl shown.is }) c.in-Ok.ensures.ends
    c.end_printed.ensures.ends c.end_printed.ensures.prints c.end_printed.ensures.whole

pub returns-in-Ok-clause-output_faults : goal.returns-in-Ok-clause-output_faults
returns-in-Ok-clause-output_faults g c = printed-counts _ _ _ c.end_printed.ensures.faults

pub returns-in-Ok-clause-complete : goal.returns-in-Ok-clause-complete
returns-in-Ok-clause-complete g c = λ disk observable kept given held is no_disk no_input no_output.
    let shown = c.in-Ok.ensures.printed disk observable in
    let same = pile-same c.args.report c.args.capacity c.args.base.now (g.D.Disk.state c.args.disk.now).content
    (g.I.Source.state c.args.input.now).left
    (printed_answer c.in-Ok.printed) given kept
    (record { kept = shown.kept; loaded = shown.loaded; is = inl shown.is }) held is in
    ⊎_elim (λ e. inl (e ∙ ap (λ (a : Answer). code_of a.status) same))
    (λ e. absurd (no_output (c.end_printed.ensures.faults.failed e))) c.end_printed.ensures.ends

pub returns-in-Ok-clause-mirrors : goal.returns-in-Ok-clause-mirrors
returns-in-Ok-clause-mirrors g c = λ disk observable. record {
  gave = pile-gave (g.D.Disk.state c.args.disk.now) (g.D.Disk.state c.load_and_offer.new.disk)
      (code_of c.end_printed.result) c.args.capacity c.args.base.now (g.D.Disk.state c.args.disk.now).content
      (g.I.Source.state c.args.input.now) (g.I.Source.state c.load_and_offer.new.input) c.load_and_offer.result
      (c.load_and_offer.ensures.gave disk observable) (λ e. let other = sym c.in-Ok.is ∙ e in absurd (cc))
      (λ four. absurd (printed-never 4 (printed_answer c.in-Ok.printed).status (code_of c.end_printed.result)
      (λ e. omega (arith, e)) (λ e. omega (arith, e)) (λ e. omega (arith, e)) c.in-Ok.ensures.ends
      c.end_printed.ensures.ends four))
      (λ reported. subst (λ (r : Result Printed ReportFault). IsOk r) (sym c.in-Ok.is) refl);
  kept = λ whole. pile-left (g.D.Disk.state c.args.disk.now) (g.D.Disk.state c.load_and_offer.new.disk)
      (code_of c.end_printed.result) c.args.capacity c.args.base.now
      (g.I.Source.state c.args.input.now).left c.load_and_offer.result
      (c.load_and_offer.ensures.kept disk observable whole)
      (λ after. subst (λ (r : Result Printed ReportFault). IsLater r) (sym c.in-Ok.is) tt)
      (λ e. let other = sym c.in-Ok.is ∙ e in absurd (cc))
      (λ reported. subst (λ (r : Result Printed ReportFault). IsOk r) (sym c.in-Ok.is) refl);
  mirrored = λ head history kept offers holds pile served reported.
      pile-served c.args.report c.args.capacity c.args.base.now (g.D.Disk.state c.args.disk.now)
      (g.I.Source.state c.args.input.now).left
      (printed_answer c.in-Ok.printed) head history kept offers
      g.O.Sink.observable (g.O.Sink.state c.args.output.now) (g.O.Sink.state c.end_printed.new.output)
      (code_of c.end_printed.result) (c.in-Ok.ensures.printed disk observable) holds pile served c.end_printed.ensures.ends
      c.end_printed.ensures.prints;
}

pub returns-in-Ok-clause-safe : goal.returns-in-Ok-clause-safe
returns-in-Ok-clause-safe g c = λ observable.
    stores-alone (g.D.Disk.state c.args.disk.now) (g.D.Disk.state c.load_and_offer.new.disk) c.in-Ok.ensures.others

pub returns-in-Err-clause-answered : goal.returns-in-Err-clause-answered
returns-in-Err-clause-answered g c = λ disk observable answered.
    let fault = c.in-Err.fault in
    let status = ap code_of c.print_report_fault.ensures.status in
    ends-refused (IsPileAnswer c.args.report c.args.capacity c.args.base.now (g.D.Disk.state c.args.disk.now).content
    (g.I.Source.state c.args.input.now).left) g.O.Sink.observable (g.O.Sink.state c.args.output.now) (g.O.Sink.state c.print_report_fault.new.output)
    (report_answer fault) (code_of c.print_report_fault.result)
    (c.in-Err.ensures.refused (answered-report fault (subst IsAnswered status answered)) disk observable) status
    (report-no_done fault) c.print_report_fault.ensures.prints

pub returns-in-Err-clause-alone : goal.returns-in-Err-clause-alone
returns-in-Err-clause-alone g c = λ sink alone. subst (λ (ended : ℕ). IsAlone ended
    → Prints (g.O.Sink.state c.args.output.now) (g.O.Sink.state c.print_report_fault.new.output) (alone_line ended))
    (sym (ap code_of c.print_report_fault.ensures.status))
    (λ same. subst (Prints (g.O.Sink.state c.args.output.now) (g.O.Sink.state c.print_report_fault.new.output))
    (sym (alone-report c.in-Err.fault same)) (c.print_report_fault.ensures.prints sink)) alone

pub returns-in-Err-clause-output_faults : goal.returns-in-Err-clause-output_faults
returns-in-Err-clause-output_faults g c =
    report-counts c.in-Err.fault _ _ _ (ap code_of c.print_report_fault.ensures.status) c.print_report_fault.ensures.faults

pub returns-in-Err-clause-complete : goal.returns-in-Err-clause-complete
returns-in-Err-clause-complete g c = λ disk observable kept given held is no_disk no_input no_output.
    let fault = c.in-Err.fault in
    subst (λ (n : ℕ). (n ≡ code_of given.status) ⊎ (n ≡ 5)) (sym (ap code_of c.print_report_fault.ensures.status))
    (fault-complete fault given
    (λ refusal. pile-refused c.args.report c.args.capacity c.args.base.now (g.D.Disk.state c.args.disk.now).content
    (g.I.Source.state c.args.input.now).left (report_answer fault) given kept
    (c.in-Err.ensures.refused refusal disk observable) held is)
    (λ e. no_disk (c.load_and_offer.ensures.disk.failed (c.in-Err.is ∙ ap Err e)))
    (λ e. no_input (c.load_and_offer.ensures.input.failed (c.in-Err.is ∙ ap Err e)))
    (λ e. subst MayEndPileReport e c.in-Err.ensures.only_errors))

pub returns-in-Err-clause-mirrors : goal.returns-in-Err-clause-mirrors
returns-in-Err-clause-mirrors g c = λ disk observable.
    let fault = c.in-Err.fault in
    let status = ap code_of c.print_report_fault.ensures.status in
    record {
      gave = pile-gave (g.D.Disk.state c.args.disk.now) (g.D.Disk.state c.load_and_offer.new.disk)
          (code_of c.print_report_fault.result) c.args.capacity c.args.base.now (g.D.Disk.state c.args.disk.now).content
          (g.I.Source.state c.args.input.now) (g.I.Source.state c.load_and_offer.new.input) c.load_and_offer.result
          (c.load_and_offer.ensures.gave disk observable)
          (λ e. let same : fault ≡ Other Disk = let other = sym c.in-Err.is ∙ e in cc in
          disk-code fault (code_of c.print_report_fault.result) status same)
          (λ four. c.in-Err.is ∙ ap Err (disk-of fault (sym status ∙ four)))
          (λ reported. absurd (report-unreported fault (subst IsReported status reported)));
      kept = λ whole. pile-left (g.D.Disk.state c.args.disk.now) (g.D.Disk.state c.load_and_offer.new.disk)
          (code_of c.print_report_fault.result) c.args.capacity c.args.base.now (g.I.Source.state c.args.input.now).left
          c.load_and_offer.result (c.load_and_offer.ensures.kept disk observable whole)
          (λ after. subst (λ (r : Result Printed ReportFault). IsLater r) (sym c.in-Err.is)
          (after-later fault (subst IsAfterLoad status after)))
          (λ e. let same : fault ≡ Other Disk = let other = sym c.in-Err.is ∙ e in cc in
          disk-code fault (code_of c.print_report_fault.result) status same)
          (λ reported. absurd (report-unreported fault (subst IsReported status reported)));
      mirrored = λ head history kept offers holds pile served reported.
          absurd (report-unreported fault (subst IsReported status reported));
    }

pub returns-in-Err-clause-safe : goal.returns-in-Err-clause-safe
returns-in-Err-clause-safe g c = λ observable.
    stores-alone (g.D.Disk.state c.args.disk.now) (g.D.Disk.state c.load_and_offer.new.disk) c.in-Err.ensures.others
