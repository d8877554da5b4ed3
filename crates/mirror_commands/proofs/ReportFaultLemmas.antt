-- The exit statuses of the faults by which a mirror makes no report.
use Rattle.std.proofs.Common.{◌≡◌, inl, inr, ℕ, ◌≤◌, Result, Err, refl, sym, subst, ◌∙◌, arith}
use Rattle.mirror_commands.specs.declared.report_fault.ReportFault.{ReportFault}
use Rattle.mirror_commands.specs.declared.report_fault.ReportFault.TheVariants.{Fetch, OtherBase, Other}
use Rattle.mirror_commands.specs.declared.printed.Printed.{Printed}
use Rattle.command_ends.specs.declared.fault.Fault.{Fault}
use Rattle.command_ends.specs.declared.fault.Fault.TheVariants.{NoMemory, Input, Disk, BadStore, Full, Refused}
use Rattle.command_ends.specs.declared.fault.Refusal.TheVariants as why
use Rattle.mirror_commands.specs.FetchEnds.{MayEndFetched, MayEndWalkReport}
use Rattle.mirror_commands.specs.MirrorCrash.{IsAfterLoad}
use Rattle.mirror_commands.specs.MirrorEnds.{IsLaterFault, MayEndMirror, MayEndPileReport}
use Rattle.mirror_commands.specs.MirrorFaults.{IsReportRefusal, report_answer}
use Rattle.command_ends.specs.Ends.{CountsOutput, IsAlone, IsAnswered, IsDone, alone_line}
use Rattle.mirror_commands.specs.Served.{IsReported}
use Rattle.command_ends.specs.Status.{code_of}
use Rattle.command_ends.proofs.EndLemmas.{answered-refusal, no_done, no_output, refusal_code}
use Rattle.command_ends.proofs.PrintLemmas.{alone-fault, no_alone}

-- the fault of each status that has one

pub disk-of : (fault : ReportFault) → code_of (report_answer fault).status ≡ 4 → fault ≡ Other Disk
disk-of Fetch e = absurd (omega (arith, e))
disk-of (OtherBase base) e = absurd (omega (arith, e))
disk-of (Other NoMemory) e = absurd (omega (arith, e))
disk-of (Other Input) e = absurd (omega (arith, e))
disk-of (Other Disk) e = refl
disk-of (Other (BadStore bad)) e = absurd (omega (arith, e))
disk-of (Other (Full area size needed capacity)) e = absurd (omega (arith, e))
disk-of (Other (Refused refusal)) e =
    absurd (refusal_code (λ n. n ≡ 4 → ⊥) (λ f. omega (arith, f)) (λ f. omega (arith, f)) refusal e)

pub other-disk : (fault : Fault) → ◌≡◌ {A = Result Printed ReportFault} (Err (Other fault)) (Err (Other Disk))
    → ◌≡◌ {A = Result Printed Fault} (Err fault) (Err Disk)
other-disk NoMemory e = cc
other-disk Input e = cc
other-disk Disk e = refl
other-disk (BadStore bad) e = cc
other-disk (Full area size needed capacity) e = cc
other-disk (Refused refusal) e = cc

pub input-of : (fault : ReportFault) → code_of (report_answer fault).status ≡ 9 → fault ≡ Other Input
input-of Fetch e = absurd (omega (arith, e))
input-of (OtherBase base) e = absurd (omega (arith, e))
input-of (Other NoMemory) e = absurd (omega (arith, e))
input-of (Other Input) e = refl
input-of (Other Disk) e = absurd (omega (arith, e))
input-of (Other (BadStore bad)) e = absurd (omega (arith, e))
input-of (Other (Full area size needed capacity)) e = absurd (omega (arith, e))
input-of (Other (Refused refusal)) e =
    absurd (refusal_code (λ n. n ≡ 9 → ⊥) (λ f. omega (arith, f)) (λ f. omega (arith, f)) refusal e)

pub fetch-of : (fault : ReportFault) → code_of (report_answer fault).status ≡ 7 → fault ≡ Fetch
fetch-of Fetch e = refl
fetch-of (OtherBase base) e = absurd (omega (arith, e))
fetch-of (Other NoMemory) e = absurd (omega (arith, e))
fetch-of (Other Input) e = absurd (omega (arith, e))
fetch-of (Other Disk) e = absurd (omega (arith, e))
fetch-of (Other (BadStore bad)) e = absurd (omega (arith, e))
fetch-of (Other (Full area size needed capacity)) e = absurd (omega (arith, e))
fetch-of (Other (Refused refusal)) e =
    absurd (refusal_code (λ n. n ≡ 7 → ⊥) (λ f. omega (arith, f)) (λ f. omega (arith, f)) refusal e)

-- a fault is neither a defined end nor a failure of the output

pub report-no_done : (fault : ReportFault) → IsDone (code_of (report_answer fault).status) → ⊥
report-no_done Fetch (inl e) = omega (arith, e)
report-no_done Fetch (inr e) = omega (arith, e)
report-no_done (OtherBase base) (inl e) = omega (arith, e)
report-no_done (OtherBase base) (inr e) = omega (arith, e)
report-no_done (Other fault) done = no_done fault done

pub report-no_output : (fault : ReportFault) → code_of (report_answer fault).status ≡ 8 → ⊥
report-no_output Fetch e = omega (arith, e)
report-no_output (OtherBase base) e = omega (arith, e)
report-no_output (Other fault) e = no_output fault e

pub report-unreported : (fault : ReportFault) → IsReported (code_of (report_answer fault).status) → ⊥
report-unreported fault (inl e) = report-no_done fault (inl e)
report-unreported fault (inr (inl e)) = report-no_done fault (inr e)
report-unreported fault (inr (inr e)) = report-no_output fault e

-- after an answer the fault is a refusal
seven-unanswered : IsAnswered 7 → ⊥
seven-unanswered (inl (inl e)) = omega (arith, e)
seven-unanswered (inl (inr (inl e))) = omega (arith, e)
seven-unanswered (inl (inr (inr (inl e)))) = omega (arith, e)
seven-unanswered (inl (inr (inr (inr (inl e))))) = omega (arith, e)
seven-unanswered (inl (inr (inr (inr (inr (inl e)))))) = omega (arith, e)
seven-unanswered (inl (inr (inr (inr (inr (inr e)))))) = omega (arith, e)
seven-unanswered (inr e) = omega (arith, e)

pub answered-report : (fault : ReportFault) → IsAnswered (code_of (report_answer fault).status)
    → IsReportRefusal fault
answered-report Fetch h = absurd (seven-unanswered h)
answered-report (OtherBase base) h = tt
answered-report (Other fault) h = answered-refusal fault h

-- a status that comes only after the load is that of a fault that comes only then
early : (n : ℕ) → (n ≡ 4 → ⊥) → IsAfterLoad n → (n ≡ 5) → ⊥
early n four (inl (inl e)) five = omega (arith, e, five)
early n four (inl (inr (inl e))) five = omega (arith, e, five)
early n four (inl (inr (inr e))) five = omega (arith, e, five)
early n four (inr (inl e)) five = omega (arith, e, five)
early n four (inr (inr (inl e))) five = omega (arith, e, five)
early n four (inr (inr (inr (inl e)))) five = omega (arith, e, five)
early n four (inr (inr (inr (inr e)))) five = omega (arith, e, five)

after-not : (n : ℕ) → IsAfterLoad n → (n ≡ 4 → ⊥)
after-not n (inl (inl e)) f = omega (arith, e, f)
after-not n (inl (inr (inl e))) f = omega (arith, e, f)
after-not n (inl (inr (inr e))) f = omega (arith, e, f)
after-not n (inr (inl e)) f = omega (arith, e, f)
after-not n (inr (inr (inl e))) f = omega (arith, e, f)
after-not n (inr (inr (inr (inl e)))) f = omega (arith, e, f)
after-not n (inr (inr (inr (inr e)))) f = omega (arith, e, f)

after-six : (n : ℕ) → IsAfterLoad n → (n ≡ 6 → ⊥)
after-six n (inl (inl e)) f = omega (arith, e, f)
after-six n (inl (inr (inl e))) f = omega (arith, e, f)
after-six n (inl (inr (inr e))) f = omega (arith, e, f)
after-six n (inr (inl e)) f = omega (arith, e, f)
after-six n (inr (inr (inl e))) f = omega (arith, e, f)
after-six n (inr (inr (inr (inl e)))) f = omega (arith, e, f)
after-six n (inr (inr (inr (inr e)))) f = omega (arith, e, f)

after-twelve : (n : ℕ) → IsAfterLoad n → (n ≡ 12 → ⊥)
after-twelve n (inl (inl e)) f = omega (arith, e, f)
after-twelve n (inl (inr (inl e))) f = omega (arith, e, f)
after-twelve n (inl (inr (inr e))) f = omega (arith, e, f)
after-twelve n (inr (inl e)) f = omega (arith, e, f)
after-twelve n (inr (inr (inl e))) f = omega (arith, e, f)
after-twelve n (inr (inr (inr (inl e)))) f = omega (arith, e, f)
after-twelve n (inr (inr (inr (inr e)))) f = omega (arith, e, f)

pub after-later : (fault : ReportFault) → IsAfterLoad (code_of (report_answer fault).status) → IsLaterFault fault
after-later Fetch after = tt
after-later (OtherBase base) after = absurd (after-twelve 12 after refl)
after-later (Other NoMemory) after = absurd (early 5 (λ e. omega (arith, e)) after refl)
after-later (Other Disk) after = absurd (after-not 4 after refl)
after-later (Other (BadStore bad)) after = absurd (after-six 6 after refl)
after-later (Other Input) after = tt
after-later (Other (Full area size needed capacity)) after = tt
after-later (Other (Refused refusal)) after = tt

-- the exit statuses of `mirror`

pub fault-mirror : (fault : ReportFault) (ended : ℕ) → MayEndPileReport fault
    → ended ≡ code_of (report_answer fault).status → MayEndMirror ended
fault-mirror Fetch ended may is = absurd may
fault-mirror (OtherBase base) ended may is = inr (inr (inr (inr (inr (inr (inr (inr (inr is))))))))
fault-mirror (Other NoMemory) ended may is = inr (inr (inr (inl is)))
fault-mirror (Other Input) ended may is = inr (inr (inr (inr (inr (inr (inl is))))))
fault-mirror (Other Disk) ended may is = inr (inr (inl is))
fault-mirror (Other (BadStore bad)) ended may is = inr (inr (inr (inr (inl is))))
fault-mirror (Other (Full area size needed capacity)) ended may is = inr
    (inr (inr (inr (inr (inr (inr (inr (inl is))))))))
fault-mirror (Other (Refused (why.BadPile at))) ended may is = inr (inr (inr (inr (inr (inr (inr (inl is)))))))
fault-mirror (Other (Refused why.TooLong)) ended may is = inr (inr (inr (inr (inr (inr (inr (inl is)))))))
fault-mirror (Other (Refused _)) ended may is = absurd may

pub fault-fetched : (fault : ReportFault) (ended : ℕ) → MayEndWalkReport fault
    → ended ≡ code_of (report_answer fault).status → MayEndFetched ended
fault-fetched Fetch ended may is = inr (inr (inr (inr (inr (inl is)))))
fault-fetched (OtherBase base) ended may is = inr (inr (inr (inr (inr (inr (inr (inr is)))))))
fault-fetched (Other NoMemory) ended may is = inr (inr (inr (inl is)))
fault-fetched (Other Input) ended may is = absurd may
fault-fetched (Other Disk) ended may is = inr (inr (inl is))
fault-fetched (Other (BadStore bad)) ended may is = inr (inr (inr (inr (inl is))))
fault-fetched (Other (Full area size needed capacity)) ended may is = inr (inr (inr (inr (inr (inr (inr (inl is)))))))
fault-fetched (Other (Refused refusal)) ended may is = absurd may

-- the line of a fault whose status is alone is that status's line, also of a fault by which `mirror` makes no report
pub alone-report : (fault : ReportFault) → IsAlone (code_of (report_answer fault).status)
    → alone_line (code_of (report_answer fault).status) ≡ (report_answer fault).printed
alone-report Fetch h = refl
alone-report (OtherBase base) h = absurd (no_alone 12 (inr (omega arith)) h)
alone-report (Other fault) h = alone-fault fault h

-- after such a fault only the line's output can have failed
pub report-counts : (fault : ReportFault) (ended before after : ℕ) → ended ≡ code_of (report_answer fault).status
    → before ≤ after → CountsOutput before after ended
report-counts fault ended before after is later = record {
  later = later;
  failed = λ e. absurd (report-no_output fault (sym is ∙ e));
  whole = λ done. absurd (report-no_done fault (subst IsDone is done));
}
