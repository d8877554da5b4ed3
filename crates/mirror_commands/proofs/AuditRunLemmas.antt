-- `audit`: how the program ends after its answer.
use Rattle.std.proofs.Common.{◌≡◌, ◌⊎◌, inl, inr, ℕ, List, refl, ap, ◌∙◌}
use Rattle.command_ends.specs.declared.fault.Fault.{Fault}
use Rattle.command_ends.specs.declared.fault.Fault.TheVariants.{BadStore, Disk, Full, Input, NoMemory, Refused}
use Rattle.command_ends.specs.declared.fault.Refusal.{Refusal}
use Rattle.command_ends.specs.declared.fault.Refusal.TheVariants.{BadCertificate, BadPile, TooLong, TooManyOffers}
use Rattle.command_ends.specs.declared.status.Status.TheVariants as ends
use Rattle.command_ends.specs.Answer.{Answer}
use Rattle.mirror_commands.specs.Audit.{IsAudited, MayEndAudit}
use Rattle.mirror_commands.specs.AuditEnds.{MayStopAudit}
use Rattle.command_ends.specs.Fault.{IsRefusal, fault_answer, refusal_answer}
use Rattle.command_ends.specs.Ends.{IsDone}
use Rattle.command_ends.specs.Status.{code_of}
use Rattle.mirror_commands.proofs.OneAuditedLemmas.{one-audited}

-- without a failed call the status of a fault is that of the answer, or memory ran out
pub stops-complete : (input : List ℕ) (fault : Fault) (given : Answer) → MayStopAudit fault
    → (IsRefusal fault → IsAudited input (fault_answer fault)) → IsAudited input given → (fault ≡ Input → ⊥)
    → (code_of (fault_answer fault).status ≡ code_of given.status)
    ⊎ (code_of (fault_answer fault).status ≡ code_of ends.NoMemory)
stops-complete input NoMemory given own refused is read = inr refl
stops-complete input Input given own refused is read = absurd (read refl)
stops-complete input Disk given own refused is read = absurd own
stops-complete input (BadStore bad) given own refused is read = absurd own
stops-complete input (Full area size needed capacity) given own refused is read = absurd own
stops-complete input (Refused refusal) given own refused is read =
    inl (ap (λ (a : Answer). code_of a.status) (one-audited input (refusal_answer refusal) given (refused tt) is))

-- the exit statuses

refusal-status : (refusal : Refusal) → MayStopAudit (Refused refusal)
    → MayEndAudit (code_of (refusal_answer refusal).status)
refusal-status (BadCertificate line) own = inr (inr (inr (inr (inr refl))))
refusal-status (BadPile at) own = inr (inr (inr (inr (inr refl))))
refusal-status TooLong own = inr (inr (inr (inr (inr refl))))
refusal-status TooManyOffers own = inr (inr (inr (inr (inr refl))))
refusal-status _ own = absurd own

pub stops-status : (fault : Fault) → MayStopAudit fault → MayEndAudit (code_of (fault_answer fault).status)
stops-status NoMemory own = inr (inr (inl refl))
stops-status Input own = inr (inr (inr (inr (inl refl))))
stops-status Disk own = absurd own
stops-status (BadStore bad) own = absurd own
stops-status (Full area size needed capacity) own = absurd own
stops-status (Refused refusal) own = refusal-status refusal own

pub done-status : (status ended : ℕ) → IsDone status → (ended ≡ status) ⊎ (ended ≡ code_of ends.OutputFault)
    → MayEndAudit ended
done-status status ended (inl done) (inl is) = inl (is ∙ done)
done-status status ended (inr done) (inl is) = inr (inl (is ∙ done))
done-status status ended done (inr is) = inr (inr (inr (inl is)))
