-- `audit`: how it ends by a certificate and the pile after it.
use Rattle.std.specs.Prelude.{◌≡◌, ℕ, ◌≤◌, List, None, Ok, length}
use Rattle.coverage_auditor.specs.Verdict.{IsVerdict}
use Rattle.coverage_auditor.specs.declared.verdict.Verdict.{Verdict}
use Rattle.coverage_certificate.specs.Certificate.{CertificateValue}
use Rattle.coverage_certificate.specs.declared.certificate_fault.CertificateFault.{CertificateFault}
use Rattle.coverage_certificate.specs.declared.certificate_fault.CertificateFault.TheVariants as certificates
use Rattle.doc_source.specs.declared.offer.Offer.{Offer}
use Rattle.command_ends.specs.declared.fault.Fault.{Fault}
use Rattle.command_ends.specs.declared.fault.Fault.TheVariants.{Input, NoMemory, Refused}
use Rattle.command_ends.specs.declared.fault.Refusal.TheVariants.{BadCertificate, BadPile, TooLong, TooManyOffers}
use Rattle.command_ends.specs.Answer.{Answer}
use Rattle.mirror_commands.specs.Audit.{audited_limit, verdict_answer}
use Rattle.mirror_commands.specs.Mirror.{ReadsToWithin}

-- the fault of a text that isn't read as a certificate
abbrev pub certificate_fault : CertificateFault → Fault
certificate_fault (certificates.BadCertificate line) = Refused (BadCertificate line)
certificate_fault certificates.NoMemory = NoMemory

-- the pile lies within the limit, and the answer is the verdict on the certificate
pub record JudgesPile (limit : ℕ) (c : CertificateValue) (pile : List ℕ) (given : Answer) : Type 0 where
  pub offers : List Offer
  pub read : ReadsToWithin limit pile offers (Ok None)
  pub few : length offers ≤ audited_limit
  pub verdict : Verdict
  pub is_verdict : IsVerdict c offers verdict
  pub is : given ≡ verdict_answer c.base verdict

-- the faults of an audit
abbrev pub MayStopAudit : Fault → Type 0
MayStopAudit (Refused (BadCertificate line)) = Unit {0}
MayStopAudit (Refused (BadPile at)) = Unit {0}
MayStopAudit (Refused TooLong) = Unit {0}
MayStopAudit (Refused TooManyOffers) = Unit {0}
MayStopAudit Input = Unit {0}
MayStopAudit NoMemory = Unit {0}
MayStopAudit _ = ⊥
