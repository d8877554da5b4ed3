-- The clauses of `Certificate::read`, from what the reading of a text results in.
use Rattle.std.proofs.Common.{◌≡◌, ◌⊎◌, ℕ, List, Result, Ok, Err, inl, inr, refl, sym, ap, subst, ◌∙◌, arith}
use Rattle.std.specs.Prelude.{IfOk}
use Rattle.std.proofs.lemmas.Bool.{cases_lt}
use Rattle.coverage_certificate.specs.declared.certificate_fault.CertificateFault.{CertificateFault}
use Rattle.coverage_certificate.specs.declared.certificate_fault.CertificateFault.TheVariants.{BadCertificate, NoMemory}
use Rattle.coverage_certificate.specs.Certificate.{CertificateValue, IsCertificate}
use Rattle.coverage_certificate.specs.Reading.{IsReading}
use Rattle.coverage_certificate.specs.Text.{IsFirstBadLine, certificate_text}
use Rattle.coverage_certificate.proofs.SameLemmas.{one_text}

abbrev Reading : Type 0
Reading = Result CertificateValue CertificateFault

pub reading_text : (text : List ℕ) (r : Reading) → IsReading text r → IfOk r (λ c. certificate_text c ≡ text)
reading_text text (Ok c) is = is.1
reading_text text (Err fault) is = tt

pub reading_rules : (text : List ℕ) (r : Reading) → IsReading text r → IfOk r IsCertificate
reading_rules text (Ok c) is = is.0
reading_rules text (Err fault) is = tt

pub reading_only : (text : List ℕ) (r : Reading) → IsReading text r → (c : CertificateValue) → IsCertificate c
    → certificate_text c ≡ text → (r ≡ Ok c) ⊎ (r ≡ Err NoMemory)
reading_only text (Ok d) is c rules e =
    inl (ap (λ (x : CertificateValue). let r : Reading = Ok x in r) (one_text d c is.0 rules (is.1 ∙ sym e)))
reading_only text (Err (BadCertificate line)) is c rules e = absurd (is.no_certificate c rules e)
reading_only text (Err NoMemory) is c rules e = inr refl

pub reading_bad : (text : List ℕ) (r : Reading) → IsReading text r → (line : ℕ) → r ≡ Err (BadCertificate line)
    → IsFirstBadLine text line
reading_bad text r is line e = subst (IsReading text) e is

one_line : (text : List ℕ) (a b : ℕ) → IsFirstBadLine text a → IsFirstBadLine text b → a ≡ b
one_line text a b p q =
    elim (cases_lt a b) [
      | inl less ↦ absurd (p.there (q.before a p.from_one less))
      | inr past ↦
          elim (cases_lt b a) [
            | inl less ↦ absurd (q.there (p.before b q.from_one less))
            | inr other ↦ omega arith
          ]
    ]

pub reading_refused : (text : List ℕ) (r : Reading) → IsReading text r → (line : ℕ) → IsFirstBadLine text line
    → (r ≡ Err (BadCertificate line)) ⊎ (r ≡ Err NoMemory)
reading_refused text (Ok c) is line bad = absurd (bad.no_certificate c is.0 is.1)
reading_refused text (Err (BadCertificate other)) is line bad =
    inl (ap (λ (n : ℕ). let r : Reading = Err (BadCertificate n) in r) (one_line text other line is bad))
reading_refused text (Err NoMemory) is line bad = inr refl
