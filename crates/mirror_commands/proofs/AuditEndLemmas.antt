-- `audit`: its answer, by the certificate and the pile that were read.
use Rattle.std.proofs.Common.{◌≡◌, ◌⊎◌, inl, inr, ℕ, ◌≤◌, List, ◌++◌, Ok, length, refl, sym, ap, subst}
use Rattle.std.proofs.Common.{◌∙◌, arith}
use Rattle.std.proofs.Common.{append_assoc, append-nil, length-append, Err, Result}
use Rattle.std.specs.Prelude.{IfErr}
use Rattle.coverage_auditor.specs.Certified.{IsServedPile, ShowsCertified}
use Rattle.coverage_auditor.specs.Links.{accepted}
use Rattle.coverage_auditor.specs.Verdict.{Covers, IsVerdict}
use Rattle.coverage_auditor.specs.declared.verdict.Verdict.{Verdict}
use Rattle.coverage_auditor.specs.declared.verdict.Verdict.TheVariants.{Accepted, NoDocument, DigestDiffers}
use Rattle.coverage_auditor.specs.declared.verdict.Verdict.TheVariants.{NotADocument}
use Rattle.coverage_auditor.specs.declared.verdict.Verdict.TheVariants.{WrongDocument, VersionDiffers, BrokenChain}
use Rattle.coverage_auditor.specs.declared.verdict.Verdict.TheVariants.{NotTheFirst, LiveDiffers}
use Rattle.coverage_auditor.proofs.ServedLemmas.{covers-served}
use Rattle.coverage_auditor.proofs.UniqueLemmas.{one-verdict}
use Rattle.coverage_auditor.proofs.VerdictLemmas.{accepted-covers, covers-verdict}
use Rattle.coverage_certificate.specs.Certificate.{CertificateValue, IsCertificate}
use Rattle.coverage_certificate.specs.Text.{IsFirstBadLine, certificate_text}
use Rattle.coverage_certificate.specs.declared.certificate_fault.CertificateFault.{CertificateFault}
use Rattle.coverage_certificate.specs.declared.certificate_fault.CertificateFault.TheVariants as certificates
use Rattle.doc_source.specs.Outside.{SourceState}
use Rattle.doc_source.specs.declared.offer.Offer.{Offer}
use Rattle.doc_source.proofs.OneReading.{one_reading}
use Rattle.doc_source.proofs.RunLemmas.{at_the_end}
use Rattle.member_rules.specs.Head.{HeadValue}
use Rattle.member_rules.specs.declared.operation.Op.{Op}
use Rattle.command_ends.specs.declared.fault.Fault.{Fault}
use Rattle.command_ends.specs.declared.fault.Fault.TheVariants.{Input, NoMemory, Refused}
use Rattle.command_ends.specs.declared.fault.Refusal.{Refusal}
use Rattle.command_ends.specs.declared.fault.Refusal.TheVariants.{BadCertificate, BadPile, TooLong, TooManyOffers}
use Rattle.command_ends.specs.declared.status.Status.{Status}
use Rattle.command_ends.specs.declared.status.Status.TheVariants as ends
use Rattle.command_ends.specs.Answer.{Answer}
use Rattle.mirror_commands.specs.Audit.{BeginsCertified, EndsAuditing, HasNoEnd, IsAuditInput, IsAudited, IsJudged}
use Rattle.mirror_commands.specs.Audit.{StopsInPile}
use Rattle.mirror_commands.specs.Audit.{audit_limit, pile_room, verdict_answer, verdict_status}
use Rattle.mirror_commands.specs.AuditEnds.{JudgesPile, certificate_fault}
use Rattle.mirror_commands.specs.AuditedPile.{RefusesPile, StopsAmidPile}
use Rattle.mirror_commands.specs.CertificatePart.{IsLongPart, ReadsPart}
use Rattle.command_ends.specs.Fault.{IsRefusal, fault_answer, refusal_answer}
use Rattle.mirror_commands.specs.Mirror.{StopsAmidOffers}
use Rattle.command_ends.specs.Ends.{IsDone}
use Rattle.command_ends.specs.Status.{code_of}
use Rattle.mirror_commands.proofs.OneAuditedLemmas.{begins-once}
use Rattle.mirror_commands.proofs.VerdictSoundLemmas.{IsSound, verdict-sound}

-- the certificate's part

module _ (before after : SourceState) (text : List ℕ) (part : ReadsPart before after text)
    (within : length text ≤ audit_limit) where
  pub part-begins : (c : CertificateValue) → IsCertificate c → certificate_text c ≡ text
      → BeginsCertified before.left c after.left
  part-begins c rules is = record {
    rules = rules;
    within = subst (λ (t : List ℕ). length t ≤ audit_limit) (sym is) within;
    whole = part.from ∙ ap (λ (t : List ℕ). t ++ after.left) (sym is);
  }

  part-bad : (line : ℕ) → IsFirstBadLine text line → IsAudited before.left (refusal_answer (BadCertificate line))
  part-bad line bad = inr (inl record {
    line = line;
    bad = elim part.part [
      | inl once ↦ inl record {
        first = text;
        pile = after.left;
        parted = record { ends = once; within = within; whole = part.from };
        bad = bad;
      }
      | inr none ↦
          let whole : before.left ≡ text =
          part.from ∙ ap (λ (t : List ℕ). text ++ t) none.1 ∙ append-nil text in
          inr record {
            no_end = subst HasNoEnd (sym whole) none.0;
            within = subst (λ (t : List ℕ). length t ≤ audit_limit) (sym whole) within;
            bad = subst (λ (t : List ℕ). IsFirstBadLine t line) (sym whole) bad;
          }
    ];
    is = refl;
  })

-- why no certificate was read
pub part-refused : (input : List ℕ) (fault : Fault)
    → (fault ≡ NoMemory) ⊎ (fault ≡ Input) ⊎ (fault ≡ Refused TooLong)
    → (fault ≡ Refused TooLong → IsLongPart input) → IsRefusal fault → IsAudited input (fault_answer fault)
part-refused input fault (inl is) past refusal = absurd (subst IsRefusal is refusal)
part-refused input fault (inr (inl is)) past refusal = absurd (subst IsRefusal is refusal)
part-refused input fault (inr (inr is)) past refusal =
    subst (λ (f : Fault). IsAudited input (fault_answer f)) (sym is)
    (let long = past is in inr (inr (inl record { more = long.more; no_end = long.no_end; is = refl })))

pub text-refused : (before after : SourceState) (text : List ℕ) → ReadsPart before after text
    → length text ≤ audit_limit → (fault : CertificateFault)
    → ((line : ℕ) → fault ≡ certificates.BadCertificate line → IsFirstBadLine text line)
    → IsRefusal (certificate_fault fault) → IsAudited before.left (fault_answer (certificate_fault fault))
text-refused before after text part within (certificates.BadCertificate line) bad refusal =
    part-bad before after text part within line (bad line refl)
text-refused before after text part within certificates.NoMemory bad refusal = absurd refusal

-- the pile after it

module _ (input : List ℕ) (c : CertificateValue) (pile : List ℕ) (room : ℕ) (begins : BeginsCertified input c pile)
    (same : room ≡ pile_room c) where
  pub pile-judged : (given : Answer) → JudgesPile room c pile given → IsAudited input given
  pile-judged given judges =
      let at = subst (λ (n : ℕ). JudgesPile n c pile given) same judges in
      inl record {
        certificate = c;
        pile = pile;
        begins = begins;
        offers = at.offers;
        read = at.read;
        few = at.few;
        verdict = at.verdict;
        is_verdict = at.is_verdict;
        is = at.is;
      }

  pub pile-refused : (fault : Fault) → RefusesPile room pile fault → IsAudited input (fault_answer fault)
  pile-refused fault refuses = of fault (subst (λ (n : ℕ). RefusesPile n pile fault) same refuses)
    where
      of_refusal : (refusal : Refusal) → RefusesPile (pile_room c) pile (Refused refusal)
          → IsAudited input (refusal_answer refusal)
      of_refusal (BadPile at) r = inr (inr (inr (inr (inl record {
        certificate = c;
        pile = pile;
        begins = begins;
        offers = r.offers;
        at = at;
        read = r.read;
        few = r.few;
        is = refl;
      }))))
      of_refusal TooLong r = inr (inr (inr (inr (inr record {
        certificate = c;
        pile = pile;
        begins = begins;
        offers = r.offers;
        read = r.read;
        few = r.few;
        is = refl;
      }))))
      of_refusal TooManyOffers r = inr (inr (inr (inl record {
        certificate = c;
        pile = pile;
        begins = begins;
        offers = r.offers;
        offer = r.offer;
        read = r.read;
        full = r.full;
        is = refl;
      })))
      of_refusal _ r = absurd r

      of : (f : Fault) → RefusesPile (pile_room c) pile f → IsAudited input (fault_answer f)
      of (Refused refusal) r = of_refusal refusal r
      of _ r = absurd r

pub pile-stops : (before mid after : SourceState) (c : CertificateValue) (room : ℕ)
    → BeginsCertified before.left c mid.left → room ≡ pile_room c → StopsAmidPile room mid after
    → StopsInPile before after
pile-stops before mid after c room begins same stops = record {
  certificate = c;
  pile = mid.left;
  begins = begins;
  offers = stops.offers;
  stops = subst (λ (n : ℕ). StopsAmidOffers n mid.left after.left stops.offers) same stops.stops;
  few = stops.few;
}

-- the exit status

pub verdict-done : (v : Verdict) → IsDone (code_of (verdict_status v))
verdict-done (Accepted version live) = inl refl
verdict-done (NoDocument address) = inr refl
verdict-done (DigestDiffers address found) = inr refl
verdict-done (NotADocument address) = inr refl
verdict-done (WrongDocument address) = inr refl
verdict-done (VersionDiffers found) = inr refl
verdict-done (BrokenChain address) = inr refl
verdict-done (NotTheFirst first) = inr refl
verdict-done (LiveDiffers count found) = inr refl

zero-accepted : (c : CertificateValue) (v : Verdict) → IsSound c v → code_of (verdict_status v) ≡ 0 → v ≡ accepted c
zero-accepted c (Accepted version live) is e = is
zero-accepted c (NoDocument address) is e = absurd (omega (arith, e))
zero-accepted c (DigestDiffers address found) is e = absurd (omega (arith, e))
zero-accepted c (NotADocument address) is e = absurd (omega (arith, e))
zero-accepted c (WrongDocument address) is e = absurd (omega (arith, e))
zero-accepted c (VersionDiffers found) is e = absurd (omega (arith, e))
zero-accepted c (BrokenChain address) is e = absurd (omega (arith, e))
zero-accepted c (NotTheFirst first) is e = absurd (omega (arith, e))
zero-accepted c (LiveDiffers count found) is e = absurd (omega (arith, e))

not-ten : (status : ℕ) → IsDone status → status ≡ 10 → ⊥
not-ten status (inl e) f = omega (arith, e, f)
not-ten status (inr e) f = omega (arith, e, f)

answer-code : (given other : Answer) → given ≡ other → code_of given.status ≡ code_of other.status
answer-code given other e = ap (λ (a : Answer). code_of a.status) e

-- the defined ends are those of a verdict
judged-of : (input : List ℕ) (given : Answer) → IsAudited input given → IsDone (code_of given.status)
    → IsJudged input given
judged-of input given (inl p) done = p
judged-of input given (inr (inl p)) done =
    absurd (not-ten _ done (answer-code given (refusal_answer (BadCertificate p.line)) p.is))
judged-of input given (inr (inr (inl p))) done =
    absurd (not-ten _ done (answer-code given (refusal_answer TooLong) p.is))
judged-of input given (inr (inr (inr (inl p)))) done =
    absurd (not-ten _ done (answer-code given (refusal_answer TooManyOffers) p.is))
judged-of input given (inr (inr (inr (inr (inl p))))) done =
    absurd (not-ten _ done (answer-code given (refusal_answer (BadPile p.at)) p.is))
judged-of input given (inr (inr (inr (inr (inr p))))) done =
    absurd (not-ten _ done (answer-code given (refusal_answer TooLong) p.is))

module _ (input : List ℕ) (given : Answer) (j : IsJudged input given) where
  verdict-code : code_of given.status ≡ code_of (verdict_status j.verdict)
  unfolding verdict_answer
  verdict-code = answer-code given (verdict_answer j.certificate.base j.verdict) j.is

  -- the verdict on the certificate and the offers that the input is
  module _ (c : CertificateValue) (offers : List Offer) (is : IsAuditInput c offers input) where
    verdict-on : IsCertificate c × IsVerdict c offers j.verdict
    verdict-on =
        let begins = begins-once input j.certificate c j.pile is.pile j.begins is.begins in
        let read = j.read in
        let whole = at_the_end j.pile j.offers read.used (pile_room j.certificate) read.bytes read.read read.answer in
        let same = one_reading j.offers offers j.read.read.are is.is_pile.are
        (sym whole ∙ begins.1 ∙ is.is_pile.whole) in (
          is.begins.rules,
          subst (λ (os : List Offer). IsVerdict c os j.verdict) same
              (subst (λ (d : CertificateValue). IsVerdict d j.offers j.verdict) begins.0 j.is_verdict),
        )

    judged-covers : code_of given.status ≡ 0 → Covers c offers
    judged-covers e =
        let on = verdict-on in
        accepted-covers c offers j.verdict on.1
        (zero-accepted c j.verdict (verdict-sound c offers j.verdict on.0 on.1) (sym verdict-code ∙ e))

    judged-uncovers : code_of given.status ≡ 3 → Covers c offers → ⊥
    judged-uncovers e covers =
        let on = verdict-on in
        let same = one-verdict c offers j.verdict (accepted c) on.1 (covers-verdict c offers covers) in
        omega (arith, e, verdict-code, ap (λ (v : Verdict). code_of (verdict_status v)) same)

    judged-served : (head : HeadValue) (history : List Op) → IsServedPile head history offers
        → code_of given.status ≡ 0 → ShowsCertified head history c offers
    judged-served head history served e =
        covers-served head history c offers served (verdict-on).0.lines (judged-covers e)

-- a status that is neither 0 nor 3 says nothing
pub audits-undone : (input : List ℕ) (ended : ℕ) → (IsDone ended → ⊥) → EndsAuditing input ended
audits-undone input ended other = record {
  accepted = λ c offers is e. absurd (other (inl e));
  rejected = λ c offers is e. absurd (other (inr e));
  served = λ head history c offers is served e. absurd (other (inl e));
}

pub audits-done : (input : List ℕ) (given : Answer) (ended : ℕ) → IsAudited input given → IsDone (code_of given.status)
    → (ended ≡ code_of given.status) ⊎ (ended ≡ code_of ends.OutputFault) → EndsAuditing input ended
audits-done input given ended is done (inl same) =
    let j = judged-of input given is done in
    record {
      accepted = λ c offers at e. judged-covers input given j c offers at (sym same ∙ e);
      rejected = λ c offers at e covers. judged-uncovers input given j c offers at (sym same ∙ e) covers;
      served = λ head history c offers at served e.
          judged-served input given j c offers at head history served (sym same ∙ e);
    }
audits-done input given ended is done (inr failed) =
    audits-undone input ended (λ d. of d)
  where
    of : IsDone ended → ⊥
    of (inl e) = omega (arith, e, failed)
    of (inr e) = omega (arith, e, failed)

-- the answer of a verdict, from its parts
pub answer-is : (base : List ℕ) (v : Verdict) (status : Status) (text : List ℕ) → status ≡ verdict_status v
    → text ≡ (verdict_answer base v).printed
    → ◌≡◌ {A = Answer} record { status = status; printed = text } (verdict_answer base v)
unfolding verdict_answer
answer-is base v status text is printed = λ i. record { status = is i; printed = printed i }

-- a weaker condition on the fault of an `Err`
pub err-weaker : {T : Type 0} (P Q : Fault → Type 0) (result : Result T Fault) → ((fault : Fault) → P fault → Q fault)
    → IfErr result P → IfErr result Q
err-weaker P Q (Ok value) weaker is = is
err-weaker P Q (Err fault) weaker is = weaker fault is
