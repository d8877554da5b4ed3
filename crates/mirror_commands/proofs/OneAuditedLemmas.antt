-- `audit`: an input has one answer.
use Rattle.std.proofs.Common.{◌≡◌, ◌⊎◌, inl, inr, ℕ, ◌-◌, ◌≤◌, List, [], ◌∷◌, ◌++◌, Option, Some, None, Result, Ok}
use Rattle.std.proofs.Common.{Err, length, take}
use Rattle.std.proofs.Common.{sym, ap, subst, ◌∙◌, arith, length-append}
use Rattle.std.proofs.lemmas.Bool.{cases_lt}
use Rattle.coverage_auditor.specs.Verdict.{IsVerdict}
use Rattle.coverage_auditor.specs.declared.verdict.Verdict.{Verdict}
use Rattle.coverage_auditor.proofs.UniqueLemmas.{one-verdict}
use Rattle.coverage_certificate.specs.Certificate.{CertificateValue}
use Rattle.coverage_certificate.specs.Text.{IsFirstBadLine, certificate_text}
use Rattle.coverage_certificate.proofs.SameLemmas.{one_text}
use Rattle.doc_source.proofs.CutLemmas.{take_past}
use Rattle.doc_source.specs.declared.fault.PileFault.{PileFault}
use Rattle.doc_source.specs.declared.fault.PileFault.TheVariants as piles
use Rattle.doc_source.specs.declared.offer.Offer.{Offer}
use Rattle.command_ends.specs.declared.fault.Refusal.TheVariants.{BadCertificate, BadPile, TooLong}
use Rattle.command_ends.specs.Answer.{Answer}
use Rattle.mirror_commands.specs.Audit.{BeginsCertified, EndsOnce, HasNoEnd, HasTooManyOffers, IsAudited}
use Rattle.mirror_commands.specs.Audit.{IsBadCertificate, IsBadPart}
use Rattle.mirror_commands.specs.Audit.{IsBadWhole, IsLongCertificate, audit_limit, audited_limit, pile_room}
use Rattle.mirror_commands.specs.Audit.{verdict_answer}
use Rattle.mirror_commands.specs.AuditedPile.{HasOneMore}
use Rattle.command_ends.specs.Fault.{refusal_answer}
use Rattle.mirror_commands.specs.Mirror.{ReadsToWithin}
use Rattle.mirror_commands.proofs.CertificateEndLemmas.{certificate-ends}
use Rattle.mirror_commands.proofs.OnePileLemmas.{Ends, both-read, no-more, reads-once}
use Rattle.mirror_commands.proofs.PartLemmas.{parted-once}

-- the certificate's part

pub begins-once : (input : List ℕ) (c d : CertificateValue) (pile rest : List ℕ) → BeginsCertified input c pile
    → BeginsCertified input d rest → (c ≡ d) × (pile ≡ rest)
begins-once input c d pile rest p q =
    let same = parted-once (certificate_text c) (certificate_text d) pile rest (certificate-ends c p.rules)
    (certificate-ends d q.rules) (sym p.whole ∙ q.whole) in
    (one_text c d p.rules q.rules same.0, same.1)

first-line-once : (text : List ℕ) (line other : ℕ) → IsFirstBadLine text line → IsFirstBadLine text other
    → line ≡ other
first-line-once text line other p q = elim (cases_lt line other) [
  | inl below ↦ absurd (p.there (q.before line p.from_one below))
  | inr past ↦ elim (cases_lt other line) [
    | inl below ↦ absurd (q.there (p.before other q.from_one below))
    | inr none ↦ omega arith
  ]
]

bad-line-once : (input : List ℕ) (line other : ℕ) → IsBadPart input line ⊎ IsBadWhole input line
    → IsBadPart input other ⊎ IsBadWhole input other → line ≡ other
bad-line-once input line other (inl p) (inl q) =
    let same = parted-once p.first q.first p.pile q.pile p.parted.ends q.parted.ends
    (sym p.parted.whole ∙ q.parted.whole) in
    first-line-once p.first line other p.bad
    (subst (λ (text : List ℕ). IsFirstBadLine text other) (sym same.0) q.bad)
bad-line-once input line other (inl p) (inr q) = absurd (q.no_end p.first p.pile p.parted.ends p.parted.whole)
bad-line-once input line other (inr p) (inl q) = absurd (p.no_end q.first q.pile q.parted.ends q.parted.whole)
bad-line-once input line other (inr p) (inr q) = first-line-once input line other p.bad q.bad

-- a part within the limit lies within the limit's bytes
part-within : (input first rest : List ℕ) → EndsOnce first → length first ≤ audit_limit → input ≡ first ++ rest
    → HasNoEnd (take audit_limit input) → ⊥
part-within input first rest ends within whole none =
    none first (take (audit_limit - length first) rest) ends
    (ap (take audit_limit) whole ∙ take_past audit_limit first rest within)

certified-bad : (input : List ℕ) (c : CertificateValue) (pile : List ℕ) (given : Answer) → BeginsCertified input c pile
    → IsBadCertificate input given → ⊥
certified-bad input c pile given p q = elim q.bad [
  | inl part ↦
      let same = parted-once (certificate_text c) part.first pile part.pile (certificate-ends c p.rules)
      part.parted.ends (sym p.whole ∙ part.parted.whole) in
      part.bad.no_certificate c p.rules same.0
  | inr whole ↦ whole.no_end (certificate_text c) pile (certificate-ends c p.rules) p.whole
]

certified-long : (input : List ℕ) (c : CertificateValue) (pile : List ℕ) (given : Answer)
    → BeginsCertified input c pile → IsLongCertificate input given → ⊥
certified-long input c pile given p q =
    part-within input (certificate_text c) pile (certificate-ends c p.rules) p.within p.whole q.no_end

bad-long : (input : List ℕ) (one other : Answer) → IsBadCertificate input one → IsLongCertificate input other → ⊥
bad-long input one other p q = elim p.bad [
  | inl part ↦
      part-within input part.first part.pile part.parted.ends part.parted.within part.parted.whole q.no_end
  | inr whole ↦ omega (arith, whole.within, q.more)
]

-- the pile

-- the answer after a pile that was read as far as it can be
abbrev IsGivenBy : CertificateValue → List Offer → Result (Option Offer) PileFault → Answer → Type 0
IsGivenBy c offers (Ok None) given =
    (verdict : Verdict) × IsVerdict c offers verdict × (given ≡ verdict_answer c.base verdict)
IsGivenBy c offers (Ok (Some offer)) given = ⊥
IsGivenBy c offers (Err (piles.BadPile at)) given = given ≡ refusal_answer (BadPile at)
IsGivenBy c offers (Err (piles.TooLong limit)) given = given ≡ refusal_answer TooLong
IsGivenBy c offers (Err piles.SourceFault) given = ⊥
IsGivenBy c offers (Err piles.NoMemory) given = ⊥

record IsPileEnd (c : CertificateValue) (pile : List ℕ) (given : Answer) : Type 0 where
  offers : List Offer
  last : Result (Option Offer) PileFault
  read : ReadsToWithin (pile_room c) pile offers last
  ends : Ends last
  few : length offers ≤ audited_limit
  is : IsGivenBy c offers last given

given-once : (c : CertificateValue) (offers : List Offer) (last : Result (Option Offer) PileFault) (one other : Answer)
    → IsGivenBy c offers last one → IsGivenBy c offers last other → one ≡ other
given-once c offers (Ok None) one other p q =
    p.2 ∙ ap (verdict_answer c.base) (one-verdict c offers p.0 q.0 p.1 q.1) ∙ sym q.2
given-once c offers (Ok (Some offer)) one other p q = absurd p
given-once c offers (Err (piles.BadPile at)) one other p q = p ∙ sym q
given-once c offers (Err (piles.TooLong limit)) one other p q = p ∙ sym q
given-once c offers (Err piles.SourceFault) one other p q = absurd p
given-once c offers (Err piles.NoMemory) one other p q = absurd p

pile-end-once : (c : CertificateValue) (pile : List ℕ) (one other : Answer) → IsPileEnd c pile one
    → IsPileEnd c pile other → one ≡ other
pile-end-once c pile one other p q =
    let same = reads-once (pile_room c) pile p.offers q.offers p.last q.last p.read q.read p.ends q.ends in
    given-once c p.offers p.last one other p.is
    (subst (λ (last : Result (Option Offer) PileFault). IsGivenBy c p.offers last other) same.1
    (subst (λ (offers : List Offer). IsGivenBy c offers q.last other) same.0 q.is))

-- a pile that is read to its end has no offer more than may be audited
many-ends : (c : CertificateValue) (pile : List ℕ) (given : Answer) → HasOneMore (pile_room c) pile
    → IsPileEnd c pile given → ⊥
many-ends c pile given p q =
    let upto = p.offers ++ p.offer ∷ [] in
    let size = length-append p.offers (p.offer ∷ []) in
    elim (both-read upto q.offers p.read.bytes q.read.bytes p.read.read.are q.read.read.are
    (sym p.read.read.whole ∙ q.read.read.whole)) [
      | inl more ↦ omega (
        arith,
        size,
        p.full,
        q.few,
        ap (λ (os : List Offer). length os) more.split,
        length-append upto more.rest,
      )
      | inr more ↦
          let none = no-more (pile_room c) pile q.offers upto more.rest q.last q.read p.read q.ends more.split in
          omega (
            arith,
            size,
            p.full,
            q.few,
            ap (λ (os : List Offer). length os) more.split,
            length-append q.offers more.rest,
            ap (λ (os : List Offer). length os) none,
          )
    ]

-- the answers, by whether the input begins with a certificate

record IsBehind (input : List ℕ) (given : Answer) : Type 0 where
  certificate : CertificateValue
  pile : List ℕ
  begins : BeginsCertified input certificate pile
  end : IsPileEnd certificate pile given

many-of : (input : List ℕ) (given : Answer) (p : HasTooManyOffers input given)
    → HasOneMore (pile_room p.certificate) p.pile
many-of input given p = record { offers = p.offers; offer = p.offer; read = p.read; full = p.full }

abbrev Kinds : List ℕ → Answer → Type 0
Kinds input given =
    IsBehind input given ⊎ HasTooManyOffers input given ⊎ IsBadCertificate input given ⊎ IsLongCertificate input given

kinds-of : (input : List ℕ) (given : Answer) → IsAudited input given → Kinds input given
kinds-of input given (inl p) = inl record {
  certificate = p.certificate;
  pile = p.pile;
  begins = p.begins;
  end = record {
    offers = p.offers;
    last = Ok None;
    read = p.read;
    ends = tt;
    few = p.few;
    is = (p.verdict, p.is_verdict, p.is);
  };
}
kinds-of input given (inr (inl p)) = inr (inr (inl p))
kinds-of input given (inr (inr (inl p))) = inr (inr (inr p))
kinds-of input given (inr (inr (inr (inl p)))) = inr (inl p)
kinds-of input given (inr (inr (inr (inr (inl p))))) = inl record {
  certificate = p.certificate;
  pile = p.pile;
  begins = p.begins;
  end = record {
    offers = p.offers;
    last = Err (piles.BadPile p.at);
    read = p.read;
    ends = tt;
    few = p.few;
    is = p.is;
  };
}
kinds-of input given (inr (inr (inr (inr (inr p))))) = inl record {
  certificate = p.certificate;
  pile = p.pile;
  begins = p.begins;
  end = record {
    offers = p.offers;
    last = Err (piles.TooLong (pile_room p.certificate));
    read = p.read;
    ends = tt;
    few = p.few;
    is = p.is;
  };
}

module _ (input : List ℕ) where
  behind-once : (one other : Answer) → IsBehind input one → IsBehind input other → one ≡ other
  behind-once one other p q =
      let same = begins-once input q.certificate p.certificate q.pile p.pile q.begins p.begins in
      pile-end-once p.certificate p.pile one other p.end
      (subst (λ (pile : List ℕ). IsPileEnd p.certificate pile other) same.1
      (subst (λ (c : CertificateValue). IsPileEnd c q.pile other) same.0 q.end))

  behind-many : (one other : Answer) → IsBehind input one → HasTooManyOffers input other → ⊥
  behind-many one other p q =
      let same = begins-once input q.certificate p.certificate q.pile p.pile q.begins p.begins in
      many-ends p.certificate p.pile one
      (subst (λ (pile : List ℕ). HasOneMore (pile_room p.certificate) pile) same.1
      (subst (λ (c : CertificateValue). HasOneMore (pile_room c) q.pile) same.0 (many-of input other q))) p.end

  kinds-once : (one other : Answer) → Kinds input one → Kinds input other → one ≡ other
  kinds-once one other (inl p) (inl q) = behind-once one other p q
  kinds-once one other (inl p) (inr (inl q)) = absurd (behind-many one other p q)
  kinds-once one other (inl p) (inr (inr (inl q))) = absurd (certified-bad input p.certificate p.pile other p.begins q)
  kinds-once one other (inl p) (inr (inr (inr q))) = absurd (certified-long input p.certificate p.pile other p.begins q)
  kinds-once one other (inr (inl p)) (inl q) = absurd (behind-many other one q p)
  kinds-once one other (inr (inl p)) (inr (inl q)) = p.is ∙ sym q.is
  kinds-once one other (inr (inl p)) (inr (inr (inl q))) =
      absurd (certified-bad input p.certificate p.pile other p.begins q)
  kinds-once one other (inr (inl p)) (inr (inr (inr q))) =
      absurd (certified-long input p.certificate p.pile other p.begins q)
  kinds-once one other (inr (inr (inl p))) (inl q) = absurd (certified-bad input q.certificate q.pile one q.begins p)
  kinds-once one other (inr (inr (inl p))) (inr (inl q)) =
      absurd (certified-bad input q.certificate q.pile one q.begins p)
  kinds-once one other (inr (inr (inl p))) (inr (inr (inl q))) =
      p.is ∙ ap (λ (line : ℕ). refusal_answer (BadCertificate line)) (bad-line-once input p.line q.line p.bad q.bad)
      ∙ sym q.is
  kinds-once one other (inr (inr (inl p))) (inr (inr (inr q))) = absurd (bad-long input one other p q)
  kinds-once one other (inr (inr (inr p))) (inl q) = absurd (certified-long input q.certificate q.pile one q.begins p)
  kinds-once one other (inr (inr (inr p))) (inr (inl q)) =
      absurd (certified-long input q.certificate q.pile one q.begins p)
  kinds-once one other (inr (inr (inr p))) (inr (inr (inl q))) = absurd (bad-long input other one q p)
  kinds-once one other (inr (inr (inr p))) (inr (inr (inr q))) = p.is ∙ sym q.is

pub one-audited : (input : List ℕ) (one other : Answer) → IsAudited input one → IsAudited input other → one ≡ other
one-audited input one other p q = kinds-once input one other (kinds-of input one p) (kinds-of input other q)
