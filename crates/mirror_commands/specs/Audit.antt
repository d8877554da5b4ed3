-- `audit`: its answer to its input, which is a certificate and the pile of documents after it.
use Rattle.std.specs.Prelude.{◌≡◌, ◌≢◌, ◌⊎◌, ℕ, ◌-◌, ◌<◌, ◌≤◌, List, [], ◌∷◌, ◌++◌, All, None, Ok, Err, codes, decimal}
use Rattle.std.specs.Prelude.{length, take}
use Rattle.hex.specs.Hex.{encode_lower}
use Rattle.atom_values.specs.Ascii.{lf}
use Rattle.chain_links.specs.Address.{printed}
use Rattle.chain_links.specs.declared.address.Address.{Address}
use Rattle.coverage_auditor.specs.Certified.{IsServedPile, ShowsCertified}
use Rattle.coverage_auditor.specs.Verdict.{Covers, IsVerdict}
use Rattle.coverage_auditor.specs.declared.verdict.Verdict.{Verdict}
use Rattle.coverage_auditor.specs.declared.verdict.Verdict.TheVariants.{Accepted, NoDocument, DigestDiffers}
use Rattle.coverage_auditor.specs.declared.verdict.Verdict.TheVariants.{NotADocument}
use Rattle.coverage_auditor.specs.declared.verdict.Verdict.TheVariants.{WrongDocument, VersionDiffers, BrokenChain}
use Rattle.coverage_auditor.specs.declared.verdict.Verdict.TheVariants.{NotTheFirst, LiveDiffers}
use Rattle.coverage_certificate.specs.Certificate.{CertificateValue, IsCertificate}
use Rattle.coverage_certificate.specs.Text.{IsFirstBadLine, certificate_text, end_line, text_of_lines}
use Rattle.doc_source.specs.Outside.{SourceState}
use Rattle.doc_source.specs.declared.fault.PileFault.TheVariants as piles
use Rattle.doc_source.specs.declared.offer.Offer.{Offer}
use Rattle.member_rules.specs.Head.{HeadValue}
use Rattle.member_rules.specs.declared.operation.Op.{Op}
use Rattle.command_ends.specs.declared.fault.Refusal.TheVariants.{BadCertificate, BadPile, TooLong, TooManyOffers}
use Rattle.command_ends.specs.declared.status.Status.{Status}
use Rattle.command_ends.specs.declared.status.Status.TheVariants.{Done, Rejected, NoMemory, OutputFault, InputFault}
use Rattle.command_ends.specs.declared.status.Status.TheVariants.{BadInput}
use Rattle.command_ends.specs.Answer.{Answer}
use Rattle.command_ends.specs.Fault.{refusal_answer}
use Rattle.mirror_commands.specs.Mirror.{ReadsOffersWithin, ReadsToWithin, StopsAmidOffers}
use Rattle.mirror_commands.specs.Served.{IsPileOf}
use Rattle.command_ends.specs.Status.{code_of}

-- how many bytes a certificate and its pile may have together
abbrev pub audit_limit : ℕ
audit_limit = 1_073_741_824

-- the most offers of a pile that is audited
abbrev pub audited_limit : ℕ
audited_limit = 100_000

-- The certificate's part of the input

-- a line of a text that isn't the last line of a certificate
pub record IsOtherLine (line : List ℕ) : Type 0 where
  pub no_lf : All (λ b. b ≢ lf) line
  pub other : line ≢ end_line

-- a text that ends with its first line `end`
pub record EndsOnce (text : List ℕ) : Type 0 where
  pub before : List (List ℕ)
  pub others : All IsOtherLine before
  pub is : text ≡ text_of_lines (before ++ end_line ∷ [])

-- the text has no line `end`
abbrev pub HasNoEnd : List ℕ → Type 0
HasNoEnd text = (first rest : List ℕ) → EndsOnce first → text ≡ first ++ rest → ⊥

-- the input up to its first line `end`, which lies within the limit, and the rest after it
pub record IsParted (input first pile : List ℕ) : Type 0 where
  pub ends : EndsOnce first
  pub within : length first ≤ audit_limit
  pub whole : input ≡ first ++ pile

-- this line of the input, counted from 1, is the first that no certificate has there
pub record IsBadPart (input : List ℕ) (line : ℕ) : Type 0 where
  pub first : List ℕ
  pub pile : List ℕ
  pub parted : IsParted input first pile
  pub bad : IsFirstBadLine first line

-- the same of an input that ends without a line `end`
pub record IsBadWhole (input : List ℕ) (line : ℕ) : Type 0 where
  pub no_end : HasNoEnd input
  pub within : length input ≤ audit_limit
  pub bad : IsFirstBadLine input line

-- the input begins with the text of this certificate, within the limit
pub record BeginsCertified (input : List ℕ) (c : CertificateValue) (pile : List ℕ) : Type 0 where
  pub rules : IsCertificate c
  pub within : length (certificate_text c) ≤ audit_limit
  pub whole : input ≡ certificate_text c ++ pile

-- how many bytes of the pile lie within the limit
abbrev pub pile_room : CertificateValue → ℕ
pile_room c = audit_limit - length (certificate_text c)

-- The verdict

abbrev pub verdict_status : Verdict → Status
verdict_status (Accepted version live) = Done
verdict_status _ = Rejected

-- the words of a verdict, and an address or a number after them
abbrev pub addressed : List ℕ → List ℕ → Address → List ℕ
addressed words base address = words ++ printed base address

abbrev pub verdict_words : List ℕ → Verdict → List ℕ
verdict_words base (Accepted version live) = codes "accepted " ++ decimal version ++ codes " " ++ decimal live
verdict_words base (NoDocument address) = addressed (codes "no document ") base address
verdict_words base (DigestDiffers address found) =
    addressed (codes "digest differs ") base address ++ codes " " ++ encode_lower found
verdict_words base (NotADocument address) = addressed (codes "not a document ") base address
verdict_words base (WrongDocument address) = addressed (codes "wrong document ") base address
verdict_words base (VersionDiffers found) = codes "version differs " ++ decimal found
verdict_words base (BrokenChain address) = addressed (codes "broken chain ") base address
verdict_words base (NotTheFirst first) = codes "not the first " ++ decimal first
verdict_words base (LiveDiffers count found) =
    codes "live differs " ++ decimal count ++ codes " " ++ encode_lower found

-- the line of a verdict on a certificate with this base, and its status
unfoldable pub verdict_answer : List ℕ → Verdict → Answer
verdict_answer base verdict =
    record { status = verdict_status verdict; printed = verdict_words base verdict ++ codes "\n" }

-- The answer

-- the part before the pile isn't a certificate's text
pub record IsBadCertificate (input : List ℕ) (given : Answer) : Type 0 where
  pub line : ℕ
  pub bad : IsBadPart input line ⊎ IsBadWhole input line
  pub is : given ≡ refusal_answer (BadCertificate line)

-- the input goes on past the limit, and no line within it is `end`
pub record IsLongCertificate (input : List ℕ) (given : Answer) : Type 0 where
  pub more : audit_limit < length input
  pub no_end : HasNoEnd (take audit_limit input)
  pub is : given ≡ refusal_answer TooLong

-- a certificate and a pile: the answer is the verdict
pub record IsJudged (input : List ℕ) (given : Answer) : Type 0 where
  pub certificate : CertificateValue
  pub pile : List ℕ
  pub begins : BeginsCertified input certificate pile
  pub offers : List Offer
  pub read : ReadsToWithin (pile_room certificate) pile offers (Ok None)
  pub few : length offers ≤ audited_limit
  pub verdict : Verdict
  pub is_verdict : IsVerdict certificate offers verdict
  pub is : given ≡ verdict_answer certificate.base verdict

-- the pile has one offer more than may be audited
pub record HasTooManyOffers (input : List ℕ) (given : Answer) : Type 0 where
  pub certificate : CertificateValue
  pub pile : List ℕ
  pub begins : BeginsCertified input certificate pile
  pub offers : List Offer
  pub offer : Offer
  pub read : ReadsOffersWithin (pile_room certificate) pile (offers ++ offer ∷ [])
  pub full : length offers ≡ audited_limit
  pub is : given ≡ refusal_answer TooManyOffers

-- a line or an offer of the pile can't be read, which begins at this offset of the pile
pub record IsBadAuditPile (input : List ℕ) (given : Answer) : Type 0 where
  pub certificate : CertificateValue
  pub pile : List ℕ
  pub begins : BeginsCertified input certificate pile
  pub offers : List Offer
  pub at : ℕ
  pub read : ReadsToWithin (pile_room certificate) pile offers (Err (piles.BadPile at))
  pub few : length offers ≤ audited_limit
  pub is : given ≡ refusal_answer (BadPile at)

-- the pile goes on past the limit, and could be one up to there
pub record IsLongAuditPile (input : List ℕ) (given : Answer) : Type 0 where
  pub certificate : CertificateValue
  pub pile : List ℕ
  pub begins : BeginsCertified input certificate pile
  pub offers : List Offer
  pub read :
      ReadsToWithin (pile_room certificate) pile offers (Err (piles.TooLong (pile_room certificate)))
  pub few : length offers ≤ audited_limit
  pub is : given ≡ refusal_answer TooLong

-- how `audit` ends by its input
abbrev pub IsAudited : List ℕ → Answer → Type 0
IsAudited input given =
    IsJudged input given ⊎ IsBadCertificate input given ⊎ IsLongCertificate input given
    ⊎ HasTooManyOffers input given ⊎ IsBadAuditPile input given ⊎ IsLongAuditPile input given

-- A call on the input failed

-- before a line `end` was read
pub record StopsInCertificate (before after : SourceState) : Type 0 where
  pub read : List ℕ
  pub from : before.left ≡ read ++ after.left
  pub within : length read ≤ audit_limit
  pub no_end : HasNoEnd read

-- amid the pile after a certificate, before more offers were read than may be audited
pub record StopsInPile (before after : SourceState) : Type 0 where
  pub certificate : CertificateValue
  pub pile : List ℕ
  pub begins : BeginsCertified before.left certificate pile
  pub offers : List Offer
  pub stops : StopsAmidOffers (pile_room certificate) pile after.left offers
  pub few : length offers ≤ audited_limit

-- nothing that was read is refused
abbrev pub IsAuditUnrefused : SourceState → SourceState → Type 0
IsAuditUnrefused before after = StopsInCertificate before after ⊎ StopsInPile before after

-- The meaning of an auditor's status

-- the exit statuses of `audit`
abbrev pub MayEndAudit : ℕ → Type 0
MayEndAudit ended =
    (ended ≡ code_of Done) ⊎ (ended ≡ code_of Rejected) ⊎ (ended ≡ code_of NoMemory) ⊎ (ended ≡ code_of OutputFault)
    ⊎ (ended ≡ code_of InputFault) ⊎ (ended ≡ code_of BadInput)

-- the input is this certificate and the pile of these offers
pub record IsAuditInput (c : CertificateValue) (offers : List Offer) (input : List ℕ) : Type 0 where
  pub pile : List ℕ
  pub begins : BeginsCertified input c pile
  pub is_pile : IsPileOf offers pile

-- The status 0 says that the documents cover the certificate, and 3 that they don't. If one feed served all of them, 0
-- says that the certificate's lines are the feed's chain at its version, with the live entries of that version.
pub record EndsAuditing (input : List ℕ) (ended : ℕ) : Type 0 where
  pub accepted : (c : CertificateValue) (offers : List Offer) → IsAuditInput c offers input
      → ended ≡ code_of Done → Covers c offers
  pub rejected : (c : CertificateValue) (offers : List Offer) → IsAuditInput c offers input
      → ended ≡ code_of Rejected → ¬ Covers c offers
  pub served : (head : HeadValue) (history : List Op) (c : CertificateValue) (offers : List Offer)
      → IsAuditInput c offers input → IsServedPile head history offers → ended ≡ code_of Done
      → ShowsCertified head history c offers
