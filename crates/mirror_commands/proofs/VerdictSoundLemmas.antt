-- `audit`: which verdicts an auditor has on a certificate.
use Rattle.std.proofs.Common.{◌≡◌, inl, inr, Bool, true, false, cond, List, [], ◌∷◌, ◌++◌, Option, Some, None, refl}
use Rattle.std.proofs.Common.{sym, subst}
use Rattle.std.specs.Prelude.{All, IfSome, find, option_map, unwrap_or}
use Rattle.std.proofs.lemmas.List.Elements.{All-cons, All-head, All-nil, All-tail}
use Rattle.atom_writer.specs.Doc.{DocValue}
use Rattle.atom_writer.specs.Pieces.{own_address}
use Rattle.chain_links.specs.Address.{IsAddress}
use Rattle.chain_links.specs.declared.address.Address.{Address}
use Rattle.chain_links.specs.declared.address.Address.TheVariants.{Feed, Archive, Member}
use Rattle.coverage_auditor.specs.Finding.{RefusesLine}
use Rattle.coverage_auditor.specs.Links.{Link, accepted, broken_chain, first_of, is_broken, links_of, live_differs}
use Rattle.coverage_auditor.specs.Links.{not_the_first, oldest_of, verdict_on}
use Rattle.coverage_auditor.specs.Links.{version_differs}
use Rattle.coverage_auditor.specs.Verdict.{AreDocuments, IsVerdict}
use Rattle.coverage_auditor.specs.declared.verdict.Verdict.{Verdict}
use Rattle.coverage_auditor.specs.declared.verdict.Verdict.TheVariants.{Accepted, NoDocument, DigestDiffers}
use Rattle.coverage_auditor.specs.declared.verdict.Verdict.TheVariants.{NotADocument}
use Rattle.coverage_auditor.specs.declared.verdict.Verdict.TheVariants.{WrongDocument, VersionDiffers, BrokenChain}
use Rattle.coverage_auditor.specs.declared.verdict.Verdict.TheVariants.{NotTheFirst, LiveDiffers}
use Rattle.coverage_certificate.specs.Certificate.{AreCoverLines, CertificateValue, CoverValue, IsArchive}
use Rattle.coverage_certificate.specs.Certificate.{IsCertificate}
use Rattle.doc_source.specs.declared.offer.Offer.{Offer}
use Rattle.mirror_commands.specs.VerdictLine.{HasAddress}

-- the verdict that accepts is the certificate's own, and addresses have numbers from 1
abbrev pub IsSound : CertificateValue → Verdict → Type 0
IsSound c (Accepted version live) = Accepted version live ≡ accepted c
IsSound c (NoDocument address) = IsAddress address
IsSound c (DigestDiffers address found) = IsAddress address
IsSound c (NotADocument address) = IsAddress address
IsSound c (WrongDocument address) = IsAddress address
IsSound c (VersionDiffers found) = Unit {0}
IsSound c (BrokenChain address) = IsAddress address
IsSound c (NotTheFirst first) = Unit {0}
IsSound c (LiveDiffers count found) = Unit {0}

pub sound-address : (c : CertificateValue) (v : Verdict) → IsSound c v → HasAddress v
sound-address c (Accepted version live) is = tt
sound-address c (NoDocument address) is = is
sound-address c (DigestDiffers address found) is = is
sound-address c (NotADocument address) is = is
sound-address c (WrongDocument address) is = is
sound-address c (VersionDiffers found) is = tt
sound-address c (BrokenChain address) is = is
sound-address c (NotTheFirst first) is = tt
sound-address c (LiveDiffers count found) is = tt

-- the addresses of the lines

archive-address : (address : Address) → IsArchive address → IsAddress address
archive-address Feed is = absurd is
archive-address (Archive number) is = is
archive-address (Member number) is = absurd is

archives-addresses : (lines : List CoverValue) → All (λ (line : CoverValue). IsArchive line.address) lines
    → All (λ (line : CoverValue). IsAddress line.address) lines
archives-addresses [] are = All-nil (λ (line : CoverValue). IsAddress line.address)
archives-addresses (line ∷ lines) are =
    All-cons (λ (l : CoverValue). IsAddress l.address) line lines
    (archive-address line.address (All-head (λ (l : CoverValue). IsArchive l.address) line lines are))
    (archives-addresses lines (All-tail (λ (l : CoverValue). IsArchive l.address) line lines are))

lines-addresses : (lines : List CoverValue) → AreCoverLines lines
    → All (λ (line : CoverValue). IsAddress line.address) lines
lines-addresses [] are = absurd are
lines-addresses (line ∷ lines) are =
    All-cons (λ (l : CoverValue). IsAddress l.address) line lines (subst IsAddress (sym are.0) tt)
    (archives-addresses lines are.1)

All-middle : (before after : List CoverValue) (line : CoverValue)
    → All (λ (l : CoverValue). IsAddress l.address) (before ++ line ∷ after) → IsAddress line.address
All-middle [] after line are = All-head (λ (l : CoverValue). IsAddress l.address) line after are
All-middle (first ∷ before) after line are =
    All-middle before after line
    (All-tail (λ (l : CoverValue). IsAddress l.address) first (before ++ line ∷ after) are)

refused-sound : (c : CertificateValue) (pile : List Offer) (line : CoverValue) (v : Verdict)
    → IsAddress line.address → RefusesLine c pile line v → IsSound c v
refused-sound c pile line (Accepted version live) is refused = absurd refused
refused-sound c pile line (NoDocument address) is refused = subst IsAddress (sym refused.0) is
refused-sound c pile line (DigestDiffers address found) is refused = subst IsAddress (sym refused.0) is
refused-sound c pile line (NotADocument address) is refused = subst IsAddress (sym refused.0) is
refused-sound c pile line (WrongDocument address) is refused = subst IsAddress (sym refused.0) is
refused-sound c pile line (VersionDiffers found) is refused = absurd refused
refused-sound c pile line (BrokenChain address) is refused = absurd refused
refused-sound c pile line (NotTheFirst first) is refused = absurd refused
refused-sound c pile line (LiveDiffers count found) is refused = absurd refused

-- the addresses of the lines' documents

abbrev HasOwn : DocValue → Type 0
HasOwn document = IsAddress (own_address document.kind)

documents-addresses : (c : CertificateValue) (pile : List Offer) (lines : List CoverValue) (documents : List DocValue)
    → All (λ (line : CoverValue). IsAddress line.address) lines → AreDocuments c pile lines documents
    → All HasOwn documents
documents-addresses c pile [] [] is are = All-nil HasOwn
documents-addresses c pile [] (document ∷ documents) is are = absurd are
documents-addresses c pile (line ∷ lines) [] is are = absurd are
documents-addresses c pile (line ∷ lines) (document ∷ documents) is are =
    All-cons HasOwn document documents
    (subst IsAddress (sym are.0.belongs.address)
    (All-head (λ (l : CoverValue). IsAddress l.address) line lines is))
    (documents-addresses c pile lines documents (All-tail (λ (l : CoverValue). IsAddress l.address) line lines is)
    are.1)

find-address : (documents : List DocValue) → All HasOwn documents
    → IfSome (find is_broken (links_of documents)) (λ (link : Link). HasOwn link.older)
find-address [] are = tt
find-address (only ∷ []) are = tt
find-address (newer ∷ older ∷ more) are =
    of (find-address (older ∷ more) (All-tail HasOwn newer (older ∷ more) are))
    (is_broken record { newer = newer; older = older })
  where
    of : IfSome (find is_broken (links_of (older ∷ more))) (λ (link : Link). HasOwn link.older) → (b : Bool)
        → IfSome (cond b (Some record { newer = newer; older = older }) (find is_broken (links_of (older ∷ more))))
        (λ (link : Link). HasOwn link.older)
    of rest true = All-head HasOwn older more (All-tail HasOwn newer (older ∷ more) are)
    of rest false = rest

-- the checks in turn

cond-sound : (c : CertificateValue) (b : Bool) (v : Verdict) → IsSound c v → IfSome (cond b None (Some v)) (IsSound c)
cond-sound c true v is = tt
cond-sound c false v is = is

chain-sound : (c : CertificateValue) (found : Option Link) → IfSome found (λ (link : Link). HasOwn link.older)
    → IfSome (option_map (λ (link : Link). BrokenChain (own_address link.older.kind)) found) (IsSound c)
chain-sound c None is = tt
chain-sound c (Some link) is = is

first-sound : (c : CertificateValue) (version links first live : Option Verdict) → IfSome version (IsSound c)
    → IfSome links (IsSound c) → IfSome first (IsSound c) → IfSome live (IsSound c)
    → IsSound c (unwrap_or (first_of (version ∷ links ∷ first ∷ live ∷ [])) (accepted c))
first-sound c (Some v) links first live p q r s = p
first-sound c None (Some v) first live p q r s = q
first-sound c None None (Some v) live p q r s = r
first-sound c None None None (Some v) p q r s = s
first-sound c None None None None p q r s = refl

decided-sound : (c : CertificateValue) (newest : DocValue) (others : List DocValue) → All HasOwn (newest ∷ others)
    → IsSound c (verdict_on c newest others)
unfolding verdict_on broken_chain
decided-sound c newest others are =
    first-sound c (version_differs c newest) (broken_chain (newest ∷ others)) (not_the_first (oldest_of newest others))
    (live_differs c newest (newest ∷ others)) (cond-sound c _ _ tt)
    (chain-sound c (find is_broken (links_of (newest ∷ others))) (find-address (newest ∷ others) are))
    (cond-sound c _ _ tt) (cond-sound c _ _ tt)

pub verdict-sound : (c : CertificateValue) (pile : List Offer) (v : Verdict) → IsCertificate c → IsVerdict c pile v
    → IsSound c v
verdict-sound c pile v is (inl refused) =
    let line = refused.line in
    let all = subst (λ (lines : List CoverValue). All (λ (l : CoverValue). IsAddress l.address) lines) refused.split
    (lines-addresses c.lines is.lines) in
    refused-sound c pile line v (All-middle refused.before refused.after line all) refused.refused
verdict-sound c pile v is (inr decided) =
    subst (IsSound c) (sym decided.decided)
    (decided-sound c decided.newest decided.others
    (documents-addresses c pile c.lines (decided.newest ∷ decided.others) (lines-addresses c.lines is.lines)
    decided.read))
