-- The results of the checks that an audit goes through.
use Rattle.std.specs.Prelude.{◌≡◌, ℕ, List, Option, Some, None, Result, Ok, Err, slice_get}
use Rattle.atom_writer.specs.Doc.{DocValue}
use Rattle.coverage_certificate.specs.Certificate.{CertificateValue, CoverValue}
use Rattle.doc_source.specs.declared.offer.Offer.{Offer}
use Rattle.coverage_auditor.specs.declared.chain.Found.{Found}
use Rattle.coverage_auditor.specs.declared.halt.Halt.{Halt}
use Rattle.coverage_auditor.specs.declared.halt.Halt.TheVariants.{Refused, NoMemory}
use Rattle.coverage_auditor.specs.declared.verdict.Verdict.{Verdict}
use Rattle.coverage_auditor.specs.Finding.{HasDocument, RefusesLine}
use Rattle.coverage_auditor.specs.Chain.{IsShelved}
use Rattle.coverage_auditor.specs.Links.{accepted}
use Rattle.coverage_auditor.specs.Verdict.{IsRefusedAtLine, IsVerdict, IsWhole}

-- the check passes if no verdict fits, and refuses with the one that does, unless memory ran out
abbrev pub Checks : {A : Type 0} → Option Verdict → Result A Halt → Type 0
Checks verdict (Ok _) = verdict ≡ None
Checks verdict (Err (Refused found)) = verdict ≡ Some found
Checks verdict (Err NoMemory) = Unit {0}

-- the line's document with its name, or why it has none
abbrev pub ReadsLine : CertificateValue → List Offer → CoverValue → Result Found Halt → Type 0
ReadsLine c pile line (Ok found) = HasDocument c pile line found.document × (found.name ≡ found.document.name)
ReadsLine c pile line (Err (Refused verdict)) = RefusesLine c pile line verdict
ReadsLine c pile line (Err NoMemory) = Unit {0}

-- no document is lost
abbrev pub KeepsDocuments : List DocValue → List DocValue → Type 0
KeepsDocuments old new = (at : ℕ) (document : DocValue) → slice_get old at ≡ Some document
    → slice_get new at ≡ Some document

-- the place of the line's document, or why it has none
abbrev pub PlacesLine : CertificateValue → List Offer → CoverValue → List DocValue → Result ℕ Halt → Type 0
PlacesLine c pile line documents (Ok at) = IsShelved c pile documents line at
PlacesLine c pile line documents (Err (Refused verdict)) = RefusesLine c pile line verdict
PlacesLine c pile line documents (Err NoMemory) = Unit {0}

-- the documents of all lines, or the refusal of the first line that has none
abbrev pub ReadsLines : CertificateValue → List Offer → Result (List DocValue) Halt → Type 0
ReadsLines c pile (Ok documents) = IsWhole c pile documents
ReadsLines c pile (Err (Refused verdict)) = IsRefusedAtLine c pile verdict
ReadsLines c pile (Err NoMemory) = Unit {0}

-- the verdict that the result of all checks makes
abbrev pub ChecksAll : {A : Type 0} → CertificateValue → List Offer → Result A Halt → Type 0
ChecksAll c pile (Ok _) = IsVerdict c pile (accepted c)
ChecksAll c pile (Err (Refused verdict)) = IsVerdict c pile verdict
ChecksAll c pile (Err NoMemory) = Unit {0}
