-- The verdicts on the documents of all lines, newest first.
use Rattle.std.specs.Prelude.{◌≡◌, ℕ, ◌+◌, ◌==◌, List, [], ◌∷◌, Bool, not, ◌&&◌, Option, Some, None, find}
use Rattle.std.specs.Prelude.{option_map, unwrap_or, if◌then◌else◌}
use Rattle.std.specs.Str.{bytes_eq}
use Rattle.atom_writer.specs.Doc.{DocValue}
use Rattle.atom_writer.specs.Pieces.{own_address}
use Rattle.coverage_certificate.specs.Certificate.{CertificateValue}
use Rattle.member_rules.specs.Shows.{live_count_of}
use Rattle.mirror_walk.specs.Holding.{is_archive}
use Rattle.coverage_auditor.specs.declared.verdict.Verdict.{Verdict}
use Rattle.coverage_auditor.specs.declared.verdict.Verdict.TheVariants.{Accepted, VersionDiffers, BrokenChain}
use Rattle.coverage_auditor.specs.declared.verdict.Verdict.TheVariants.{NotTheFirst, LiveDiffers}
use Rattle.coverage_certificate.specs.Live.{live_digest_of, live_entries_of}

-- the verdict, unless this is the number wanted
abbrev pub unless_same : ℕ → ℕ → Verdict → Option Verdict
unless_same found wanted verdict = if found == wanted then None else Some verdict

-- the newest document doesn't end with the certificate's version
abbrev pub version_differs : CertificateValue → DocValue → Option Verdict
version_differs c newest = unless_same newest.span.last c.version (VersionDiffers newest.span.last)

-- `older` comes right before `newer`: `prev` of `newer` names it, and the spans adjoin
abbrev pub is_followed : DocValue → DocValue → Bool
is_followed newer older = is_archive newer.prev older.kind && (older.span.last + 1 == newer.span.first)

-- a document and the next older one
pub record Link : Type 0 where
  pub newer : DocValue
  pub older : DocValue

abbrev pub links_of : List DocValue → List Link
links_of [] = []
links_of (only ∷ []) = []
links_of (newer ∷ older ∷ more) = record { newer = newer; older = older } ∷ links_of (older ∷ more)

abbrev pub is_broken : Link → Bool
is_broken link = not (is_followed link.newer link.older)

-- the first document that isn't followed by the one before it
unfoldable pub broken_chain : List DocValue → Option Verdict
broken_chain documents =
    option_map (λ (link : Link). BrokenChain (own_address link.older.kind)) (find is_broken (links_of documents))

-- the last of some documents
abbrev pub oldest_of : DocValue → List DocValue → DocValue
oldest_of newest [] = newest
oldest_of newest (older ∷ more) = oldest_of older more

-- the oldest document doesn't begin with the first operation
abbrev pub not_the_first : DocValue → Option Verdict
not_the_first oldest = unless_same oldest.span.first 1 (NotTheFirst oldest.span.first)

-- the number or the digest of the live entries isn't the certificate's
abbrev pub live_differs_from : CertificateValue → ℕ → List ℕ → Option Verdict
live_differs_from c count digest =
    if (count == c.live_count) && bytes_eq digest c.live_digest then None else Some (LiveDiffers count digest)

-- the digest of the member documents of the live entries, with this document's name
abbrev pub digest_by : DocValue → List DocValue → List ℕ
digest_by newest documents = live_digest_of newest.name (live_entries_of documents)

abbrev pub live_differs : CertificateValue → DocValue → List DocValue → Option Verdict
live_differs c newest documents = live_differs_from c (live_count_of documents) (digest_by newest documents)

-- the first verdict that fits
abbrev pub first_of : List (Option Verdict) → Option Verdict
first_of [] = None
first_of (None ∷ more) = first_of more
first_of (Some verdict ∷ more) = Some verdict

-- why the documents of all lines, of which there is a newest one, aren't what the certificate says
abbrev pub refusal_of : CertificateValue → DocValue → List DocValue → Option Verdict
refusal_of c newest others =
    first_of (version_differs c newest ∷ broken_chain (newest ∷ others) ∷ not_the_first (oldest_of newest others)
    ∷ live_differs c newest (newest ∷ others) ∷ [])

abbrev pub accepted : CertificateValue → Verdict
accepted c = Accepted c.version c.live_count

-- the verdict on the documents of all lines
unfoldable pub verdict_on : CertificateValue → DocValue → List DocValue → Verdict
verdict_on c newest others = unwrap_or (refusal_of c newest others) (accepted c)
