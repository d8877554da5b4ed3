-- The result of reading a text, from the results after its first lines.
use Rattle.std.proofs.Common.{◌≡◌, ℕ, ◌+◌, ◌<◌, true, false, List, [], ◌∷◌, ◌++◌, length, Option, Some, Result, Ok, Err, Bor, inl, inr, sym, subst, arith}
use Rattle.std.specs.Prelude.{IfSome, IsErrAnd, map}
use Rattle.chain_links.specs.Base.{IsBase}
use Rattle.deleted_entries.specs.FeedId.{IsFeedId}
use Rattle.coverage_certificate.specs.declared.certificate_fault.CertificateFault.{CertificateFault}
use Rattle.coverage_certificate.specs.declared.certificate_fault.CertificateFault.TheVariants.{BadCertificate, NoMemory}
use Rattle.coverage_certificate.specs.declared.read.Named.{Named}
use Rattle.coverage_certificate.specs.Certificate.{AreCoverLines, CertificateValue, CoverValue}
use Rattle.coverage_certificate.specs.Reading.{AreLinesSoFar, HasNoLine, IsBadEnding, IsDocumentLine, IsReading, is_nil}
use Rattle.coverage_certificate.specs.Text.{IsFirstBadLine, document_line, feed_line, text_of_lines}
use Rattle.coverage_certificate.proofs.ReadLemmas.{HasDocuments, IsOpened, bad_end, bad_live, bad_more}

-- the line that names the feed, where it was found
abbrev pub IsNamed : List ℕ → Named × Bor (List ℕ) → Type 0
IsNamed text x = IsFeedId x.0.feed × IsBase x.0.base × (text ≡ feed_line x.0.feed x.0.base ++ 10 ∷ x.1.now)

pub name_found : (text : List ℕ) (o : Option (Named × Bor (List ℕ))) (x : Named × Bor (List ℕ)) → o ≡ Some x
    → IfSome o (IsNamed text) → IsNamed text x
name_found text o x e is = subst (λ (p : Option (Named × Bor (List ℕ))). IfSome p (IsNamed text)) e is

-- a fault that is passed on
pub same_fault : (text : List ℕ) (r : Result CertificateValue CertificateFault) (fault : CertificateFault)
    → IsErrAnd r (λ e. e ≡ fault) → IsReading text (Err fault) → IsReading text r
same_fault text (Ok c) fault is bad = absurd is
same_fault text (Err e) fault is bad =
    subst (λ (x : CertificateFault). IsReading text (Err x)) (sym is) bad

pub no_documents : (base : List ℕ) (lines : List CoverValue) (text rest : List ℕ) → length lines ≡ 0
    → text ≡ text_of_lines (map (document_line base) lines) ++ rest
    → HasNoLine (IsDocumentLine base (is_nil lines)) rest → HasNoLine (IsDocumentLine base true) text
no_documents base [] text rest none e absent = subst (HasNoLine (IsDocumentLine base true)) (sym e) absent
no_documents base (line ∷ lines) text rest none e absent = absurd (omega arith)

pub so_far : (lines : List CoverValue) → 0 < length lines → AreLinesSoFar lines → AreCoverLines lines
so_far [] some are = absurd (omega arith)
so_far (line ∷ lines) some are = are

pub later_none : (base : List ℕ) (lines : List CoverValue) (rest : List ℕ) → 0 < length lines
    → HasNoLine (IsDocumentLine base (is_nil lines)) rest → HasNoLine (IsDocumentLine base false) rest
later_none base [] rest some none = absurd (omega arith)
later_none base (line ∷ lines) rest some none = none

-- the line at which the text after the documents is refused
pub bad_ending : (text feed base : List ℕ) (version : ℕ) (lines : List CoverValue) (r3 r4 : List ℕ)
    → IsOpened text feed base version r3 → HasDocuments base lines r3 r4
    → HasNoLine (IsDocumentLine base false) r4 → (line : ℕ) → line ≡ 4 + length lines → (fault : CertificateFault)
    → IsBadEnding line r4 fault → IsReading text (Err fault)
bad_ending text feed base version lines r3 r4 o d none line is NoMemory bad = absurd bad
bad_ending text feed base version lines r3 r4 o d none line is (BadCertificate at) bad =
    elim bad [
      | inl live ↦
          let here : 4 + length lines ≡ at = omega (arith, is, live.0) in
          subst (IsFirstBadLine text) here (bad_live text feed base version lines r3 r4 o d none live.1)
      | inr other ↦
          elim other [
            | inl end ↦
                let here : 5 + length lines ≡ at = omega (arith, is, end.0) in
                subst (IsFirstBadLine text) here (bad_end text feed base version lines r3 r4 o d end.1)
            | inr more ↦
                let here : 6 + length lines ≡ at = omega (arith, is, more.0) in
                subst (IsFirstBadLine text) here (bad_more text feed base version lines r3 r4 o d more.1)
          ]
    ]
