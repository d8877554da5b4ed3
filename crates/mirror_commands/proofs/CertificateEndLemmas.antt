-- `audit`: the text of a certificate ends with its only line `end`.
use Rattle.std.proofs.Common.{◌≡◌, ℕ, List, [], ◌∷◌, ◌++◌, map, sym, ap, ◌∙◌, arith, append_assoc, get_or}
use Rattle.std.specs.Prelude.{All}
use Rattle.std.proofs.lemmas.List.Elements.{All-append, All-cons, All-head, All-nil, All-tail}
use Rattle.coverage_certificate.specs.Certificate.{CertificateValue, CoverValue, IsCertificate}
use Rattle.coverage_certificate.specs.Reading.{HasNoLf}
use Rattle.coverage_certificate.specs.Text.{certificate_lines, certificate_text, document_line, end_line, feed_line}
use Rattle.coverage_certificate.specs.Text.{head_line, live_line}
use Rattle.coverage_certificate.specs.Text.{opening_lines, text_of_lines, version_line}
use Rattle.coverage_certificate.proofs.BreakLemmas.{documents_lack, ending_lacks, opening_lacks}
use Rattle.mirror_commands.specs.Audit.{EndsOnce, IsOtherLine}

-- a line with another first byte
other-line : (line : List ℕ) → HasNoLf line → (get_or line 0 0 ≡ 101 → ⊥) → IsOtherLine line
other-line line no_lf other = record {
  no_lf = no_lf;
  other = λ e. other (ap (λ (l : List ℕ). get_or l 0 0) e);
}

opening-others : (feed base : List ℕ) (version : ℕ) → All HasNoLf (opening_lines feed base version)
    → All IsOtherLine (opening_lines feed base version)
opening-others feed base version lack =
    let named = feed_line feed base in
    let numbered = version_line version in
    let two = All-tail HasNoLf head_line (named ∷ numbered ∷ []) lack in
    let one = All-tail HasNoLf named (numbered ∷ []) two in
    All-cons IsOtherLine head_line (named ∷ numbered ∷ [])
    (other-line head_line (All-head HasNoLf head_line (named ∷ numbered ∷ []) lack) (λ e. omega (arith, e)))
    (All-cons IsOtherLine named (numbered ∷ [])
    (other-line named (All-head HasNoLf named (numbered ∷ []) two) (λ e. omega (arith, e)))
    (All-cons IsOtherLine numbered []
    (other-line numbered (All-head HasNoLf numbered [] one) (λ e. omega (arith, e))) (All-nil IsOtherLine)))

documents-others : (base : List ℕ) (lines : List CoverValue) → All HasNoLf (map (document_line base) lines)
    → All IsOtherLine (map (document_line base) lines)
documents-others base [] lack = All-nil IsOtherLine
documents-others base (line ∷ lines) lack =
    let first = document_line base line in
    let rest = map (document_line base) lines in
    All-cons IsOtherLine first rest (other-line first (All-head HasNoLf first rest lack) (λ e. omega (arith, e)))
    (documents-others base lines (All-tail HasNoLf first rest lack))

live-other : (count : ℕ) (digest : List ℕ) → All HasNoLf (live_line count digest ∷ end_line ∷ [])
    → All IsOtherLine (live_line count digest ∷ [])
live-other count digest lack =
    let line = live_line count digest in
    All-cons IsOtherLine line [] (other-line line (All-head HasNoLf line (end_line ∷ []) lack) (λ e. omega (arith, e)))
    (All-nil IsOtherLine)

pub certificate-ends : (c : CertificateValue) → IsCertificate c → EndsOnce (certificate_text c)
unfolding certificate_text certificate_lines
certificate-ends c is =
    let opening = opening_lines c.feed c.base c.version in
    let documents = map (document_line c.base) c.lines in
    let live = live_line c.live_count c.live_digest in
    record {
      before = opening ++ (documents ++ live ∷ []);
      others = All-append IsOtherLine opening (documents ++ live ∷ [])
          (opening-others c.feed c.base c.version (opening_lacks c.feed c.base c.version is.base is.version))
          (All-append IsOtherLine documents (live ∷ [])
          (documents-others c.base c.lines (documents_lack c.base c.lines is.base is.lines))
          (live-other c.live_count c.live_digest (ending_lacks c.live_count c.live_digest is.live_count)));
      is = ap (λ (lines : List (List ℕ)). text_of_lines (opening ++ lines))
          (sym (append_assoc documents (live ∷ []) (end_line ∷ [])))
          ∙ ap (λ (lines : List (List ℕ)). text_of_lines lines)
          (sym (append_assoc opening (documents ++ live ∷ []) (end_line ∷ [])));
    }
