-- The text of a certificate, as a list of lines.
use Rattle.std.specs.Prelude.{◌≡◌, ℕ, ◌≤◌, ◌<◌, List, [], ◌∷◌, ◌++◌, map, flat_map, length, take, codes, decimal}
use Rattle.hex.specs.Hex.{encode_lower}
use Rattle.atom_values.specs.Ascii.{lf, space}
use Rattle.chain_links.specs.Address.{printed}
use Rattle.deleted_entries.specs.FeedId.{feed_text}
use Rattle.coverage_certificate.specs.Certificate.{CertificateValue, CoverValue, IsCertificate}

-- the greatest number of bytes of a text that is read
abbrev pub certificate_limit : ℕ
certificate_limit = 1_073_741_824

-- the lines of a certificate, each without its LF
abbrev pub head_line : List ℕ
head_line = codes "coverage 1"

abbrev pub feed_line : List ℕ → List ℕ → List ℕ
feed_line feed base = codes "feed " ++ (feed_text feed ++ space ∷ base)

abbrev pub version_line : ℕ → List ℕ
version_line version = codes "version " ++ decimal version

abbrev pub document_line : List ℕ → CoverValue → List ℕ
document_line base line = codes "document " ++ (printed base line.address ++ space ∷ encode_lower line.digest)

abbrev pub live_line : ℕ → List ℕ → List ℕ
live_line count digest = codes "live " ++ (decimal count ++ space ∷ encode_lower digest)

abbrev pub end_line : List ℕ
end_line = codes "end"

-- the lines before the documents, and those after them
abbrev pub opening_lines : List ℕ → List ℕ → ℕ → List (List ℕ)
opening_lines feed base version = head_line ∷ feed_line feed base ∷ version_line version ∷ []

abbrev pub ending_lines : ℕ → List ℕ → List (List ℕ)
ending_lines count digest = live_line count digest ∷ end_line ∷ []

-- all lines of a certificate
unfoldable pub certificate_lines : CertificateValue → List (List ℕ)
certificate_lines c =
    opening_lines c.feed c.base c.version
    ++ (map (document_line c.base) c.lines ++ ending_lines c.live_count c.live_digest)

-- the text of lines, each of which ends with LF
abbrev pub text_of_lines : List (List ℕ) → List ℕ
text_of_lines lines = flat_map (λ line. line ++ lf ∷ []) lines

-- the text of a certificate
unfoldable pub certificate_text : CertificateValue → List ℕ
certificate_text c = text_of_lines (certificate_lines c)

-- the text begins with the first `count` lines of a certificate
pub record CanStand (text : List ℕ) (count : ℕ) : Type 0 where
  pub certificate : CertificateValue
  pub rules : IsCertificate certificate
  pub there : count ≤ length (certificate_lines certificate)
  pub rest : List ℕ
  pub begins : text ≡ text_of_lines (take count (certificate_lines certificate)) ++ rest

-- the text is no certificate's
abbrev pub IsNoCertificate : List ℕ → Type 0
IsNoCertificate text = (c : CertificateValue) → IsCertificate c → certificate_text c ≡ text → ⊥

-- The text is no certificate's, and `line` is the number of the first line that is refused, counted from 1: the
-- lines before it begin some certificate, and together with it none. A text that lacks lines or the LF of its
-- last line is refused at the line that isn't whole, and bytes after the last line of a certificate are one
-- line more.
pub record IsFirstBadLine (text : List ℕ) (line : ℕ) : Type 0 where
  pub no_certificate : IsNoCertificate text
  pub from_one : 1 ≤ line
  pub before : (count : ℕ) → 1 ≤ count → count < line → CanStand text count
  pub there : ¬ CanStand text line

-- two certificates with one text are equal
abbrev pub CertificatesHaveOneText : Type 0
CertificatesHaveOneText = (one other : CertificateValue) → IsCertificate one → IsCertificate other
    → certificate_text one ≡ certificate_text other → one ≡ other
