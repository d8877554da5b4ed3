-- Two certificates with one text are equal.
use Rattle.std.proofs.Common.{◌≡◌, ℕ, ◌<◌, ◌^◌, List, [], ◌∷◌, ◌++◌, length, codes, decimal, Some, inl, inr, refl, sym, ap, subst, ◌∙◌, arith, append-nil, length-append}
use Rattle.std.specs.Prelude.{All, map}
use Rattle.std.proofs.lemmas.Bool.{cases_lt}
use Rattle.std.proofs.lemmas.Fmt.{decimal_injective}
use Rattle.std.proofs.lemmas.List.{append_cancel_left, get_or_past}
use Rattle.std.proofs.lemmas.List.Elements.{All-cons, All-get_or, All-head, All-nil, All-tail}
use Rattle.hex.specs.Hex.{IsBytes, decode_of, encode_lower, lower_digits}
use Rattle.hex.proofs.HexLemmas.{decode_of-encode_lower, length-encode_with}
use Rattle.uuid.proofs.RoundTrips.{parses_hyphenated}
use Rattle.uuid.specs.Text.{lower, parsed}
use Rattle.chain_links.specs.Address.{IsAddress, printed}
use Rattle.chain_links.specs.declared.address.Address.{Address}
use Rattle.chain_links.proofs.AddressLemmas.{same_address}
use Rattle.deleted_entries.specs.FeedId.{IsFeedId, feed_text}
use Rattle.coverage_certificate.specs.Certificate.{AreCoverLines, CertificateValue, CoverValue, IsArchive, IsCertificate}
use Rattle.doc_source.proofs.CutLemmas.{same_fronts}
use Rattle.coverage_certificate.specs.Digest.{IsDigest}
use Rattle.coverage_certificate.specs.Text.{CertificatesHaveOneText, certificate_lines, certificate_text, document_line, end_line, live_line, opening_lines, text_of_lines, version_line}
use Rattle.coverage_certificate.proofs.BreakLemmas.{archive_address, certificate_lacks}
use Rattle.coverage_certificate.proofs.LineLemmas.{goes_on, no_text, text-is}
use Rattle.coverage_certificate.proofs.NextLemmas.{behind_opening, feed_line_parts, lines-are, other_line, tail_of}

-- each index of the digest has a byte, past its end 0
pub bytes_are : (bytes : List ℕ) → All (λ b. b < 256) bytes → IsBytes bytes
bytes_are bytes all i =
    elim (cases_lt i (length bytes)) [
      | inl below ↦ All-get_or (λ b. b < 256) bytes i 0 below all
      | inr past ↦ omega (arith, get_or_past bytes i 0 past)
    ]

pub length-digits : (digest : List ℕ) → IsDigest digest → length (encode_lower digest) ≡ 64
length-digits digest is = omega (arith, length-encode_with lower_digits digest, is.size)

pub digits_same : (one other : List ℕ) → IsDigest one → IsDigest other → encode_lower one ≡ encode_lower other
    → one ≡ other
digits_same one other p q e =
    let first = decode_of-encode_lower one (bytes_are one p.each) in
    let second = decode_of-encode_lower other (bytes_are other q.each) in
    let both = ap decode_of e in
    cc

-- a text is split in one way before a digest
pub spaced_same : (front digest front' digest' : List ℕ) → IsDigest digest → IsDigest digest'
    → front ++ 32 ∷ encode_lower digest ≡ front' ++ 32 ∷ encode_lower digest'
    → (front ≡ front') × (digest ≡ digest')
spaced_same front digest front' digest' p q e =
    let size : length front ≡ length front' =
    omega (
      arith,
      ap length e,
      length-append front (32 ∷ encode_lower digest),
      length-append front' (32 ∷ encode_lower digest'),
      length-digits digest p,
      length-digits digest' q,
    ) in
    let parts = same_fronts front (32 ∷ encode_lower digest) front' (32 ∷ encode_lower digest') size e in
    let tails : 32 ∷ encode_lower digest ≡ 32 ∷ encode_lower digest' = parts.1 in
    (parts.0, digits_same digest digest' p q (cc))

pub feed_same : (one other : List ℕ) → IsFeedId one → IsFeedId other → feed_text one ≡ feed_text other → one ≡ other
feed_same one other p q e =
    let both : Some one ≡ Some other = parses_hyphenated lower one (inl refl) p.size p.each ∙ ap parsed e
    ∙ sym (parses_hyphenated lower other (inl refl) q.size q.each) in
    cc

cover_same : (one other : CoverValue) → one.address ≡ other.address → one.digest ≡ other.digest → one ≡ other
cover_same one other address digest =
    ap (λ (x : Address). let c : CoverValue = record { address = x; digest = one.digest } in c) address
    ∙ ap (λ (x : List ℕ). let c : CoverValue = record { address = other.address; digest = x } in c) digest

record IsCover (cover : CoverValue) : Type 0 where
  address : IsAddress cover.address
  digest : IsDigest cover.digest

document_same : (base : List ℕ) (one other : CoverValue) → IsCover one → IsCover other
    → document_line base one ≡ document_line base other → one ≡ other
document_same base one other p q e =
    let parts = spaced_same (printed base one.address) one.digest (printed base other.address) other.digest
    p.digest q.digest (append_cancel_left (codes "document ") _ _ e) in
    cover_same one other (same_address base one.address other.address p.address q.address parts.0) parts.1

live_same : (count : ℕ) (digest : List ℕ) (count' : ℕ) (digest' : List ℕ) → count < 2 ^ 32 → count' < 2 ^ 32
    → IsDigest digest → IsDigest digest' → live_line count digest ≡ live_line count' digest'
    → (count ≡ count') × (digest ≡ digest')
live_same count digest count' digest' small small' p q e =
    let parts = spaced_same (decimal count) digest (decimal count') digest' p q
    (append_cancel_left (codes "live ") _ _ e) in
    (decimal_injective count count' (omega arith) (omega arith) parts.0, parts.1)

archives_are : (lines : List CoverValue) → All (λ (line : CoverValue). IsArchive line.address) lines
    → All (λ (line : CoverValue). IsDigest line.digest) lines → All IsCover lines
archives_are [] placed digests = All-nil IsCover
archives_are (line ∷ lines) placed digests =
    let P : CoverValue → Type 0 = λ line. IsArchive line.address in
    let Q : CoverValue → Type 0 = λ line. IsDigest line.digest in
    All-cons IsCover line lines record {
      address = archive_address line.address (All-head P line lines placed);
      digest = All-head Q line lines digests;
    }
    (archives_are lines (All-tail P line lines placed) (All-tail Q line lines digests))

covers_are : (lines : List CoverValue) → AreCoverLines lines
    → All (λ (line : CoverValue). IsDigest line.digest) lines → All IsCover lines
covers_are [] placed digests = absurd placed
covers_are (line ∷ lines) placed digests =
    let Q : CoverValue → Type 0 = λ line. IsDigest line.digest in
    All-cons IsCover line lines record {
      address = subst IsAddress (sym placed.0) tt;
      digest = All-head Q line lines digests;
    }
    (archives_are lines placed.1 (All-tail Q line lines digests))

tails_same : (base : List ℕ) (xs ys : List CoverValue) (count : ℕ) (digest : List ℕ) (count' : ℕ)
    (digest' : List ℕ) → All IsCover xs → All IsCover ys
    → map (document_line base) xs ++ live_line count digest ∷ end_line ∷ []
    ≡ map (document_line base) ys ++ live_line count' digest' ∷ end_line ∷ []
    → (xs ≡ ys) × (live_line count digest ≡ live_line count' digest')
tails_same base [] [] count digest count' digest' p q e = (refl, cc)
tails_same base [] (y ∷ ys) count digest count' digest' p q e = absurd (other_line base y count digest (cc))
tails_same base (x ∷ xs) [] count digest count' digest' p q e = absurd (other_line base x count' digest' (cc))
tails_same base (x ∷ xs) (y ∷ ys) count digest count' digest' p q e =
    let heads : document_line base x ≡ document_line base y = cc in
    let tails : map (document_line base) xs ++ live_line count digest ∷ end_line ∷ []
    ≡ map (document_line base) ys ++ live_line count' digest' ∷ end_line ∷ [] = cc in
    let same = document_same base x y (All-head IsCover x xs p) (All-head IsCover y ys q) heads in
    let r = tails_same base xs ys count digest count' digest' (All-tail IsCover x xs p)
    (All-tail IsCover y ys q) tails in
    (ap (λ (c : CoverValue). c ∷ xs) same ∙ ap (λ (cs : List CoverValue). y ∷ cs) r.0, r.1)

lines_same : (one other : CertificateValue) → IsCertificate one → IsCertificate other
    → certificate_text one ≡ certificate_text other → certificate_lines one ≡ certificate_lines other
lines_same one other p q e =
    let xs = certificate_lines one in
    let ys = certificate_lines other in
    let texts : text_of_lines xs ++ [] ≡ text_of_lines ys ++ [] =
    ap (λ (t : List ℕ). t ++ []) (sym (text-is one) ∙ e ∙ text-is other) in
    elim (cases_lt (length xs) (length ys)) [
      | inl less ↦
          let g = goes_on xs ys [] [] (certificate_lacks one p) (certificate_lacks other q) (omega arith) texts in
          sym (g.lines ∙ ap (λ (ls : List (List ℕ)). xs ++ ls) (no_text g.more [] g.rest) ∙ append-nil xs)
      | inr past ↦
          let g = goes_on ys xs [] [] (certificate_lacks other q) (certificate_lacks one p) past (sym texts) in
          g.lines ∙ ap (λ (ls : List (List ℕ)). ys ++ ls) (no_text g.more [] g.rest) ∙ append-nil ys
    ]

-- a certificate with these parts
abbrev pub made : List ℕ → List ℕ → ℕ → List CoverValue → ℕ → List ℕ → CertificateValue
made feed base version lines count digest = record {
  feed = feed;
  base = base;
  version = version;
  lines = lines;
  live_count = count;
  live_digest = digest;
}

-- the fields of two certificates agree
pub record SameFields (one other : CertificateValue) : Type 0 where
  pub feed : one.feed ≡ other.feed
  pub base : one.base ≡ other.base
  pub version : one.version ≡ other.version
  pub lines : one.lines ≡ other.lines
  pub live_count : one.live_count ≡ other.live_count
  pub live_digest : one.live_digest ≡ other.live_digest

pub fields_same : (one other : CertificateValue) → SameFields one other → one ≡ other
fields_same one other s =
    ap (λ (x : List ℕ). made x one.base one.version one.lines one.live_count one.live_digest) s.feed
    ∙ ap (λ (x : List ℕ). made other.feed x one.version one.lines one.live_count one.live_digest) s.base
    ∙ ap (λ (x : ℕ). made other.feed other.base x one.lines one.live_count one.live_digest) s.version
    ∙ ap (λ (x : List CoverValue). made other.feed other.base other.version x one.live_count one.live_digest) s.lines
    ∙ ap (λ (x : ℕ). made other.feed other.base other.version other.lines x one.live_digest) s.live_count
    ∙ ap (λ (x : List ℕ). made other.feed other.base other.version other.lines other.live_count x) s.live_digest

pub one_text : CertificatesHaveOneText
one_text one other p q e =
    let same = lines_same one other p q e in
    let first : opening_lines one.feed one.base one.version ++ tail_of one
    ≡ opening_lines other.feed other.base other.version ++ tail_of other = sym (lines-are one) ∙ same ∙
    lines-are other in
    let named = feed_line_parts one.feed one.base other.feed other.base (cc) in
    let versions : version_line one.version ≡ version_line other.version = cc in
    let t = behind_opening one other.feed other.base other.version (tail_of other) (same ∙ lines-are other) in
    let r = tails_same other.base one.lines other.lines one.live_count one.live_digest other.live_count
    other.live_digest (covers_are one.lines p.lines p.digests) (covers_are other.lines q.lines q.digests) t.tail in
    let live = live_same one.live_count one.live_digest other.live_count other.live_digest p.live_count q.live_count
    p.live_digest q.live_digest r.1 in
    fields_same one other record {
      feed = feed_same one.feed other.feed p.feed q.feed named.0;
      base = named.1;
      version = decimal_injective one.version other.version (omega (arith, p.version)) (omega (arith, q.version))
          (append_cancel_left (codes "version ") _ _ versions);
      lines = r.0;
      live_count = live.0;
      live_digest = live.1;
    }
