-- No line of a certificate has an LF.
use Rattle.std.proofs.Common.{◌≡◌, ◌≢◌, ℕ, zero, suc, ◌+◌, ◌/◌, ◌%◌, ◌<◌, ◌^◌, Bool, true, false, cond, not, ◌==◌, ◌&&◌, List, [], ◌∷◌, ◌++◌, Option, Some, None, inl, inr, refl, sym, subst, ◌∙◌, arith, rules, tests, codes, decimal}
use Rattle.std.specs.Prelude.{All, IsTrue, flat_map, map, slice_index}
use Rattle.std.proofs.lemmas.Bool.{and_parts, cases_lt}
use Rattle.std.proofs.lemmas.Bool.Decides.{nat_tests}
use Rattle.std.proofs.lemmas.Fmt.{decimal_by_steps}
use Rattle.std.proofs.lemmas.List.{get_or_past}
use Rattle.std.proofs.lemmas.List.Elements.{All-append, All-cons, All-get_or, All-head, All-nil, All-push, All-same, All-tail, All-weaker}
use Rattle.hex.specs.Hex.{encode_lower, encode_with, lower_digits}
use Rattle.uuid.specs.Text.{by_index, hex_digit, nibble, digit_place, is_hyphen_place}
use Rattle.chain_links.specs.Base.{AreSegments, IsBase, IsPort, IsWord, host_text, is_label_char, is_segment_char, path_text, port_text}
use Rattle.chain_links.specs.Address.{IsAddress, printed, suffix_text}
use Rattle.chain_links.specs.declared.address.Address.{Address}
use Rattle.chain_links.specs.declared.address.Address.TheVariants.{Feed, Archive, Member}
use Rattle.chain_links.proofs.AddressLemmas.{printed-is}
use Rattle.chain_links.proofs.BaseLemmas.{spelling}
use Rattle.deleted_entries.specs.FeedId.{feed_text}
use Rattle.coverage_certificate.specs.Certificate.{AreCoverLines, CertificateValue, CoverValue, IsArchive, IsCertificate}
use Rattle.coverage_certificate.specs.Reading.{Fits, HasNoLf, IsDocumentLine, IsFeedLine, IsLiveLine, IsVersionLine}
use Rattle.coverage_certificate.specs.Text.{certificate_lines, document_line, end_line, ending_lines, feed_line, head_line, live_line, opening_lines, version_line}

abbrev no_lf : List ℕ → Bool
no_lf [] = true
no_lf (x ∷ xs) = not (x == 10) && no_lf xs

-- a fixed text is tested by computation
pub tested : (xs : List ℕ) → no_lf xs ≡ true → HasNoLf xs
tested [] e = All-nil (λ b. b ≢ 10)
tested (x ∷ xs) e =
    let p = and_parts (not (x == 10)) (no_lf xs) e in
    All-cons (λ b. b ≢ 10) x xs (λ h. let P : x ≢ 10 = search (rules, tests) in P h) (tested xs p.1)

pub both : (xs ys : List ℕ) → HasNoLf xs → HasNoLf ys → HasNoLf (xs ++ ys)
both xs ys p q = All-append (λ b. b ≢ 10) xs ys p q

one_more : (x : ℕ) (xs : List ℕ) → x ≢ 10 → HasNoLf xs → HasNoLf (x ∷ xs)
one_more x xs p q = All-cons (λ b. b ≢ 10) x xs p q

pub decimal_lacks : (n : ℕ) → n < 2 ^ 64 → HasNoLf (decimal n)
decimal_lacks n h = decimal_by_steps (λ _ ds. All (λ b. b ≢ 10) ds)
    (λ m small. All-cons (λ b. b ≢ 10) (48 + m) [] (λ e. omega (arith, e)) (All-nil (λ b. b ≢ 10)))
    (λ m ds big are. All-push (λ b. b ≢ 10) ds (48 + m % 10) are (λ e. omega (arith, e))) n h

-- characters that pass a test which LF fails
passed : (test : ℕ → Bool) → test 10 ≡ false → (xs : List ℕ) → All (λ c. IsTrue (test c)) xs → HasNoLf xs
passed test fails xs all = All-weaker (λ c. IsTrue (test c)) (λ b. b ≢ 10)
    (λ c is e. let h : test 10 ≡ true = subst (λ (n : ℕ). test n ≡ true) e is in
    absurd (let g : false ≡ true = sym fails ∙ h in cc)) xs all

labels_lack : (labels : List (List ℕ)) → All (IsWord is_label_char) labels → HasNoLf (host_text labels)
labels_lack [] all = All-nil (λ b. b ≢ 10)
labels_lack (x ∷ []) all = passed is_label_char refl x (All-head (IsWord is_label_char) x [] all).1
labels_lack (x ∷ y ∷ ys) all =
    both x (46 ∷ host_text (y ∷ ys))
    (passed is_label_char refl x (All-head (IsWord is_label_char) x (y ∷ ys) all).1)
    (one_more 46 (host_text (y ∷ ys)) (λ e. omega (arith, e))
    (labels_lack (y ∷ ys) (All-tail (IsWord is_label_char) x (y ∷ ys) all)))

segments_lack : (segments : List (List ℕ)) → AreSegments segments
    → HasNoLf (flat_map (λ (s : List ℕ). s ++ 47 ∷ []) segments)
segments_lack [] all = All-nil (λ b. b ≢ 10)
segments_lack (x ∷ xs) all =
    both (x ++ 47 ∷ []) (flat_map (λ (s : List ℕ). s ++ 47 ∷ []) xs)
    (both x (47 ∷ [])
    (passed is_segment_char refl x (All-head (IsWord is_segment_char) x xs all).1) (tested (47 ∷ []) refl))
    (segments_lack xs (All-tail (IsWord is_segment_char) x xs all))

port_lacks : (port : Option ℕ) → IsPort port → HasNoLf (port_text port)
port_lacks None is = All-nil (λ b. b ≢ 10)
port_lacks (Some n) is =
    one_more 58 (decimal n) (λ e. omega (arith, e)) (decimal_lacks n (omega (arith, is.1)))

pub base_lacks : (base : List ℕ) → IsBase base → HasNoLf base
base_lacks base is =
    let p = is.parts in
    All-same (λ b. b ≢ 10) base _ (spelling base is)
    (both (codes "http://") (host_text p.labels ++ (port_text p.port ++ path_text p.segments))
    (tested (codes "http://") refl)
    (both (host_text p.labels) (port_text p.port ++ path_text p.segments)
    (labels_lack p.labels is.rules.labels.1)
    (both (port_text p.port) (path_text p.segments) (port_lacks p.port is.rules.port)
    (one_more 47 _ (λ e. omega (arith, e)) (segments_lack p.segments is.rules.segments)))))

suffix_lacks : (a : Address) → IsAddress a → HasNoLf (suffix_text a)
suffix_lacks Feed is = tested (codes "feed") refl
suffix_lacks (Archive n) is =
    both (codes "archive/") (decimal n) (tested (codes "archive/") refl) (decimal_lacks n (omega (arith, is.1)))
suffix_lacks (Member n) is =
    both (codes "member/") (decimal n) (tested (codes "member/") refl) (decimal_lacks n (omega (arith, is.1)))

printed_lacks : (base : List ℕ) (a : Address) → IsBase base → IsAddress a → HasNoLf (printed base a)
printed_lacks base a is_base is =
    All-same (λ b. b ≢ 10) (printed base a) (base ++ suffix_text a) (printed-is base a)
    (both base (suffix_text a) (base_lacks base is_base) (suffix_lacks a is))

hex_digit-ne : (d : ℕ) → hex_digit 97 d ≢ 10
hex_digit-ne d = grind (arith, nat_tests)

chosen-ne : (t : Bool) (a b c : ℕ) → a ≢ c → b ≢ c → cond t a b ≢ c
chosen-ne true a b c h k = h
chosen-ne false a b c h k = k

by_index_lacks : (n : ℕ) (f : ℕ → ℕ) → ((k : ℕ) → f k ≢ 10) → HasNoLf (by_index n f)
unfolding by_index
by_index_lacks zero f h = All-nil (λ b. b ≢ 10)
by_index_lacks (suc n) f h = both (by_index n f) (f n ∷ []) (by_index_lacks n f h)
    (one_more (f n) [] (h n) (All-nil (λ b. b ≢ 10)))

feed_lacks : (id : List ℕ) → HasNoLf (feed_text id)
feed_lacks id =
    by_index_lacks 36 _
    (λ k. chosen-ne (is_hyphen_place k) 45 (hex_digit 97 (nibble id (digit_place k))) 10
    (λ e. absurd (omega arith)) (hex_digit-ne (nibble id (digit_place k))))

lower-ne : (d : ℕ) → slice_index lower_digits d ≢ 10
lower-ne d =
    elim (cases_lt d 16) [
      | inl below ↦ All-get_or (λ b. b ≢ 10) lower_digits d 0 below (tested lower_digits refl)
      | inr past ↦ λ e. absurd (omega (arith, e, get_or_past lower_digits d 0 past))
    ]

hex_lacks : (bytes : List ℕ) → HasNoLf (encode_lower bytes)
unfolding encode_with
hex_lacks [] = All-nil (λ b. b ≢ 10)
hex_lacks (b ∷ bytes) =
    one_more (slice_index lower_digits (b / 16)) (slice_index lower_digits (b % 16) ∷ encode_lower bytes)
    (lower-ne (b / 16))
    (one_more (slice_index lower_digits (b % 16)) (encode_lower bytes) (lower-ne (b % 16)) (hex_lacks bytes))

spaced_lacks : (front bytes : List ℕ) → HasNoLf front → HasNoLf (front ++ 32 ∷ encode_lower bytes)
spaced_lacks front bytes p =
    both front (32 ∷ encode_lower bytes) p (one_more 32 (encode_lower bytes) (λ e. omega (arith, e)) (hex_lacks bytes))

pub head_line_lacks : HasNoLf head_line
head_line_lacks = tested head_line refl

pub end_line_lacks : HasNoLf end_line
end_line_lacks = tested end_line refl

feed_parts_lack : (feed base : List ℕ) → IsBase base → HasNoLf (feed_line feed base)
feed_parts_lack feed base is =
    both (codes "feed ") _ (tested (codes "feed ") refl)
    (both (feed_text feed) (32 ∷ base) (feed_lacks feed)
    (one_more 32 base (λ e. omega (arith, e)) (base_lacks base is)))

pub feed_line_lacks : (line : List ℕ) → IsFeedLine line → HasNoLf line
feed_line_lacks line is =
    All-same (λ b. b ≢ 10) line (feed_line is.feed is.base) is.whole (feed_parts_lack is.feed is.base is.is_base)

version_parts_lack : (version : ℕ) → version < 2 ^ 32 → HasNoLf (version_line version)
version_parts_lack version small =
    both (codes "version ") _ (tested (codes "version ") refl) (decimal_lacks version (omega arith))

pub version_line_lacks : (line : List ℕ) → IsVersionLine line → HasNoLf line
version_line_lacks line is =
    All-same (λ b. b ≢ 10) line (version_line is.version) is.whole (version_parts_lack is.version is.small)

document_parts_lack : (base : List ℕ) (cover : CoverValue) → IsBase base → IsAddress cover.address
    → HasNoLf (document_line base cover)
document_parts_lack base cover is_base is =
    both (codes "document ") _ (tested (codes "document ") refl)
    (spaced_lacks (printed base cover.address) cover.digest (printed_lacks base cover.address is_base is))

pub archive_address : (address : Address) → IsArchive address → IsAddress address
archive_address Feed is = absurd is
archive_address (Archive n) is = is
archive_address (Member n) is = absurd is

pub fits_address : (is_first : Bool) (address : Address) → Fits is_first address → IsAddress address
fits_address true address is = subst IsAddress (sym is) tt
fits_address false address is = archive_address address is

pub document_line_lacks : (base : List ℕ) (is_first : Bool) (line : List ℕ) → IsBase base
    → IsDocumentLine base is_first line → HasNoLf line
document_line_lacks base is_first line is_base is =
    All-same (λ b. b ≢ 10) line (document_line base is.cover) is.whole
    (document_parts_lack base is.cover is_base (fits_address is_first is.cover.address is.fits))

live_parts_lack : (count : ℕ) (digest : List ℕ) → count < 2 ^ 32 → HasNoLf (live_line count digest)
live_parts_lack count digest small =
    both (codes "live ") _ (tested (codes "live ") refl)
    (spaced_lacks (decimal count) digest (decimal_lacks count (omega arith)))

pub live_line_lacks : (line : List ℕ) → IsLiveLine line → HasNoLf line
live_line_lacks line is =
    All-same (λ b. b ≢ 10) line (live_line is.count is.digest) is.whole
    (live_parts_lack is.count is.digest is.small)

archives_lack : (base : List ℕ) (lines : List CoverValue) → IsBase base
    → All (λ (line : CoverValue). IsArchive line.address) lines → All HasNoLf (map (document_line base) lines)
archives_lack base [] is_base all = All-nil HasNoLf
archives_lack base (line ∷ lines) is_base all =
    let P : CoverValue → Type 0 = λ line. IsArchive line.address in
    All-cons HasNoLf (document_line base line) (map (document_line base) lines)
    (document_parts_lack base line is_base (archive_address line.address (All-head P line lines all)))
    (archives_lack base lines is_base (All-tail P line lines all))

pub documents_lack : (base : List ℕ) (lines : List CoverValue) → IsBase base → AreCoverLines lines
    → All HasNoLf (map (document_line base) lines)
documents_lack base [] is_base are = absurd are
documents_lack base (line ∷ lines) is_base are =
    All-cons HasNoLf (document_line base line) (map (document_line base) lines)
    (document_parts_lack base line is_base (subst IsAddress (sym are.0) tt))
    (archives_lack base lines is_base are.1)

all_two : (one other : List ℕ) → HasNoLf one → HasNoLf other → All HasNoLf (one ∷ other ∷ [])
all_two one other p q =
    All-cons HasNoLf one (other ∷ []) p (All-cons HasNoLf other [] q (All-nil HasNoLf))

pub opening_lacks : (feed base : List ℕ) (version : ℕ) → IsBase base → version < 2 ^ 32
    → All HasNoLf (opening_lines feed base version)
opening_lacks feed base version is small =
    All-cons HasNoLf head_line (feed_line feed base ∷ version_line version ∷ []) head_line_lacks
    (all_two (feed_line feed base) (version_line version) (feed_parts_lack feed base is)
    (version_parts_lack version small))

pub ending_lacks : (count : ℕ) (digest : List ℕ) → count < 2 ^ 32 → All HasNoLf (ending_lines count digest)
ending_lacks count digest small =
    all_two (live_line count digest) end_line (live_parts_lack count digest small) end_line_lacks

pub certificate_lacks : (c : CertificateValue) → IsCertificate c → All HasNoLf (certificate_lines c)
unfolding certificate_lines
certificate_lacks c is =
    All-append HasNoLf (opening_lines c.feed c.base c.version)
    (map (document_line c.base) c.lines ++ ending_lines c.live_count c.live_digest)
    (opening_lacks c.feed c.base c.version is.base is.version)
    (All-append HasNoLf (map (document_line c.base) c.lines) (ending_lines c.live_count c.live_digest)
    (documents_lack c.base c.lines is.base is.lines) (ending_lacks c.live_count c.live_digest is.live_count))
