-- The fields of a line: a text without them isn't a line of that form.
use Rattle.std.proofs.Common.{◌≡◌, ◌≢◌, ℕ, ◌-◌, ◌<◌, ◌≤◌, ◌^◌, List, [], ◌∷◌, ◌++◌, length, take, drop, codes, decimal, Option, Some, None, Result, Ok, Bor, option_copied, sym, ap, ◌∙◌, arith, length-append}
use Rattle.std.proofs.lemmas.Fmt.{decimal_digit, decimal_injective}
use Rattle.std.proofs.lemmas.List.{append_cancel_left, drop_at, take-append-drop, take_at}
use Rattle.hex.specs.Hex.{decode_sized, encode_lower}
use Rattle.hex.specs.declared.error.FromHexError.{FromHexError}
use Rattle.hex.proofs.HexLemmas.{decode_sized-encode_lower}
use Rattle.deleted_entries.specs.FeedId.{feed_text}
use Rattle.doc_source.proofs.CutLemmas.{same_fronts}
use Rattle.coverage_certificate.specs.Digest.{IsDigest}
use Rattle.coverage_certificate.specs.Reading.{IsSpacedDigest}
use Rattle.coverage_certificate.specs.Text.{feed_line}
use Rattle.coverage_certificate.proofs.NextLemmas.{length-feed_text}
use Rattle.coverage_certificate.proofs.SameLemmas.{bytes_are, length-digits, spaced_same}

pub after_none : (text prefix : List ℕ) (r : Option (Bor (List ℕ)))
    → ((rest : List ℕ) → text ≡ prefix ++ rest → option_copied r ≡ Some rest) → r ≡ None
    → (rest : List ℕ) → text ≢ prefix ++ rest
after_none text prefix None only none rest e = let h = only rest e in cc
after_none text prefix (Some x) only none rest e = cc

pub zero_text : decimal 0 ≡ 48 ∷ []
zero_text = decimal_digit 0 (omega arith)

pub zero_only : (text : List ℕ) (n : ℕ) → n < 2 ^ 32 → text ≡ 48 ∷ [] → text ≡ decimal n → 0 ≡ n
zero_only text n small zero e =
    decimal_injective 0 n (omega arith) (omega arith) (zero_text ∙ sym zero ∙ e)

pub feed_short : (line fields : List ℕ) → line ≡ codes "feed " ++ fields → length fields < 36
    → (feed base : List ℕ) → line ≢ feed_line feed base
feed_short line fields split short feed base e =
    let same = append_cancel_left (codes "feed ") fields (feed_text feed ++ 32 ∷ base) (sym split ∙ e) in
    omega (arith, ap length same, length-append (feed_text feed) (32 ∷ base), length-feed_text feed)

-- the fields of a line that names a feed
pub feed_fields : (line fields id behind : List ℕ) → line ≡ codes "feed " ++ fields → fields ≡ id ++ behind
    → length id ≡ 36 → (feed base : List ℕ) → line ≡ feed_line feed base
    → (id ≡ feed_text feed) × (behind ≡ 32 ∷ base)
feed_fields line fields id behind split cut size feed base e =
    let same = append_cancel_left (codes "feed ") fields (feed_text feed ++ 32 ∷ base) (sym split ∙ e) in
    same_fronts id behind (feed_text feed) (32 ∷ base) (size ∙ sym (length-feed_text feed)) (sym cut ∙ same)

pub cut_is : (xs front back : List ℕ) (n : ℕ) → front ≡ take n xs → back ≡ drop n xs → xs ≡ front ++ back
cut_is xs front back n p q =
    sym (take-append-drop n xs) ∙ ap (λ (x : List ℕ). x ++ drop n xs) (sym p)
    ∙ ap (λ (x : List ℕ). front ++ x) (sym q)

-- the digest that a text is read as
pub digest_read : (text digest : List ℕ) (r : Result (List ℕ) FromHexError)
    → r ≡ decode_sized text 32 → IsDigest digest → text ≡ encode_lower digest → r ≡ Ok digest
digest_read text digest r gives is e =
    gives ∙ ap (λ (x : List ℕ). decode_sized x 32) e ∙ decode_sized-encode_lower digest 32 is.size
    (bytes_are digest is.each)

pub spaced_long : (text front digest : List ℕ) → IsSpacedDigest text front digest → 65 ≤ length text
spaced_long text front digest is =
    omega (
      arith,
      ap length is.whole,
      length-append front (32 ∷ encode_lower digest),
      length-digits digest is.is_digest,
    )

-- the parts of a text before its last 65 bytes, and of those bytes
pub spaced_parts : (text front digest one behind : List ℕ) → IsSpacedDigest text front digest
    → one ≡ take (length text - 65) text → behind ≡ drop (length text - 65) text
    → (one ≡ front) × (behind ≡ 32 ∷ encode_lower digest)
spaced_parts text front digest one behind is p q =
    let size : length front ≡ length text - 65 =
    omega (
      arith,
      ap length is.whole,
      length-append front (32 ∷ encode_lower digest),
      length-digits digest is.is_digest,
    ) in (
      p ∙ ap (take (length text - 65)) is.whole ∙ take_at front (32 ∷ encode_lower digest) (length text - 65) size,
      q ∙ ap (drop (length text - 65)) is.whole ∙ drop_at front (32 ∷ encode_lower digest) (length text - 65) size,
    )

-- the part before the digest of a line, and the digest, after the line's word
pub spaced_behind : (word line rest front digest : List ℕ) → line ≡ word ++ rest → IsDigest digest
    → line ≡ word ++ (front ++ 32 ∷ encode_lower digest) → IsSpacedDigest rest front digest
spaced_behind word line rest front digest split is e = record {
  is_digest = is;
  whole = append_cancel_left word rest (front ++ 32 ∷ encode_lower digest) (sym split ∙ e);
}

pub spaced_once : (text front digest front' digest' : List ℕ) → IsSpacedDigest text front digest
    → IsSpacedDigest text front' digest' → (front ≡ front') × (digest ≡ digest')
spaced_once text front digest front' digest' p q =
    spaced_same front digest front' digest' p.is_digest q.is_digest (sym p.whole ∙ q.whole)
