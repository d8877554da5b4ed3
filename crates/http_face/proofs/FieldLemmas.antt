-- The fields of a head, and the number that digits write.
use Rattle.std.proofs.Common.{◌≡◌, ℕ, ◌+◌, ◌^◌, ◌<◌, ◌≤◌, true, false, List, ◌∷◌, length, get_or, drop, map, refl, sym, ap, ◌∙◌, arith, add-one}
use Rattle.std.specs.List.{list_all}
use Rattle.std.specs.Char.{is_ascii_digit, to_ascii_lowercase}
use Rattle.std.specs.Str.{str_eq_ignore_ascii_case}
use Rattle.std.specs.Str.Parse.{digits_value}
use Rattle.std.proofs.lemmas.Bool.Decides.{nat_tests}
use Rattle.std.proofs.lemmas.Str.Parse.{IsDigitsTest, numerals_by_value, digits_value_short}
use Rattle.std.proofs.lemmas.Slice.Eq.{bytes_eq-Decides}
use Rattle.std.proofs.lemmas.Bool.{false_from_ne_true}
use Rattle.std.proofs.Math.Seq.{drop-cons}
use Rattle.httparse.specs.declared.spans.HeaderSpan.{HeaderSpan}
use Rattle.httparse.specs.Spans.{span_bytes, header_bytes}
use Rattle.http_face.specs.Heard.{values_of}

digits_test : IsDigitsTest (λ ds. list_all is_ascii_digit ds ≡ true)
digits_test = record {
  empty = refl;
  parts = λ c cs h. grind (arith, nat_tests);
  more = λ c cs h t. grind (arith, nat_tests);
}

-- a number of at most k digits
pub digits_below : (ds : List ℕ) (k : ℕ) → list_all is_ascii_digit ds ≡ true → length ds ≤ k →
    digits_value 10 ds < 10 ^ k
digits_below ds k digits short =
    digits_value_short (numerals_by_value (λ xs. list_all is_ascii_digit xs ≡ true) digits_test) ds k digits short

-- names are equal up to case
pub same_name : (a b : List ℕ) → map to_ascii_lowercase a ≡ map to_ascii_lowercase b →
    str_eq_ignore_ascii_case a b ≡ true
same_name a b e = (bytes_eq-Decides (map to_ascii_lowercase a) (map to_ascii_lowercase b)).1 e

pub values-first : (name : List ℕ) (f : List ℕ × List ℕ) (fields : List (List ℕ × List ℕ)) →
    str_eq_ignore_ascii_case f.0 name ≡ true → values_of name (f ∷ fields) ≡ f.1 ∷ values_of name fields
values-first name f fields e = rw e refl

pub values-other : (name : List ℕ) (f : List ℕ × List ℕ) (fields : List (List ℕ × List ℕ)) →
    str_eq_ignore_ascii_case f.0 name ≡ false → values_of name (f ∷ fields) ≡ values_of name fields
values-other name f fields e = rw e refl

other_name : (a b : List ℕ) → (map to_ascii_lowercase a ≡ map to_ascii_lowercase b → ⊥) →
    str_eq_ignore_ascii_case a b ≡ false
other_name a b other =
    false_from_ne_true (str_eq_ignore_ascii_case a b)
    (λ same. other ((bytes_eq-Decides (map to_ascii_lowercase a) (map to_ascii_lowercase b)).0 same))

-- the header at this index has the name
pub values-here : (name buf found : List ℕ) (headers : List HeaderSpan) (i : ℕ) (d : HeaderSpan) →
    i < length headers → found ≡ span_bytes buf (get_or headers i d).name →
    map to_ascii_lowercase found ≡ map to_ascii_lowercase name →
    values_of name (map (header_bytes buf) (drop i headers))
    ≡ span_bytes buf (get_or headers i d).value ∷ values_of name (map (header_bytes buf) (drop (i + 1) headers))
values-here name buf found headers i d low e same =
    let parted : drop i headers ≡ get_or headers i d ∷ drop (i + 1) headers = rw add-one (drop-cons headers i d low) in
    ap (λ (hs : List HeaderSpan). values_of name (map (header_bytes buf) hs)) parted
    ∙ values-first name (header_bytes buf (get_or headers i d)) (map (header_bytes buf) (drop (i + 1) headers))
    (same_name _ name (ap (map to_ascii_lowercase) (sym e) ∙ same))

-- the header at this index has another name
pub values-there : (name buf found : List ℕ) (headers : List HeaderSpan) (i : ℕ) (d : HeaderSpan) →
    i < length headers → found ≡ span_bytes buf (get_or headers i d).name →
    (map to_ascii_lowercase found ≡ map to_ascii_lowercase name → ⊥) →
    values_of name (map (header_bytes buf) (drop i headers))
    ≡ values_of name (map (header_bytes buf) (drop (i + 1) headers))
values-there name buf found headers i d low e other =
    let parted : drop i headers ≡ get_or headers i d ∷ drop (i + 1) headers = rw add-one (drop-cons headers i d low) in
    ap (λ (hs : List HeaderSpan). values_of name (map (header_bytes buf) hs)) parted
    ∙ values-other name (header_bytes buf (get_or headers i d)) (map (header_bytes buf) (drop (i + 1) headers))
    (other_name _ name (λ same. other (ap (map to_ascii_lowercase) e ∙ same)))
