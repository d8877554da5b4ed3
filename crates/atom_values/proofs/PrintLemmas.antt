-- Writes at the end of a buffer's new front, and the text of a stamp that they make.
use Rattle.std.proofs.Common.{◌≡◌, ℕ, suc, ◌+◌, ◌/◌, ◌%◌, ◌<◌, List, [], ◌∷◌, ◌++◌, length, drop, set, get_or, refl}
use Rattle.std.proofs.Common.{sym, ◌∙◌, arith, append_assoc, append-nil, length-append, add-one, ℤ}
use Rattle.std.proofs.lemmas.Bool.Decides.{nat_tests}
use Rattle.std.proofs.lemmas.List.{set_at, take_at, drop_at, drop-drop}
use Rattle.std.proofs.Math.Seq.{drop-cons}
use Rattle.atom_values.specs.Stamp.{since_year_zero, date_text, clock_text, fraction_text, fixed_digits, printed}
use borrow.Rule.Slice.PartMut.{put_mid}

-- one byte more
set_next : (front old : List ℕ) (n byte : ℕ) → length front ≡ n → n < length old →
    set (front ++ drop n old) n byte ≡ (front ++ byte ∷ []) ++ drop (n + 1) old
set_next front old n byte e h =
    rw (drop-cons old n 0, add-one) (set_at front (get_or old n 0) (drop (suc n) old) byte n e
    ∙ sym (append_assoc front (byte ∷ []) (drop (suc n) old)))

-- some bytes more
put_next : (front old text : List ℕ) (n k : ℕ) → length front ≡ n →
    put_mid n k (front ++ drop n old) text ≡ (front ++ text) ++ drop (n + k) old
put_next front old text n k e =
    rw (take_at front (drop n old) n e, drop_at front (drop n old) n e, drop-drop)
    (sym (append_assoc front text (drop (n + k) old)))

-- a date, T and a time in the buffer
front_is : (old date clock : List ℕ) → length old ≡ 24 → length date ≡ 10 →
    put_mid 11 8 (set (date ++ drop 10 old) 10 84) clock ≡ (date ++ 84 ∷ [] ++ clock) ++ drop 19 old
front_is old date clock h k =
    rw (set_next date old 10 84 k (omega arith))
    (put_next (date ++ 84 ∷ []) old clock 11 8 (rw length-append (omega arith)))

pub length-date_text : (day : ℕ) → length (date_text day) ≡ 10
unfolding date_text
length-date_text day = refl

pub length-clock_text : (millis : ℕ) → length (clock_text millis) ≡ 8
unfolding clock_text
length-clock_text millis = refl

pub no_fraction : (millis : ℕ) → millis ≡ 0 → fraction_text millis ≡ []
no_fraction millis e = rw e

pub some_fraction : (millis : ℕ) → 0 < millis → fraction_text millis ≡ 46 ∷ fixed_digits 3 millis
some_fraction millis h = grind (arith, nat_tests)

-- the printed form is at the front, and the bytes after it are unchanged
pub record IsPrinted (z : ℤ) (result : ℕ) (old new : List ℕ) : Type 0 where
  pub length_is : result ≡ length (printed z)
  pub text : new ≡ printed z ++ drop result old

-- the buffer after a date, T and a time
abbrev pub front : List ℕ → List ℕ → List ℕ → List ℕ
front old date clock = put_mid 11 8 (set (date ++ drop 10 old) 10 84) clock

-- with no milliseconds
pub plain_is : (z : ℤ) (n : ℕ) (old date clock : List ℕ) → n ≡ since_year_zero z → length old ≡ 24 →
    date ≡ date_text (n / 86_400_000) → clock ≡ clock_text (n % 86_400_000) → n % 86_400_000 % 1_000 ≡ 0 →
    IsPrinted z 20 old (set (front old date clock) 19 90)
unfolding printed
plain_is z n old date clock same h d e none =
    let ten : length date ≡ 10 = rw d (length-date_text (n / 86_400_000)) in
    let eight : length clock ≡ 8 = rw e (length-clock_text (n % 86_400_000)) in
    let nineteen : length (date ++ 84 ∷ [] ++ clock) ≡ 19 = simp length-append (omega arith) in
    let text : printed z ≡ date ++ 84 ∷ [] ++ clock ++ 90 ∷ [] =
    rw (← same, no_fraction (n % 86_400_000 % 1_000) none, append-nil, ← d, ← e) refl in
    record {
      length_is = rw text (simp length-append (omega arith));
      text = rw (text, front_is old date clock h ten)
          (set_next (date ++ 84 ∷ [] ++ clock) old 19 90 nineteen (omega arith));
    }

-- and with them
pub exact_is : (z : ℤ) (n : ℕ) (old date clock fraction : List ℕ) → n ≡ since_year_zero z → length old ≡ 24 →
    date ≡ date_text (n / 86_400_000) → clock ≡ clock_text (n % 86_400_000) → 0 < n % 86_400_000 % 1_000 →
    fraction ≡ 46 ∷ fixed_digits 3 (n % 86_400_000 % 1_000) →
    IsPrinted z 24 old (set (put_mid 19 4 (front old date clock) fraction) 23 90)
unfolding printed
exact_is z n old date clock fraction same h d e some f =
    let ten : length date ≡ 10 = rw d (length-date_text (n / 86_400_000)) in
    let eight : length clock ≡ 8 = rw e (length-clock_text (n % 86_400_000)) in
    let four : length fraction ≡ 4 = rw f refl in
    let nineteen : length (date ++ 84 ∷ [] ++ clock) ≡ 19 = simp length-append (omega arith) in
    let whole : length (date ++ 84 ∷ [] ++ clock ++ fraction) ≡ 23 = simp length-append (omega arith) in
    let text : printed z ≡ date ++ 84 ∷ [] ++ clock ++ fraction ++ 90 ∷ [] =
    rw (
      ← same,
      some_fraction (n % 86_400_000 % 1_000) some,
      ← f,
      ← d,
      ← e,
      ← append_assoc (date ++ 84 ∷ []) clock fraction,
    ) refl in
    record {
      length_is = rw text (simp length-append (omega arith));
      text = rw (text, front_is old date clock h ten, put_next (date ++ 84 ∷ [] ++ clock) old fraction 19 4 nineteen)
          (set_next (date ++ 84 ∷ [] ++ clock ++ fraction) old 23 90 whole (omega arith));
    }
