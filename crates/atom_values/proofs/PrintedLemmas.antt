-- The printed form of a stamp states it.
use Rattle.std.proofs.Common.{◌≡◌, ℕ, zero, suc, ◌+◌, ◌-◌, ◌*◌, ◌/◌, ◌%◌, ◌<◌, ◌≤◌, inl, inr, Bool, true, false, nat_le}
use Rattle.std.proofs.Common.{List, [], ◌∷◌, ◌++◌, refl, sym, arith, ℤ, pos, negsuc, unsigned_abs, ◌≤ℤ◌, ◌+ℤ◌, ◌-ℤ◌}
use Rattle.std.proofs.Common.{append_assoc, ap, ◌∙◌, min}
use Rattle.std.specs.Char.{is_ascii_digit}
use Rattle.std.specs.List.{range_with_len, prefix_len, list_all}
use Rattle.std.proofs.lemmas.Bool.{cases_lt}
use Rattle.std.proofs.lemmas.Bool.Decides.{nat_tests}
use Rattle.std.proofs.lemmas.List.FromFn.{get_or-range_with_len, length-range_with_len}
use Rattle.std.proofs.lemmas.List.Sums.{prefix_len_passes, prefix_len_stops, prefix_len-le-length}
use Rattle.jiff_core.proofs.SignedLemmas.{signed_arith}
use Rattle.atom_values.specs.Ascii.{upper_t, upper_z}
use Rattle.atom_values.specs.Calendar.{days_before_year, day_number, days_in_month, year_of, month_of, day_of}
use Rattle.atom_values.specs.DateText.{utc, Parts, IsParts, States, date_time_text, digit_at, fraction_part, moment_of}
use Rattle.atom_values.specs.DateText.{text_of}
use Rattle.atom_values.specs.Stamp.{IsStamp, millis_before_1970, since_year_zero, date_text, clock_text, fixed_digits}
use Rattle.atom_values.specs.Stamp.{fraction_text, printed}
use Rattle.atom_values.proofs.CalendarLemmas.{days_before_year-zero, days_before_year-end, day_number-first}
use Rattle.atom_values.proofs.CalendarLemmas.{day_number-next_month, day_number-next_year, day_number-day}
use Rattle.atom_values.proofs.DateFormLemmas.{le_tested}
use Rattle.atom_values.proofs.PrintLemmas.{no_fraction, some_fraction}

lt_tested : (m n : ℕ) → nat_le m n ≡ false → n < m
lt_tested m n h = grind (arith, nat_tests)

-- a front of the numbers from `first` on that pass a test
passes : (p : ℕ → Bool) (first many k : ℕ) → k < prefix_len p (range_with_len first many) → p (first + k) ≡ true
passes p first many k h =
    let within : k < many =
    omega (arith, prefix_len-le-length p (range_with_len first many), length-range_with_len first many) in
    rw (get_or-range_with_len first many k 0 within) at (prefix_len_passes p (range_with_len first many) k 0 h)

stops : (p : ℕ → Bool) (first many n : ℕ) → n ≡ prefix_len p (range_with_len first many) → n < many →
    p (first + n) ≡ false
stops p first many n e h =
    let stop = rw (← e) at
    (prefix_len_stops p (range_with_len first many) 0 (omega (arith, length-range_with_len first many))) in
    rw (get_or-range_with_len first many n 0 h) at stop

at_most : (p : ℕ → Bool) (first many : ℕ) → prefix_len p (range_with_len first many) ≤ many
at_most p first many =
    omega (arith, prefix_len-le-length p (range_with_len first many), length-range_with_len first many)

abbrev year_over : ℕ → ℕ → Bool
year_over day y = nat_le (days_before_year (y + 1)) day

year_bound : (day : ℕ) → year_of day ≤ 9999
unfolding year_of
year_bound day = at_most (year_over day) 0 9999

-- a day lies in its year
year_start : (day n : ℕ) → n ≡ year_of day → days_before_year n ≤ day
unfolding year_of
year_start day zero e = omega (arith, days_before_year-zero)
year_start day (suc k) e =
    let at : 0 + k + 1 ≡ suc k = omega arith in
    rw at at (le_tested (days_before_year (0 + k + 1)) day (passes (year_over day) 0 9999 k (omega arith)))

year_end_by : (day n : ℕ) → n ≡ year_of day → n < 9999 → day < days_before_year (n + 1)
unfolding year_of
year_end_by day n e h =
    let at : 0 + n + 1 ≡ n + 1 = omega arith in
    rw at at (lt_tested (days_before_year (0 + n + 1)) day (stops (year_over day) 0 9999 n e h))

year_end : (day : ℕ) → day < 3_652_425 → day < days_before_year (year_of day + 1)
year_end day h =
    elim (cases_lt (year_of day) 9999) [
      | inl some ↦ year_end_by day (year_of day) refl some
      | inr all ↦
          let at : year_of day ≡ 9999 = omega (arith, year_bound day) in
          rw at (omega (arith, days_before_year-end))
    ]

-- and in its month
abbrev month_over : ℕ → ℕ → Bool
month_over day m = nat_le (day_number (year_of day) (m + 1) 1) day

months_over : ℕ → ℕ
months_over day = prefix_len (month_over day) (range_with_len 1 11)

month_of_is : (day : ℕ) → month_of day ≡ 1 + months_over day
unfolding month_of months_over
month_of_is day = refl

months_bound : (day : ℕ) → months_over day ≤ 11
unfolding months_over
months_bound day = at_most (month_over day) 1 11

month_start : (day n : ℕ) → n ≡ months_over day → day_number (year_of day) (1 + n) 1 ≤ day
unfolding months_over
month_start day zero e = omega (arith, day_number-first (year_of day), year_start day (year_of day) refl)
month_start day (suc k) e =
    let at : 1 + k + 1 ≡ 1 + suc k = omega arith in
    rw at at (le_tested (day_number (year_of day) (1 + k + 1) 1) day (passes (month_over day) 1 11 k (omega arith)))

month_end : (day n : ℕ) → n ≡ months_over day → n < 11 → day < day_number (year_of day) (1 + n + 1) 1
unfolding months_over
month_end day n e h =
    lt_tested (day_number (year_of day) (1 + n + 1) 1) day (stops (month_over day) 1 11 n e h)

-- the parts of a day are those of a date, and lead back to it
pub record IsDayOfDate (day : ℕ) : Type 0 where
  pub year_in : year_of day ≤ 9999
  pub month_in : (1 ≤ month_of day) × (month_of day ≤ 12)
  pub day_in : (1 ≤ day_of day) × (day_of day ≤ days_in_month (year_of day) (month_of day))
  pub back : day_number (year_of day) (month_of day) (day_of day) ≡ day

day_of_is : (day : ℕ) → day_of day ≡ day + 1 - day_number (year_of day) (month_of day) 1
unfolding day_of
day_of_is day = refl

day_bound : (day y m : ℕ) → 1 ≤ m → m ≤ 12 → (m < 12 → day < day_number y (m + 1) 1) → day < days_before_year (y + 1) →
    day + 1 - day_number y m 1 ≤ days_in_month y m
day_bound day y m low high next end =
    elim (cases_lt m 12) [
      | inl some ↦ omega (arith, next some, day_number-next_month y m low some)
      | inr all ↦
          let last : m ≡ 12 = omega arith in
          rw last (omega (arith, day_number-next_year y))
    ]

day_in_month : (day : ℕ) → day < 3_652_425 → day_of day ≤ days_in_month (year_of day) (month_of day)
day_in_month day h =
    let next : month_of day < 12 → day < day_number (year_of day) (month_of day + 1) 1 =
    λ lt. rw month_of_is (month_end day (months_over day) refl (omega (arith, month_of_is day))) in
    rw day_of_is (day_bound day (year_of day) (month_of day) (omega (arith, month_of_is day))
    (omega (arith, month_of_is day, months_bound day)) next (year_end day h))

day_of_date : (day : ℕ) → day < 3_652_425 → IsDayOfDate day
day_of_date day h =
    let start : day_number (year_of day) (month_of day) 1 ≤ day =
    rw month_of_is (month_start day (months_over day) refl) in
    record {
      year_in = year_bound day;
      month_in = omega (arith, month_of_is day, months_bound day);
      day_in = (omega (arith, day_of_is day), day_in_month day h);
      back = omega (arith, day_of_is day, day_number-day (year_of day) (month_of day) (day_of day));
    }

-- the text before the fraction
abbrev front : ℕ → ℕ → List ℕ
front day millis = date_text day ++ upper_t ∷ [] ++ clock_text millis

-- the digits of a fraction
record IsFraction (millis : ℕ) : Type 0 where
  digits : List ℕ
  part : fraction_part digits ≡ fraction_text millis
  value : 100 * digit_at digits 0 + 10 * digit_at digits 1 + digit_at digits 2 ≡ millis
  all : list_all is_ascii_digit digits ≡ true

digit_test : (n : ℕ) → is_ascii_digit (48 + n % 10) ≡ true
digit_test n = grind (arith, nat_tests)

fraction_of : (millis : ℕ) → millis < 1_000 → IsFraction millis
fraction_of millis h =
    elim (cases_lt 0 millis) [
      | inl some ↦
          record {
            digits = fixed_digits 3 millis;
            part = sym (some_fraction millis some);
            value = omega arith;
            all = simp digit_test;
          }
      | inr none ↦
          let zero_is : millis ≡ 0 = omega arith in
          record { digits = []; part = sym (no_fraction millis zero_is); value = omega arith; all = refl }
    ]

-- the parts of a printed form
abbrev parts_of : ℕ → ℕ → List ℕ → Parts
parts_of day millis digits = record {
  year = year_of day;
  month = month_of day;
  day = day_of day;
  hour = millis / 3_600_000;
  minute = millis / 60_000 % 60;
  second = millis / 1_000 % 60;
  fraction = digits;
  offset = utc;
}

parts_are : (day millis : ℕ) → IsDayOfDate day → millis < 86_400_000 → (f : IsFraction (millis % 1_000)) →
    IsParts (parts_of day millis f.digits)
parts_are day millis date h f = record {
  year_in = date.year_in;
  month_in = date.month_in;
  day_in = date.day_in;
  hour_in = omega arith;
  minute_in = omega arith;
  second_in = omega arith;
  digits = f.all;
  offset_in = tt;
}

front_is : (day millis : ℕ) (digits : List ℕ) → front day millis ≡ date_time_text (parts_of day millis digits)
unfolding date_text clock_text
front_is day millis digits = refl

regroup : (a b c d : List ℕ) → (a ++ (b ++ c)) ++ d ≡ (a ++ b) ++ (c ++ d)
regroup a b c d = rw (← append_assoc a b c) (append_assoc (a ++ b) c d)

text_is : (z : ℤ) (n : ℕ) → n ≡ since_year_zero z → (f : IsFraction (n % 86_400_000 % 1_000)) →
    printed z ≡ text_of (parts_of (n / 86_400_000) (n % 86_400_000) f.digits)
unfolding printed text_of
text_is z n e f =
    let day = n / 86_400_000 in
    let millis = n % 86_400_000 in
    let digits = f.digits in
    rw (← e)
    (regroup (date_text day ++ upper_t ∷ []) (clock_text millis) (fraction_text (millis % 1_000)) (upper_z ∷ [])
    ∙ ap (λ xs. xs ++ (fraction_text (millis % 1_000) ++ upper_z ∷ [])) (front_is day millis digits)
    ∙ ap (λ xs. date_time_text (parts_of day millis digits) ++ (xs ++ upper_z ∷ [])) (sym f.part))

unsigned_back : (z : ℤ) → pos 0 ≤ℤ z → z ≡ pos (unsigned_abs z)
unsigned_back (pos n) h = refl
unsigned_back (negsuc n) h = absurd (omega (arith, signed_arith))

-- the milliseconds since year 0
since_is : (z : ℤ) → IsStamp z →
    (z +ℤ pos millis_before_1970 ≡ pos (since_year_zero z)) × (since_year_zero z < 315_569_520_000_000)
since_is z h =
    let same = unsigned_back (z +ℤ pos millis_before_1970) (omega (arith, signed_arith)) in
    (same, omega (arith, signed_arith))

back : (z : ℤ) (total before : ℕ) → z +ℤ pos before ≡ pos total → pos total -ℤ pos before -ℤ pos 0 ≡ z
back z total before e = omega (arith, signed_arith)

moment_is : (z : ℤ) (day millis : ℕ) → IsDayOfDate day → millis < 86_400_000 →
    z +ℤ pos millis_before_1970 ≡ pos (86_400_000 * day + millis) → (f : IsFraction (millis % 1_000)) →
    moment_of (parts_of day millis f.digits) ≡ z
unfolding moment_of
moment_is z day millis date h e f =
    let d = f.digits in
    let total : 86_400_000 * day_number (year_of day) (month_of day) (day_of day) + 3_600_000 * (millis / 3_600_000)
    + 60_000 * (millis / 60_000 % 60) + 1_000 * min (millis / 1_000 % 60) 59
    + (100 * digit_at d 0 + 10 * digit_at d 1 + digit_at d 2) ≡ 86_400_000 * day + millis =
    rw date.back (omega (arith, f.value)) in
    ap (λ t. pos t -ℤ pos millis_before_1970 -ℤ pos 0) total ∙ back z (86_400_000 * day + millis) millis_before_1970 e

-- the printed form of a stamp states it
pub printed-states : (z : ℤ) → IsStamp z → States (printed z) z
printed-states z h =
    let n = since_year_zero z in
    let since = since_is z h in
    let day = n / 86_400_000 in
    let millis = n % 86_400_000 in
    let date = day_of_date day (omega arith) in
    let within : millis < 86_400_000 = omega arith in
    let fraction = fraction_of (millis % 1_000) (omega arith) in
    let whole : z +ℤ pos millis_before_1970 ≡ pos (86_400_000 * day + millis) = omega
    (arith, signed_arith, since.0) in (
      parts_of day millis fraction.digits,
      parts_are day millis date within fraction,
      text_is z n refl fraction,
      moment_is z day millis date within whole fraction,
      h,
    )
