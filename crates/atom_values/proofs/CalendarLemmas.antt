-- The day of a date of the years 0 to 9999, and that its parts are read back from it.
use Rattle.std.proofs.Common.{◌&&◌, true, ◌*◌, ◌↔◌, ◌-ℤ◌, ◌*ℤ◌, int_div, ◌≡◌, ℕ, zero, suc, ◌+◌, ◌-◌, ◌<◌, ◌≤◌, nat_le}
use Rattle.std.proofs.Common.{get_or, refl, sym, ap, ◌∙◌, arith, ℤ, pos, negsuc, ◌+ℤ◌}
use Rattle.std.specs.List.{range_with_len, prefix_len}
use Rattle.std.proofs.lemmas.Bool.Decides.{nat_tests}
use Rattle.std.proofs.lemmas.List.FromFn.{get_or-range_with_len, length-range_with_len}
use Rattle.std.proofs.lemmas.List.Sums.{prefix_len_is}
use Rattle.jiff_core.specs.declared.civil.date.Date.{Date}
use Rattle.jiff_core.specs.Calendar.{days_of_years, days_of_months, day_count, days_from_civil, IsCivilDate}
use Rattle.jiff_core.specs.Date.{epoch_day, IsYmd}
use Rattle.jiff_core.proofs.SignedLemmas.{signed_arith}
use Rattle.jiff_core.proofs.MarchLemmas.{leap_day, leap_day-shift, days_of_years-suc, days_of_years-march_days}
use Rattle.jiff_core.proofs.MarchLemmas.{days_in_year-leap_day}
use Rattle.jiff_core.proofs.CalendarLemmas.{days_of_months-zero, days_of_months_more, days_of_months_all}
use Rattle.jiff_core.proofs.CalendarLemmas.{days_of_months_mono, day_of_year_bound, day_of_year_before}
use Rattle.jiff_core.proofs.CalendarLemmas.{days_from_civil-day_count, day_count-lt_year}
use Rattle.jiff_core.proofs.DateLemmas.{civil}
use Rattle.atom_values.specs.Calendar.{days_before_year, days_before_month, days_in_month, day_number, year_of}
use Rattle.atom_values.specs.Calendar.{month_of, day_of}
use Rattle.atom_values.specs.DateFormula.{is_date}

days_before_year-suc : (y : ℕ) → days_before_year (suc y) ≡ days_before_year y + 365 + leap_day (pos y)
unfolding days_before_year
days_before_year-suc y = grind (arith, nat_tests)

pub days_before_year-zero : days_before_year 0 ≡ 0
unfolding days_before_year
days_before_year-zero = refl

days_before_year-add : (y k : ℕ) → days_before_year y ≤ days_before_year (k + y)
days_before_year-add y zero = let same : 0 + y ≡ y = omega arith in rw same (omega arith)
days_before_year-add y (suc k) =
    let next : suc k + y ≡ suc (k + y) = omega arith in
    rw next (omega (arith, days_before_year-add y k, days_before_year-suc (k + y)))

days_before_year_mono : (y later : ℕ) → y ≤ later → days_before_year y ≤ days_before_year later
days_before_year_mono y later h =
    let same : later - y + y ≡ later = omega arith in
    rw same at (days_before_year-add y (later - y))

-- the years from -10000 to -1 have 3652425 days
days_of_years-before_year : (y : ℕ) → days_of_years (y + 10000) ≡ days_before_year y + 3_652_425
days_of_years-before_year zero = omega (arith, days_of_years-march_days 10000, days_before_year-zero)
days_of_years-before_year (suc y) =
    let next : suc y + 10000 ≡ suc (y + 10000) = omega arith in
    rw next (omega (
      arith,
      days_of_years-before_year y,
      days_of_years-suc (y + 10000),
      days_before_year-suc y,
      leap_day-shift (pos y) (y + 10000) refl,
    ))

days_before_month_is : (y n : ℕ) → n < 12 → days_before_month y (suc n) ≡ days_of_months (pos y) n
unfolding days_before_month days_of_months
days_before_month_is y zero h = refl
days_before_month_is y (suc zero) h = refl
days_before_month_is y (suc (suc zero)) h = refl
days_before_month_is y (suc (suc (suc zero))) h = refl
days_before_month_is y (suc (suc (suc (suc zero)))) h = refl
days_before_month_is y (suc (suc (suc (suc (suc zero))))) h = refl
days_before_month_is y (suc (suc (suc (suc (suc (suc zero)))))) h = refl
days_before_month_is y (suc (suc (suc (suc (suc (suc (suc zero))))))) h = refl
days_before_month_is y (suc (suc (suc (suc (suc (suc (suc (suc zero)))))))) h = refl
days_before_month_is y (suc (suc (suc (suc (suc (suc (suc (suc (suc zero))))))))) h = refl
days_before_month_is y (suc (suc (suc (suc (suc (suc (suc (suc (suc (suc zero)))))))))) h = refl
days_before_month_is y (suc (suc (suc (suc (suc (suc (suc (suc (suc (suc (suc zero))))))))))) h = refl
days_before_month_is y (suc (suc (suc (suc (suc (suc (suc (suc (suc (suc (suc (suc n)))))))))))) h =
    absurd (omega arith)

-- a date's day, by its place in its year
day_number-day_of_year : (y m d : ℕ) → 1 ≤ m → m ≤ 12 →
    day_number y m d ≡ days_before_year y + (days_of_months (pos y) (m - 1) + (d - 1))
unfolding day_number
day_number-day_of_year y zero d low high = absurd (omega arith)
day_number-day_of_year y (suc n) d low high =
    let back : suc n - 1 ≡ n = omega arith in
    rw (back, days_before_month_is y n (omega arith)) (omega arith)

-- the day of a date of these years is jiff's day number, counted from year 0
pub day_number_is : (y m d : ℕ) → 1 ≤ m → m ≤ 12 → 1 ≤ d →
    days_from_civil (pos y) m d +ℤ pos 719_528 ≡ pos (day_number y m d)
unfolding day_count
day_number_is y m d low high first =
    omega (
      arith,
      signed_arith,
      days_from_civil-day_count (pos y) m d,
      day_number-day_of_year y m d low high,
      days_of_years-before_year y,
    )

-- a day of a year lies before the next year, and one of a month before each later month
day_number-lt-next_year : (y m d : ℕ) → IsCivilDate (pos y) m d → day_number y m d < days_before_year (y + 1)
day_number-lt-next_year y m d h =
    let next : y + 1 ≡ suc y = omega arith in
    rw next (omega (
      arith,
      day_number-day_of_year y m d h.1.0 h.1.1,
      day_of_year_bound (pos y) m d h,
      days_in_year-leap_day (pos y),
      days_before_year-suc y,
    ))

pub year_of-day_number : (y m d : ℕ) → IsCivilDate (pos y) m d → y ≤ 9999 → year_of (day_number y m d) ≡ y
unfolding year_of
year_of-day_number y m d h bound =
    let start = day_number-day_of_year y m d h.1.0 h.1.1 in
    let after = day_number-lt-next_year y m d h in
    prefix_len_is (λ j. nat_le (days_before_year (j + 1)) (day_number y m d)) (range_with_len 0 9999) y 0
    (rw length-range_with_len bound)
    (λ k lt.
    let at : get_or (range_with_len 0 9999) k 0 ≡ k = get_or-range_with_len 0 9999 k 0 (omega arith) ∙ omega arith in
    let le : days_before_year (k + 1) ≤ day_number y m d =
    omega (arith, days_before_year_mono (k + 1) y (omega arith)) in
    rw at (grind (arith, nat_tests)))
    (λ more.
    let at : get_or (range_with_len 0 9999) y 0 ≡ y =
    get_or-range_with_len 0 9999 y 0 (omega (arith, length-range_with_len 0 9999)) ∙ omega arith in
    rw at (grind (arith, nat_tests)))

first_of_month-le : (y m d k : ℕ) → IsCivilDate (pos y) m d → k < m - 1 → day_number y (1 + k + 1) 1 ≤ day_number y m d
first_of_month-le y m d k h lt =
    let back : 1 + k + 1 - 1 ≡ k + 1 = omega arith in
    omega (
      arith,
      rw back at (day_number-day_of_year y (1 + k + 1) 1 (omega arith) (omega arith)),
      day_number-day_of_year y m d h.1.0 h.1.1,
      days_of_months_mono (pos y) (k + 1) (m - 1) (omega arith),
    )

day_number-lt-next_month : (y m d : ℕ) → IsCivilDate (pos y) m d → m < 12 → day_number y m d < day_number y (m + 1) 1
day_number-lt-next_month y m d h lt =
    let back : m + 1 - 1 ≡ m = omega arith in
    omega (
      arith,
      rw back at (day_number-day_of_year y (m + 1) 1 (omega arith) (omega arith)),
      day_number-day_of_year y m d h.1.0 h.1.1,
      day_of_year_before (pos y) m d m h.1.0 h.2.1 (omega arith),
    )

months_over : (y m d : ℕ) → IsCivilDate (pos y) m d →
    prefix_len (λ j. nat_le (day_number y (j + 1) 1) (day_number y m d)) (range_with_len 1 11) ≡ m - 1
months_over y m d h =
    prefix_len_is (λ j. nat_le (day_number y (j + 1) 1) (day_number y m d)) (range_with_len 1 11) (m - 1) 0
    (rw length-range_with_len (omega arith))
    (λ k lt.
    let at : get_or (range_with_len 1 11) k 0 ≡ 1 + k = get_or-range_with_len 1 11 k 0 (omega arith) in
    let le = first_of_month-le y m d k h lt in
    rw at (grind (arith, nat_tests)))
    (λ more.
    let some : m < 12 = omega (arith, length-range_with_len 1 11) in
    let at : get_or (range_with_len 1 11) (m - 1) 0 ≡ m = get_or-range_with_len 1 11 (m - 1) 0 (omega arith)
    ∙ omega arith in
    let after = day_number-lt-next_month y m d h some in
    rw at (grind (arith, nat_tests)))

pub month_of-day_number : (y m d : ℕ) → IsCivilDate (pos y) m d → y ≤ 9999 → month_of (day_number y m d) ≡ m
unfolding month_of
month_of-day_number y m d h bound =
    rw (year_of-day_number y m d h bound) (omega (arith, months_over y m d h))

pub day_of-day_number : (y m d : ℕ) → IsCivilDate (pos y) m d → y ≤ 9999 → day_of (day_number y m d) ≡ d
unfolding day_of
day_of-day_number y m d h bound =
    rw (year_of-day_number y m d h bound, month_of-day_number y m d h bound)
    (omega (arith, day_number-day_of_year y m d h.1.0 h.1.1, day_number-day_of_year y m 1 h.1.0 h.1.1))

first_day : days_from_civil (pos 0) 1 1 +ℤ pos 719_528 ≡ pos 0
unfolding day_number days_before_year days_before_month
first_day = day_number_is 0 1 1 (omega arith) (omega arith) (omega arith)

-- a date has the parts of its day
pub record IsDateOfDay (date : Date) (day : ℕ) : Type 0 where
  pub year : date.year ≡ pos (year_of day)
  pub month : date.month ≡ month_of day
  pub day_of_month : date.day ≡ day_of day

date_of_day_at : (date : Date) (day : ℕ) (z : ℤ) → date.year ≡ z →
    epoch_day date ≡ days_from_civil (pos 0) 1 1 +ℤ pos day → IsDateOfDay date day
date_of_day_at date day (pos y) is e =
    let h : IsCivilDate (pos y) date.month date.day = rw is at (civil date) in
    let same : day_number y date.month date.day ≡ day =
    omega (arith, signed_arith, rw is at e, first_day, day_number_is y date.month date.day h.1.0 h.1.1 h.2.0) in
    let bound : y ≤ 9999 = omega (arith, signed_arith, h.0) in
    record {
      year = is ∙ ap pos (sym (rw same at (year_of-day_number y date.month date.day h bound)));
      month = sym (rw same at (month_of-day_number y date.month date.day h bound));
      day_of_month = sym (rw same at (day_of-day_number y date.month date.day h bound));
    }
date_of_day_at date day (negsuc n) is e =
    let h : IsCivilDate (negsuc n) date.month date.day = rw is at (civil date) in
    absurd (omega (
      arith,
      signed_arith,
      rw is at e,
      days_from_civil-day_count (negsuc n) date.month date.day,
      days_from_civil-day_count (pos 0) 1 1,
      day_count-lt_year (negsuc n) date.month date.day (pos 0) 1 1 h
          (omega arith) (omega (arith, signed_arith)),
    ))

-- by jiff, 0000-01-01 is 719,528 days before 1970-01-01
pub first_is : (first : Date) → IsYmd (pos 0) (pos 1) (pos 1) first → epoch_day first +ℤ pos 719_528 ≡ pos 0
first_is first h =
    let month : first.month ≡ 1 = omega (arith, signed_arith, h.1) in
    let day : first.day ≡ 1 = omega (arith, signed_arith, h.2) in
    rw (h.0, month, day) first_day

-- the date of a number of days after 0000-01-01
pub date_of_day : (first date : Date) (day : ℕ) → IsYmd (pos 0) (pos 1) (pos 1) first →
    epoch_day date ≡ epoch_day first +ℤ pos day → IsDateOfDay date day
date_of_day first date day h e =
    date_of_day_at date day date.year refl (omega (arith, signed_arith, first_is first h, first_day, e))

pub is_date_parts : (m d last : ℕ) →
    ((nat_le 1 m && nat_le m 12 && nat_le 1 d && nat_le d last) ≡ true) ↔ ((1 ≤ m) × (m ≤ 12) × (1 ≤ d) × (d ≤ last))
is_date_parts m d last = (λ h. grind (arith, nat_tests), λ h. grind (arith, nat_tests))

pub is_date_civil : (y m d : ℕ) → IsCivilDate (pos y) m d → is_date y m d ≡ true
is_date_civil y m d h = (is_date_parts m d (days_in_month y m)).1 (h.1.0, h.1.1, h.2.0, h.2.1)

pub civil_date : (date : Date) (y m d : ℕ) → IsYmd (pos y) (pos m) (pos d) date → IsCivilDate (pos y) m d
civil_date date y m d h =
    let month : date.month ≡ m = omega (arith, signed_arith, h.1) in
    let day : date.day ≡ d = omega (arith, signed_arith, h.2) in
    rw (h.0, month, day) at (civil date)

-- the seconds that jiff counts from 0000-01-01 to a date
pub date_seconds : (date first : Date) (y m d : ℕ) (nanos : ℤ) → IsYmd (pos y) (pos m) (pos d) date →
    IsYmd (pos 0) (pos 1) (pos 1) first → nanos ≡ (epoch_day date -ℤ epoch_day first) *ℤ pos 86_400_000_000_000 →
    int_div nanos (pos 1_000_000_000) ≡ pos (86_400 * day_number y m d)
date_seconds date first y m d nanos h k e =
    let month : date.month ≡ m = omega (arith, signed_arith, h.1) in
    let day : date.day ≡ d = omega (arith, signed_arith, h.2) in
    let at : epoch_day date +ℤ pos 719_528 ≡ pos (day_number y m d) =
    rw (h.0, month, day) (day_number_is y m d (omega (arith, date.month_in)) (omega (arith, date.month_in))
    (omega (arith, date.day_in))) in
    let start = first_is first k in
    let whole : nanos ≡ pos (86_400_000_000_000 * day_number y m d) = omega (arith, signed_arith) in
    rw whole (ap pos (omega arith))

-- a date of these years lies before the year 10000
pub day_number-lt : (y m d : ℕ) → IsCivilDate (pos y) m d → y ≤ 9999 → day_number y m d < 3_652_425
unfolding days_before_year
day_number-lt y m d h bound =
    omega (arith, day_number-lt-next_year y m d h, days_before_year_mono (y + 1) 10000 (omega arith))

-- the first day of a year's months, and of the next year
pub day_number-first : (y : ℕ) → day_number y 1 1 ≡ days_before_year y
day_number-first y = omega (
  arith,
  day_number-day_of_year y 1 1 (omega arith) (omega arith),
  days_of_months-zero (pos y),
)

pub days_before_year-end : days_before_year 10000 ≡ 3_652_425
unfolding days_before_year
days_before_year-end = refl

pub day_number-next_month : (y m : ℕ) → 1 ≤ m → m < 12 → day_number y (m + 1) 1 ≡ day_number y m 1 + days_in_month y m
day_number-next_month y m low high =
    let back : m + 1 - 1 ≡ m = omega arith in
    omega (
      arith,
      rw back at (day_number-day_of_year y (m + 1) 1 (omega arith) (omega arith)),
      day_number-day_of_year y m 1 low (omega arith),
      days_of_months_more (pos y) m low,
    )

pub day_number-next_year : (y : ℕ) → days_before_year (y + 1) ≡ day_number y 12 1 + 31
day_number-next_year y =
    let next : y + 1 ≡ suc y = omega arith in
    rw next (omega (
      arith,
      day_number-day_of_year y 12 1 (omega arith) (omega arith),
      days_of_months_more (pos y) 12 (omega arith),
      days_of_months_all (pos y),
      days_in_year-leap_day (pos y),
      days_before_year-suc y,
    ))

pub day_number-day : (y m d : ℕ) → day_number y m d ≡ day_number y m 1 + (d - 1)
unfolding day_number
day_number-day y m d = omega arith
