-- The value of every date text is what its parts state.
use Rattle.std.proofs.Common.{◌≡◌, ℕ, suc, ◌+◌, ◌-◌, ◌*◌, ◌/◌, ◌%◌, true, false, nat_le, nat_lt, List, [], ◌∷◌, ◌++◌}
use Rattle.std.proofs.Common.{map, length, take, drop, get_or, refl, ap, ◌∙◌, arith, ℤ, pos, neg_ℤ, ◌-ℤ◌, ◌==◌, codes}
use Rattle.std.proofs.Common.{length-append}
use Rattle.std.specs.Char.{is_ascii_digit}
use Rattle.std.specs.List.{list_all}
use Rattle.std.proofs.lemmas.Bool.Decides.{nat_tests}
use Rattle.std.proofs.lemmas.List.{get_or-append_right, take_at, drop_at}
use Rattle.std.proofs.lemmas.Slice.Eq.{bytes_eq-Decides}
use Rattle.atom_values.specs.Calendar.{days_in_month}
use Rattle.atom_values.specs.DateFormula.{is_date, shape_of, has_form, is_date_time, date_time_millis, is_fraction}
use Rattle.atom_values.specs.DateFormula.{fraction_millis, is_offset, offset_length, offset_millis, year_in, month_in}
use Rattle.atom_values.specs.DateFormula.{day_in, hour_in, minute_in, second_in, stamp_at, value_of_parts, value_of}
use Rattle.atom_values.specs.DateFormula.{two_digits}
use Rattle.atom_values.specs.DateText.{digit_at}
use Rattle.atom_values.specs.DateText.{Offset, utc, ahead, behind, offset_text, offset_size, IsOffset, Parts}
use Rattle.atom_values.specs.DateText.{fraction_part, date_time_text, text_of, IsParts, moment_of}
use Rattle.atom_values.proofs.CalendarLemmas.{is_date_parts}
use Rattle.atom_values.proofs.DateFormLemmas.{two_back, four_back, digit_shape, le_test, all_five, days_short}

length-date_time : (p : Parts) → length (date_time_text p) ≡ 19
length-date_time p = refl

date_time_form : (p : Parts) → has_form (date_time_text p) (codes "0000-00-00T00:00:00") ≡ true
date_time_form p =
    (bytes_eq-Decides (map shape_of (date_time_text p)) (codes "0000-00-00T00:00:00")).1 (simp digit_shape)

record IsRead (text : List ℕ) (p : Parts) : Type 0 where
  year : year_in text ≡ p.year
  month : month_in text ≡ p.month
  day : day_in text ≡ p.day
  hour : hour_in text ≡ p.hour
  minute : minute_in text ≡ p.minute
  second : second_in text ≡ p.second

date_time_is : (p : Parts) → IsParts p → IsRead (date_time_text p) p
date_time_is p h = record {
  year = four_back p.year (omega (arith, h.year_in));
  month = two_back p.month (omega (arith, h.month_in));
  day = two_back p.day (omega (arith, h.day_in, days_short p.year p.month));
  hour = two_back p.hour (omega (arith, h.hour_in));
  minute = two_back p.minute (omega (arith, h.minute_in));
  second = two_back p.second (omega (arith, h.second_in));
}

date_time_passes : (text : List ℕ) (p : Parts) → IsParts p → IsRead text p →
    has_form text (codes "0000-00-00T00:00:00") ≡ true → is_date_time text ≡ true
date_time_passes text p h r form =
    let date : is_date (year_in text) (month_in text) (day_in text) ≡ true =
    (is_date_parts (month_in text) (day_in text) (days_in_month (year_in text) (month_in text))).1
    (rw (r.year, r.month, r.day) (h.month_in.0, h.month_in.1, h.day_in.0, h.day_in.1)) in
    all_five (has_form text (codes "0000-00-00T00:00:00")) (is_date (year_in text) (month_in text) (day_in text))
    (nat_le (hour_in text) 23) (nat_le (minute_in text) 59) (nat_le (second_in text) 60)
    form date (le_test (hour_in text) 23 (omega (arith, r.hour, h.hour_in)))
    (le_test (minute_in text) 59 (omega (arith, r.minute, h.minute_in)))
    (le_test (second_in text) 60 (omega (arith, r.second, h.second_in)))

some_digit : (n : ℕ) → nat_lt 0 (suc n) ≡ true
some_digit n = grind (arith, nat_tests)

fraction_passes : (digits : List ℕ) → list_all is_ascii_digit digits ≡ true → is_fraction (fraction_part digits) ≡ true
fraction_passes [] h = refl
fraction_passes (digit ∷ digits) h = rw (some_digit (length digits), h) refl

fraction_is : (digits : List ℕ) →
    fraction_millis (fraction_part digits) ≡ 100 * digit_at digits 0 + 10 * digit_at digits 1 + digit_at digits 2
fraction_is [] = refl
fraction_is (digit ∷ digits) = refl

offset_passes : (offset : Offset) → IsOffset offset → is_offset (offset_text offset) ≡ true
offset_passes utc h = refl
offset_passes (ahead hours minutes) h =
    rw (
      le_test (two_digits (offset_text (ahead hours minutes)) 1) 23
          (omega (arith, h.0, two_back hours (omega (arith, h.0)))),
      le_test (two_digits (offset_text (ahead hours minutes)) 4) 59
          (omega (arith, h.1, two_back minutes (omega (arith, h.1)))),
      digit_shape (hours / 10),
      digit_shape hours,
      digit_shape (minutes / 10),
      digit_shape minutes,
    ) refl
offset_passes (behind hours minutes) h =
    rw (
      le_test (two_digits (offset_text (behind hours minutes)) 1) 23
          (omega (arith, h.0, two_back hours (omega (arith, h.0)))),
      le_test (two_digits (offset_text (behind hours minutes)) 4) 59
          (omega (arith, h.1, two_back minutes (omega (arith, h.1)))),
      digit_shape (hours / 10),
      digit_shape hours,
      digit_shape (minutes / 10),
      digit_shape minutes,
    ) refl

offset_is : (offset : Offset) → IsOffset offset → offset_millis (offset_text offset) ≡ offset_size offset
offset_is utc h = refl
offset_is (ahead hours minutes) h =
    ap pos (omega (arith, two_back hours (omega (arith, h.0)), two_back minutes (omega (arith, h.1))))
offset_is (behind hours minutes) h =
    ap (λ n. neg_ℤ (pos n)) (omega (arith, two_back hours (omega (arith, h.0)), two_back minutes (omega (arith, h.1))))

last_of : (fraction tail : List ℕ) (n : ℕ) → length tail ≡ n + 1 →
    get_or (fraction ++ tail) (length (fraction ++ tail) - 1) 0 ≡ get_or tail n 0
last_of fraction tail n e =
    let long = length-append fraction tail in
    let at : length (fraction ++ tail) - 1 - length fraction ≡ n = omega arith in
    rw at at (get_or-append_right fraction tail (length fraction) (length (fraction ++ tail) - 1) 0 refl (omega arith))

no_z : (n : ℕ) → (48 + n % 10 == 90) ≡ false
no_z n = grind (arith, nat_tests)

length_of_offset : (fraction : List ℕ) (offset : Offset) →
    offset_length (fraction ++ offset_text offset) ≡ length (offset_text offset)
length_of_offset fraction utc = rw (last_of fraction (90 ∷ []) 0 refl) refl
length_of_offset fraction (ahead hours minutes) =
    rw (last_of fraction (offset_text (ahead hours minutes)) 5 refl, no_z minutes) refl
length_of_offset fraction (behind hours minutes) =
    rw (last_of fraction (offset_text (behind hours minutes)) 5 refl, no_z minutes) refl

split_offset : (fraction : List ℕ) (offset : Offset) →
    (take (length (fraction ++ offset_text offset) - offset_length (fraction ++ offset_text offset))
    (fraction ++ offset_text offset) ≡ fraction)
    × (drop (length (fraction ++ offset_text offset) - offset_length (fraction ++ offset_text offset))
    (fraction ++ offset_text offset) ≡ offset_text offset)
split_offset fraction offset =
    let before : length (fraction ++ offset_text offset) - offset_length (fraction ++ offset_text offset)
    ≡ length fraction =
    omega (arith, length_of_offset fraction offset, length-append fraction (offset_text offset)) in (
      rw before (take_at fraction (offset_text offset) (length fraction) refl),
      rw before (drop_at fraction (offset_text offset) (length fraction) refl),
    )

value_of_split : (text fraction : List ℕ) (offset : Offset) → length text ≡ 19 →
    value_of (text ++ (fraction ++ offset_text offset)) ≡ value_of_parts text fraction (offset_text offset)
unfolding value_of
value_of_split text fraction offset h =
    let split = split_offset fraction offset in
    rw (
      take_at text (fraction ++ offset_text offset) 19 h,
      drop_at text (fraction ++ offset_text offset) 19 h,
      split.0,
      split.1,
    ) refl

value_of_parts_is : (text fraction offset : List ℕ) (z : ℤ) → is_date_time text ≡ true → is_fraction fraction ≡ true →
    is_offset offset ≡ true →
    pos (date_time_millis text + fraction_millis fraction) -ℤ pos 62_167_219_200_000 -ℤ offset_millis offset ≡ z →
    value_of_parts text fraction offset ≡ stamp_at z
unfolding value_of_parts
value_of_parts_is text fraction offset z a b c e = rw (a, b, c, e) refl

moment_is : (text : List ℕ) (p : Parts) → IsParts p → IsRead text p →
    pos (date_time_millis text + fraction_millis (fraction_part p.fraction)) -ℤ pos 62_167_219_200_000 -ℤ offset_millis
    (offset_text p.offset) ≡ moment_of p
unfolding moment_of
moment_is text p h r =
    rw (offset_is p.offset h.offset_in, fraction_is p.fraction, r.year, r.month, r.day, r.hour, r.minute, r.second) refl

pub value_of-text_of : (p : Parts) → IsParts p → value_of (text_of p) ≡ stamp_at (moment_of p)
unfolding text_of
value_of-text_of p h =
    let read = date_time_is p h in
    value_of_split (date_time_text p) (fraction_part p.fraction) p.offset refl
    ∙ value_of_parts_is (date_time_text p) (fraction_part p.fraction) (offset_text p.offset) (moment_of p)
    (date_time_passes (date_time_text p) p h read (date_time_form p)) (fraction_passes p.fraction h.digits)
    (offset_passes p.offset h.offset_in)
    (moment_is (date_time_text p) p h read)
