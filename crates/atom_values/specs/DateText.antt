-- The date texts of RFC 3339 section 5.6, with upper-case T and Z, and the timestamp that each states.
use Rattle.std.specs.Char.{is_ascii_digit}
use Rattle.std.specs.List.{list_all}
use Rattle.std.specs.Prelude.{◌≡◌, ℕ, ◌+◌, ◌-◌, ◌*◌, ◌≤◌, min, true, List, [], ◌∷◌, ◌++◌, ℤ, pos, neg_ℤ, ◌-ℤ◌, codes}
use Rattle.std.specs.Prelude.{slice_index}
use Rattle.atom_values.specs.Ascii.{plus, minus, point, digit_zero, colon, upper_t}
use Rattle.atom_values.specs.Calendar.{day_number, days_in_month}
use Rattle.atom_values.specs.Stamp.{IsStamp, fixed_digits, millis_before_1970}

-- Z, or the hours and minutes that the clock is ahead of UTC or behind it
pub data Offset : Type 0 where
  utc : Offset
  ahead : ℕ → ℕ → Offset
  behind : ℕ → ℕ → Offset

abbrev pub hours_minutes : ℕ → ℕ → List ℕ
hours_minutes hours minutes = fixed_digits 2 hours ++ colon ∷ [] ++ fixed_digits 2 minutes

abbrev pub offset_text : Offset → List ℕ
offset_text utc = codes "Z"
offset_text (ahead hours minutes) = plus ∷ hours_minutes hours minutes
offset_text (behind hours minutes) = minus ∷ hours_minutes hours minutes

-- the milliseconds that the clock is ahead of UTC
abbrev pub offset_size : Offset → ℤ
offset_size utc = pos 0
offset_size (ahead hours minutes) = pos (3_600_000 * hours + 60_000 * minutes)
offset_size (behind hours minutes) = neg_ℤ (pos (3_600_000 * hours + 60_000 * minutes))

abbrev pub IsOffset : Offset → Type 0
IsOffset utc = Unit {0}
IsOffset (ahead hours minutes) = (hours ≤ 23) × (minutes ≤ 59)
IsOffset (behind hours minutes) = (hours ≤ 23) × (minutes ≤ 59)

-- the parts of a date text; `fraction` has the digits after the point, as bytes
pub record Parts : Type 0 where
  pub year : ℕ
  pub month : ℕ
  pub day : ℕ
  pub hour : ℕ
  pub minute : ℕ
  pub second : ℕ
  pub fraction : List ℕ
  pub offset : Offset

-- a point before the fraction's digits, if it has any
abbrev pub fraction_part : List ℕ → List ℕ
fraction_part [] = []
fraction_part (digit ∷ digits) = point ∷ digit ∷ digits

-- YYYY-MM-DDThh:mm:ss
abbrev pub date_time_text : Parts → List ℕ
date_time_text p =
    fixed_digits 4 p.year ++ minus ∷ [] ++ fixed_digits 2 p.month ++ minus ∷ [] ++ fixed_digits 2 p.day
    ++ upper_t ∷ [] ++ fixed_digits 2 p.hour ++ colon ∷ [] ++ fixed_digits 2 p.minute ++ colon ∷ []
    ++ fixed_digits 2 p.second

unfoldable pub text_of : Parts → List ℕ
text_of p = date_time_text p ++ (fraction_part p.fraction ++ offset_text p.offset)

-- a date of the calendar, a time of the day, digits and an offset
pub record IsParts (p : Parts) : Type 0 where
  pub year_in : p.year ≤ 9_999
  pub month_in : (1 ≤ p.month) × (p.month ≤ 12)
  pub day_in : (1 ≤ p.day) × (p.day ≤ days_in_month p.year p.month)
  pub hour_in : p.hour ≤ 23
  pub minute_in : p.minute ≤ 59
  pub second_in : p.second ≤ 60
  pub digits : list_all is_ascii_digit p.fraction ≡ true
  pub offset_in : IsOffset p.offset

-- the digit at an index of a text; 0 past its end
abbrev pub digit_at : List ℕ → ℕ → ℕ
digit_at text i = slice_index text i - digit_zero

-- the milliseconds since 1970: the local time less the offset, where second 60 is read as 59 and
-- only the first three digits of the fraction count
unfoldable pub moment_of : Parts → ℤ
moment_of p =
    pos (86_400_000 * day_number p.year p.month p.day + 3_600_000 * p.hour + 60_000 * p.minute + 1_000 * min p.second 59
    + (100 * digit_at p.fraction 0 + 10 * digit_at p.fraction 1 + digit_at p.fraction 2))
    -ℤ pos millis_before_1970 -ℤ offset_size p.offset

-- the text is a date text of the timestamp z
abbrev pub States : List ℕ → ℤ → Type 0
States text z = (p : Parts) × IsParts p × (text ≡ text_of p) × (moment_of p ≡ z) × IsStamp z
