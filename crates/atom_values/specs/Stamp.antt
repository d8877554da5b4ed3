-- Timestamps in milliseconds since 1970-01-01T00:00:00Z, and the one form that they are printed in
-- (RFC 3339 section 5.6, in UTC).
use Rattle.std.specs.Prelude.{ℕ, zero, suc, ◌+◌, ◌/◌, ◌%◌, List, [], ◌∷◌, ◌++◌, ℤ, pos, neg_ℤ, ◌+ℤ◌, ◌≤ℤ◌, unsigned_abs}
use Rattle.std.specs.Prelude.{◌==◌, if◌then◌else◌}
use Rattle.atom_values.specs.Ascii.{minus, point, digit_zero, colon, upper_t, upper_z}
use Rattle.atom_values.specs.Calendar.{year_of, month_of, day_of}

-- the milliseconds from 0000-01-01T00:00:00Z to 1970-01-01T00:00:00Z
abbrev pub millis_before_1970 : ℕ
millis_before_1970 = 62_167_219_200_000

-- 0000-01-01T00:00:00Z
abbrev pub first_stamp : ℤ
first_stamp = neg_ℤ (pos millis_before_1970)

-- 9999-12-31T23:59:59.999Z
abbrev pub last_stamp : ℤ
last_stamp = pos 253_402_300_799_999

abbrev pub IsStamp : ℤ → Type 0
IsStamp z = (first_stamp ≤ℤ z) × (z ≤ℤ last_stamp)

-- the milliseconds since 0000-01-01T00:00:00Z
abbrev pub since_year_zero : ℤ → ℕ
since_year_zero z = unsigned_abs (z +ℤ pos millis_before_1970)

-- a number in `width` decimal digits, with leading zeros
abbrev pub fixed_digits : ℕ → ℕ → List ℕ
fixed_digits zero n = []
fixed_digits (suc width) n = fixed_digits width (n / 10) ++ (digit_zero + n % 10) ∷ []

-- YYYY-MM-DD
unfoldable pub date_text : ℕ → List ℕ
date_text day =
    fixed_digits 4 (year_of day) ++ minus ∷ [] ++ fixed_digits 2 (month_of day) ++ minus ∷ []
    ++ fixed_digits 2 (day_of day)

-- a point and three digits, or nothing where there are no milliseconds
abbrev pub fraction_text : ℕ → List ℕ
fraction_text millis = if millis == 0 then [] else point ∷ fixed_digits 3 millis

-- hh:mm:ss of the milliseconds since midnight
unfoldable pub clock_text : ℕ → List ℕ
clock_text millis =
    fixed_digits 2 (millis / 3_600_000) ++ colon ∷ [] ++ fixed_digits 2 (millis / 60_000 % 60) ++ colon ∷ []
    ++ fixed_digits 2 (millis / 1_000 % 60)

-- the same with the fraction
abbrev pub time_text : ℕ → List ℕ
time_text millis = clock_text millis ++ fraction_text (millis % 1_000)

-- the printed form: date, T, time, Z
unfoldable pub printed : ℤ → List ℕ
printed z =
    let millis = since_year_zero z in
    date_text (millis / 86_400_000) ++ upper_t ∷ [] ++ time_text (millis % 86_400_000) ++ upper_z ∷ []
