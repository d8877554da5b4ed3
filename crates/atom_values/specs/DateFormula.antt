-- The formula that the code of `Stamp::parse` follows, by indices into the text. Only private functions cite it; the
-- clause of `Stamp::parse` says what a text states (`DateText`), and a proof shows that the two agree.
use Rattle.std.specs.Char.{is_ascii_digit}
use Rattle.std.specs.List.{list_all}
use Rattle.std.specs.Prelude.{ℕ, ◌+◌, ◌-◌, ◌*◌, List, [], ◌∷◌, ℤ, pos, neg_ℤ, ◌-ℤ◌, int_le, Bool, ◌&&◌, ◌||◌, ◌==◌}
use Rattle.std.specs.Prelude.{nat_lt, nat_le, if◌then◌else◌, slice_index, true, min, take, drop, map, length, Option}
use Rattle.std.specs.Prelude.{Some, None, bytes_eq, codes}
use Rattle.atom_values.specs.Ascii.{minus, point, digit_zero, upper_z}
use Rattle.atom_values.specs.Calendar.{day_number, days_in_month}
use Rattle.atom_values.specs.DateText.{digit_at}
use Rattle.atom_values.specs.Stamp.{first_stamp, last_stamp, millis_before_1970}

abbrev pub two_digits : List ℕ → ℕ → ℕ
two_digits text i = 10 * digit_at text i + digit_at text (i + 1)

-- a byte's place in a form: 0 for a digit, and else the byte
abbrev pub shape_of : ℕ → ℕ
shape_of byte = if is_ascii_digit byte then digit_zero else byte

-- the text has this form, where each 0 means a digit
abbrev pub has_form : List ℕ → List ℕ → Bool
has_form text form = bytes_eq (map shape_of text) form

-- the parts of YYYY-MM-DDThh:mm:ss
abbrev pub year_in : List ℕ → ℕ
year_in text = 100 * two_digits text 0 + two_digits text 2

abbrev pub month_in : List ℕ → ℕ
month_in text = two_digits text 5

abbrev pub day_in : List ℕ → ℕ
day_in text = two_digits text 8

abbrev pub hour_in : List ℕ → ℕ
hour_in text = two_digits text 11

abbrev pub minute_in : List ℕ → ℕ
minute_in text = two_digits text 14

abbrev pub second_in : List ℕ → ℕ
second_in text = two_digits text 17

-- the calendar has the date
abbrev pub is_date : ℕ → ℕ → ℕ → Bool
is_date y m d = nat_le 1 m && nat_le m 12 && nat_le 1 d && nat_le d (days_in_month y m)

-- hours to 23, minutes to 59, and seconds to 60 for a leap second
abbrev pub is_date_time : List ℕ → Bool
is_date_time text =
    has_form text (codes "0000-00-00T00:00:00") && is_date (year_in text) (month_in text) (day_in text)
    && nat_le (hour_in text) 23 && nat_le (minute_in text) 59 && nat_le (second_in text) 60

-- its milliseconds since 0000-01-01T00:00:00 on its clock, where second 60 counts as 59
abbrev pub date_time_millis : List ℕ → ℕ
date_time_millis text =
    86_400_000 * day_number (year_in text) (month_in text) (day_in text)
    + 3_600_000 * hour_in text + 60_000 * minute_in text + 1_000 * min (second_in text) 59

-- nothing, or a point and one or more digits
abbrev pub is_fraction : List ℕ → Bool
is_fraction [] = true
is_fraction (first ∷ digits) = (first == point) && nat_lt 0 (length digits) && list_all is_ascii_digit digits

-- digits after the third are cut
abbrev pub fraction_millis : List ℕ → ℕ
fraction_millis text = 100 * digit_at text 1 + 10 * digit_at text 2 + digit_at text 3

-- Z, or a sign, hours to 23 and minutes to 59
abbrev pub is_offset : List ℕ → Bool
is_offset text =
    bytes_eq text (codes "Z")
    || ((has_form text (codes "+00:00") || has_form text (codes "-00:00"))
    && nat_le (two_digits text 1) 23 && nat_le (two_digits text 4) 59)

-- the milliseconds that the offset's clock is ahead of UTC
abbrev pub offset_millis : List ℕ → ℤ
offset_millis text =
    let size = 60_000 * (60 * two_digits text 1 + two_digits text 4) in
    if slice_index text 0 == minus then neg_ℤ (pos size) else pos size

-- the number, if it is a timestamp
abbrev pub stamp_at : ℤ → Option ℤ
stamp_at z = if int_le first_stamp z && int_le z last_stamp then Some z else None

-- the value of the parts of a date text: the date and time less the offset
unfoldable pub value_of_parts : List ℕ → List ℕ → List ℕ → Option ℤ
value_of_parts date_time fraction offset =
    if is_date_time date_time && is_fraction fraction && is_offset offset
    then stamp_at
    (pos (date_time_millis date_time + fraction_millis fraction) -ℤ pos millis_before_1970 -ℤ offset_millis offset)
    else None

-- a last Z, or else the last six bytes
abbrev pub offset_length : List ℕ → ℕ
offset_length rest = if slice_index rest (length rest - 1) == upper_z then 1 else 6

-- the value of a date text: its first 19 bytes, its offset, and the fraction between them
unfoldable pub value_of : List ℕ → Option ℤ
value_of text =
    let rest = drop 19 text in
    let before_offset = length rest - offset_length rest in
    value_of_parts (take 19 text) (take before_offset rest) (drop before_offset rest)
