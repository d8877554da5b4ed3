-- The proleptic Gregorian calendar from year 0, with days numbered from 0 for 1 January of year 0.
use Rattle.std.specs.Prelude.{ℕ, ◌+◌, ◌-◌, ◌*◌, ◌/◌, ◌%◌, Bool, not, ◌&&◌, ◌||◌, ◌==◌, nat_le, if◌then◌else◌}
use Rattle.std.specs.List.{range_with_len, prefix_len, sum_by}

-- every fourth year, but of the centuries only every fourth
abbrev pub is_leap_year : ℕ → Bool
is_leap_year y = (y % 4 == 0) && (not (y % 100 == 0) || (y % 400 == 0))

-- the number of days before 1 January of the year
unfoldable pub days_before_year : ℕ → ℕ
days_before_year y = 365 * y + ((y + 3) / 4 + (y + 399) / 400 - (y + 99) / 100)

-- April, June, September and November have thirty days
abbrev pub days_in_month : ℕ → ℕ → ℕ
days_in_month y m =
    if m == 2 then (if is_leap_year y then 29 else 28)
    else (if (m == 4) || (m == 6) || (m == 9) || (m == 11) then 30 else 31)

-- the number of days of the year before the month, where January is month 1
unfoldable pub days_before_month : ℕ → ℕ → ℕ
days_before_month y m = sum_by (days_in_month y) (range_with_len 1 (m - 1))

-- the day's number of a date
unfoldable pub day_number : ℕ → ℕ → ℕ → ℕ
day_number y m d = days_before_year y + days_before_month y m + (d - 1)

-- the year of a day: the number of years, from year 0 on, that end before it
unfoldable pub year_of : ℕ → ℕ
year_of day = prefix_len (λ y. nat_le (days_before_year (y + 1)) day) (range_with_len 0 9999)

-- the month of a day: one more than the number of months of its year that end before it
unfoldable pub month_of : ℕ → ℕ
month_of day =
    let y = year_of day in
    1 + prefix_len (λ m. nat_le (day_number y (m + 1) 1) day) (range_with_len 1 11)

-- the day of the month
unfoldable pub day_of : ℕ → ℕ
day_of day = day + 1 - day_number (year_of day) (month_of day) 1
