-- Civil days and months, and the fiscal year of a month (GASB Codification 1700: the fiscal
-- period).
use Rattle.std.specs.Prelude.{ℕ, zero, suc, ℤ, ◌+◌, ◌-◌, ◌*◌, ◌/◌, ◌%◌, Bool, ◌==◌, ◌&&◌, ◌||◌, nat_lt, nat_le, if◌then◌else◌, List, [], ◌∷◌, length, slice_index, Option, Some, None, pos}
use Rattle.jiff.specs.Words.{days_in_month}
use Rattle.jiff_core.specs.Calendar.{days_from_civil}
use Rattle.cf_base.specs.declared.calendar.Day.{Day}
use Rattle.cf_base.specs.declared.calendar.Month.{Month}
use Rattle.cf_base.specs.Limits.{last_year}

-- a day that the office knows: a civil date from 1970-01-01 to 2199-12-31
abbrev pub is_day : Day → Bool
is_day d = nat_le 1970 d.year && nat_le d.year last_year && nat_le 1 d.month && nat_le d.month 12
    && nat_le 1 d.day && nat_le d.day (days_in_month (pos d.year) d.month)

abbrev pub month_of_day : Day → Month
month_of_day d = record { year = d.year; month = d.month }

-- the fiscal year that a month lies in, where `first` is the month that fiscal years begin with
abbrev pub year_of_month : ℕ → Month → ℕ
year_of_month first m = if (first == 1) || nat_lt m.month first then m.year else m.year + 1

-- a digit in ASCII, and its value
abbrev pub is_digit : ℕ → Bool
is_digit c = nat_le 48 c && nat_le c 57

abbrev pub digit_at : List ℕ → ℕ → ℕ
digit_at text k = slice_index text k - 48

abbrev pub are_digits : List ℕ → ℕ → Bool
are_digits text k = is_digit (slice_index text k) && is_digit (slice_index text (k + 1))

-- the number that two digits write
abbrev pub pair_at : List ℕ → ℕ → ℕ
pair_at text k = 10 * digit_at text k + digit_at text (k + 1)

-- a text of the form YYYY-MM-DD
abbrev pub is_day_form : List ℕ → Bool
is_day_form text =
    (length text == 10) && are_digits text 0 && are_digits text 2 && (slice_index text 4 == 45)
    && are_digits text 5 && (slice_index text 7 == 45) && are_digits text 8

abbrev pub day_written : List ℕ → Day
day_written text = record
    { year = 100 * pair_at text 0 + pair_at text 2; month = pair_at text 5; day = pair_at text 8 }

abbrev pub day_if : Day → Option Day
day_if d = if is_day d then Some d else None

-- the day that a text writes, if it writes one
abbrev pub day_of_text : List ℕ → Option Day
day_of_text text = if is_day_form text then day_if (day_written text) else None

-- a text of the form YYYY-MM
abbrev pub is_month_form : List ℕ → Bool
is_month_form text =
    (length text == 7) && are_digits text 0 && are_digits text 2 && (slice_index text 4 == 45)
    && are_digits text 5

abbrev pub month_written : List ℕ → Month
month_written text = record { year = 100 * pair_at text 0 + pair_at text 2; month = pair_at text 5 }

-- a month that a call may state: from 1970-01 to 2199-12
abbrev pub is_call_month : Month → Bool
is_call_month m = nat_le 1970 m.year && nat_le m.year last_year && nat_le 1 m.month
    && nat_le m.month 12

abbrev pub month_if : Month → Option Month
month_if m = if is_call_month m then Some m else None

-- the month that a text writes, if it writes one
abbrev pub month_of_text : List ℕ → Option Month
month_of_text text = if is_month_form text then month_if (month_written text) else None

-- the last digit of a number, in ASCII
abbrev pub last_digit : ℕ → ℕ
last_digit n = 48 + n % 10

-- a year of four digits and a hyphen, followed by a month of two digits
abbrev pub month_text : Month → List ℕ
month_text m =
    last_digit (m.year / 1000) ∷ last_digit (m.year / 100) ∷ last_digit (m.year / 10)
    ∷ last_digit m.year ∷ 45 ∷ last_digit (m.month / 10) ∷ last_digit m.month ∷ []

-- the same, followed by a hyphen and a day of two digits
abbrev pub day_text : Day → List ℕ
day_text d =
    last_digit (d.year / 1000) ∷ last_digit (d.year / 100) ∷ last_digit (d.year / 10)
    ∷ last_digit d.year ∷ 45 ∷ last_digit (d.month / 10) ∷ last_digit d.month ∷ 45
    ∷ last_digit (d.day / 10) ∷ last_digit d.day ∷ []

-- ---- days by number

-- how many days a day comes after 1970-01-01, as `jiff` counts them
abbrev pub day_number : Day → ℤ
day_number d = days_from_civil (pos d.year) d.month d.day

-- the day after
abbrev pub next_day : Day → Day
next_day d =
    if nat_lt d.day (days_in_month (pos d.year) d.month)
    then record { year = d.year; month = d.month; day = d.day + 1 }
    else (if nat_lt d.month 12 then record { year = d.year; month = d.month + 1; day = 1 }
    else record { year = d.year + 1; month = 1; day = 1 })

-- the day of a number: 0 is 1970-01-01
unfoldable pub day_of_number : ℕ → Day
day_of_number zero = record { year = 1970; month = 1; day = 1 }
day_of_number (suc n) = next_day (day_of_number n)
