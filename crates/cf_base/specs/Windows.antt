-- The last day of a fiscal year and the windows after it (GASB Codification 1600: the availability
-- period. That a window is a number of days after the year's end is an own rule).
use Rattle.std.specs.Prelude.{ℕ, ◌-◌, Bool, if◌then◌else◌, ◌==◌, ◌&&◌, ℤ, pos, ◌+ℤ◌, int_lt, int_le}
use Rattle.jiff_core.specs.Calendar.{days_in_month}
use Rattle.cf_base.specs.declared.calendar.Day.{Day}
use Rattle.cf_base.specs.Calendar.{day_number}

-- the month that ends fiscal years, where `first` is the month that they begin with
abbrev pub last_month : ℕ → ℕ
last_month first = if first == 1 then 12 else first - 1

-- the last day of a fiscal year
abbrev pub year_end : ℕ → ℕ → Day
year_end first year =
    record {
      year = year;
      month = last_month first;
      day = days_in_month (pos year) (last_month first);
    }

-- the number of the last day of a window of so many days after a year's last day
abbrev pub window_end : Day → ℕ → ℤ
window_end last days = day_number last +ℤ pos days

-- a day after a year's last day, and at most so many days after it
abbrev pub is_in_window : Day → ℕ → Day → Bool
is_in_window last days day = int_lt (day_number last) (day_number day)
    && int_le (day_number day) (window_end last days)
