-- The months that a month is told with, and what is told of them: a month is what there is through
-- its last day, less what there was through the last day of the month before.
use Rattle.std.specs.Prelude.{◌≡◌, ℕ, zero, suc, ◌+◌, ◌-◌, ◌≤◌, ◌==◌, if◌then◌else◌, ℤ, pos, ◌-ℤ◌, List, [], ◌∷◌}
use Rattle.jiff_core.specs.Calendar.{days_in_month}
use Rattle.cf_model.specs.Common.{Day, Month, int_sum}

abbrev pub first_day : Month → Day
first_day m = record { year = m.year; month = m.month; day = 1 }

abbrev pub last_day : Month → Day
last_day m = record { year = m.year; month = m.month; day = days_in_month (pos m.year) m.month }

abbrev pub month_before : Month → Month
month_before m = if m.month == 1 then record { year = m.year - 1; month = 12 }
    else record { year = m.year; month = m.month - 1 }

abbrev pub month_after : Month → Month
month_after m = if m.month == 12 then record { year = m.year + 1; month = 1 }
    else record { year = m.year; month = m.month + 1 }

-- the same month of the year before
abbrev pub year_before : Month → Month
year_before m = record { year = m.year - 1; month = m.month }

-- what there is through a month, and in the month alone, of what there is through each day
abbrev pub through_month : (Day → ℤ) → Month → ℤ
through_month through m = through (last_day m)

abbrev pub in_month : (Day → ℤ) → Month → ℤ
in_month through m = through_month through m -ℤ through_month through (month_before m)

-- ---- the months of a year

-- so many months from this one on, and the month behind them
abbrev pub months_from : Month → ℕ → List Month
months_from m zero = []
months_from m (suc n) = m ∷ months_from (month_after m) n

abbrev pub month_behind : Month → ℕ → Month
month_behind m zero = m
month_behind m (suc n) = month_behind (month_after m) n

pub record IsMonth (m : Month) : Type 0 where
  pub first : 1 ≤ m.month
  pub last : m.month ≤ 12

-- months one after another come to what there is through the last of them, less what there was
-- before the first
abbrev pub AddUp : (Day → ℤ) → Type 0
AddUp through = (m : Month) (n : ℕ) → IsMonth m →
    int_sum (in_month through) (months_from m n)
    ≡ through_month through (month_before (month_behind m n)) -ℤ through_month through
    (month_before m)
