-- When a collection is revenue: the availability period of modified accrual (GASB Codification
-- 1600). The periods are an own rule.
use Rattle.std.specs.Prelude.{ℕ, if◌then◌else◌, ◌==◌, ◌||◌}
use Rattle.cf_base.specs.declared.calendar.Day.{Day}
use Rattle.cf_base.specs.Common.{month_of_day, year_of_month, year_end, is_in_window}

abbrev pub year_in : ℕ → Day → ℕ
year_in first day = year_of_month first (month_of_day day)

-- the fiscal year that a collection of a day is revenue of: the levy year, where the day lies in it
-- or in its window, and else the day's own
abbrev pub revenue_year : ℕ → ℕ → ℕ → Day → ℕ
revenue_year window first levy day =
    if (year_in first day == levy) || is_in_window (year_end first levy) window day then levy
    else year_in first day
