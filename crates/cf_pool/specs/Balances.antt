-- Daily balances of pooled cash. Each fund has a part in the pool (GASB Statement 31); interest
-- goes to the funds by their average daily balances (own rule).
use Rattle.std.specs.Prelude.{ℕ, zero, suc, ℤ, pos, ◌-◌, ◌+ℤ◌, Bool, ◌&&◌, ◌||◌, ◌==◌, nat_lt, nat_le, if◌then◌else◌, List, [], ◌∷◌, sum_by, unsigned_abs}
use Rattle.jiff_core.specs.Calendar.{days_in_month}
use Rattle.cf_base.specs.declared.calendar.Day.{Day}
use Rattle.cf_base.specs.declared.calendar.Month.{Month}
use Rattle.cf_pool.specs.declared.days.CashMove.{CashMove}

-- a day is another one, or comes before it
abbrev pub is_by : Day → Day → Bool
is_by a b = nat_lt a.year b.year
    || ((a.year == b.year)
    && (nat_lt a.month b.month || ((a.month == b.month) && nat_le a.day b.day)))

-- ---- day by day

-- what a movement is to a fund's balance at the end of a day
abbrev pub counted : CashMove → ℕ → Day → ℤ
counted m fund day = if (m.fund == fund) && is_by m.on day then m.amount else pos 0

-- a fund's balance at the end of a day: all that moved on that day or before
abbrev pub balance_at : List CashMove → ℕ → Day → ℤ
balance_at [] fund day = pos 0
balance_at (m ∷ moves) fund day = counted m fund day +ℤ balance_at moves fund day

abbrev pub day_of : Month → ℕ → Day
day_of month d = record { year = month.year; month = month.month; day = d }

-- the sum of the balances at the ends of the first days of a month
abbrev pub sum_of_days : List CashMove → Month → ℕ → ℕ → ℤ
sum_of_days moves month fund zero = pos 0
sum_of_days moves month fund (suc d) =
    balance_at moves fund (day_of month (suc d)) +ℤ sum_of_days moves month fund d

-- of all its days
unfoldable pub day_sum : List CashMove → Month → ℕ → ℤ
day_sum moves month fund = sum_of_days moves month fund (days_in_month (pos month.year) month.month)

-- ---- movement by movement

-- how many of a month's first days end on a day or after it
abbrev pub stood : Day → Month → ℕ → ℕ
stood on month n =
    if nat_lt on.year month.year || ((on.year == month.year) && nat_lt on.month month.month) then n
    else (if (on.year == month.year) && (on.month == month.month) then n - (on.day - 1) else 0)

-- the sum of the sizes of all movements
abbrev pub sizes : List CashMove → ℕ
sizes moves = sum_by (λ m. unsigned_abs m.amount) moves
