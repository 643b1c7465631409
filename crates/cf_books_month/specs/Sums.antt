-- What control lines spent and revenue sources received in a month and in a fiscal year through it,
-- as the entries that are dated through its last day entered it.
use Rattle.std.specs.Prelude.{◌≡◌, ℕ, ◌-◌, ℤ, pos, ◌-ℤ◌, List}
use Rattle.cf_model.specs.Common.{Day, Month, Entry, LineNumbers, RevenueSource}
use Rattle.cf_chart.specs.Common.{Plan}
use Rattle.cf_office_history.specs.RestState.{RestState}
use Rattle.cf_statements.specs.Budget.{fund_revenue}
use Rattle.cf_books_days.specs.declared.sums.DaySums.{DaySums}
use Rattle.cf_books_days.specs.Through.{sums_through}
use Rattle.cf_books_month.specs.declared.amounts.Amounts.{Amounts}
use Rattle.cf_books_month.specs.declared.sums.At.{At}
use Rattle.cf_books_month.specs.declared.sums.At.TheVariants as at
use Rattle.cf_books_month.specs.Amounts.{held}
use Rattle.cf_books_month.specs.Days.{in_month, last_day, month_before, through_month, year_before}

-- sums of a history through a day
pub record IsThrough (rest : RestState) (day : Day) (s : DaySums) : Type 0 where
  pub same : s.rest.now ≡ rest
  pub through : s.day ≡ day

-- the days that a month is told with
abbrev pub day_at : At → Month → Day
day_at at.Last m = last_day m
day_at at.Before m = last_day (month_before m)
day_at at.LastAgo m = last_day (year_before m)
day_at at.BeforeAgo m = last_day (month_before (year_before m))

-- ---- through a day: as `statement budget --through DAY` has it

-- the numbers of a control line in a fiscal year
unfoldable pub numbers_through : Plan → List Entry → ℕ → ℕ → Day → LineNumbers
numbers_through plan history line year day = (sums_through plan day history).numbers line year

-- what a line spent in a fiscal year
abbrev pub spent : Plan → List Entry → ℕ → ℕ → Day → ℤ
spent plan history line year day = (numbers_through plan history line year day).expended

-- what a source received in a fiscal year, and what is estimated of it
unfoldable pub received : Plan → List Entry → RevenueSource → ℕ → Day → ℤ
received plan history source year day = fund_revenue (sums_through plan day history) year source

unfoldable pub estimated : Plan → List Entry → RevenueSource → ℕ → Day → ℤ
estimated plan history source year day =
    pos ((sums_through plan day history).estimate year source.id)

-- ---- a month of a fiscal year

unfoldable pub line_amounts : Plan → List Entry → Month → ℕ → ℕ → Amounts
line_amounts plan history m year line =
    let n = numbers_through plan history line year (last_day m) in
    record {
      budget = n.appropriated;
      month = held (in_month (spent plan history line year) m);
      year = through_month (spent plan history line year) m;
      on_order = n.encumbered;
      held = n.held;
      left = n.room;
      month_ago = held (in_month (spent plan history line (year - 1)) (year_before m));
      year_ago = through_month (spent plan history line (year - 1)) (year_before m);
    }

unfoldable pub source_amounts : Plan → List Entry → Month → ℕ → RevenueSource → Amounts
source_amounts plan history m year s = record {
  budget = through_month (estimated plan history s year) m;
  month = held (in_month (received plan history s year) m);
  year = through_month (received plan history s year) m;
  on_order = pos 0;
  held = pos 0;
  left = held (through_month (estimated plan history s year) m -ℤ through_month
      (received plan history s year) m);
  month_ago = held (in_month (received plan history s (year - 1)) (year_before m));
  year_ago = through_month (received plan history s (year - 1)) (year_before m);
}
