-- The amounts of a row, and their totals.
use Rattle.std.specs.Prelude.{ℤ, List}
use Rattle.std.specs.Int.{int_wrap, w128}
use Rattle.cf_model.specs.Common.{int_sum}
use Rattle.cf_books_month.specs.declared.amounts.Amounts.{Amounts}
use Rattle.cf_books_month.specs.declared.amounts.Column.{Column}
use Rattle.cf_books_month.specs.declared.amounts.Column.TheVariants as column

-- a number as 128 bits hold it: it is itself wherever it fits
abbrev pub held : ℤ → ℤ
held z = int_wrap w128 z

abbrev pub amount_of : Column → Amounts → ℤ
amount_of column.Budget a = a.budget
amount_of column.Month a = a.month
amount_of column.Year a = a.year
amount_of column.OnOrder a = a.on_order
amount_of column.Held a = a.held
amount_of column.Left a = a.left
amount_of column.MonthAgo a = a.month_ago
amount_of column.YearAgo a = a.year_ago

abbrev pub total_of : Column → List Amounts → ℤ
total_of c amounts = held (int_sum (amount_of c) amounts)

unfoldable pub total : List Amounts → Amounts
total amounts = record {
  budget = total_of column.Budget amounts;
  month = total_of column.Month amounts;
  year = total_of column.Year amounts;
  on_order = total_of column.OnOrder amounts;
  held = total_of column.Held amounts;
  left = total_of column.Left amounts;
  month_ago = total_of column.MonthAgo amounts;
  year_ago = total_of column.YearAgo amounts;
}
