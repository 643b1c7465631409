-- The records of a month's rows.
use Rattle.std.specs.Prelude.{ℕ, ℤ, pos, ◌*ℤ◌, Bool, ◌&&◌, if◌then◌else◌, nat_lt, int_lt, int_div, unsigned_abs, List, [], ◌∷◌, Option, Some, None, codes, decimal, flat_map}
use Rattle.cf_base.specs.Common.{money_of}
use Rattle.cf_chart.specs.Common.{Plan, department_at, fund_at, source_at}
use Rattle.cf_books_lists.specs.Names.{department_name, fund_name, source_name}
use Rattle.cf_books_lists.specs.Open.{line_of}
use Rattle.cf_books_lists.specs.Records.{number_text, record_text}
use Rattle.cf_books_lists.specs.Statement.{row_part, row_part_name}
use Rattle.cf_books_month.specs.declared.rows.MonthRow.{MonthRow}
use Rattle.cf_books_month.specs.declared.rows.Part.{Part}
use Rattle.cf_books_month.specs.declared.rows.Part.TheVariants as part

-- ---- per cent

-- there is none of a budget that isn't above zero, and of an amount of 2^112 cents
abbrev pub is_small : ℤ → Bool
is_small amount = nat_lt (unsigned_abs amount) 5192296858534827628530496329220096

-- in hundredths of a per cent, cut off
abbrev pub percent : ℤ → ℤ → ℤ
percent budget left = int_div (left *ℤ pos 10000) budget

unfoldable pub percent_text : ℤ → ℤ → List ℕ
percent_text budget left = if int_lt (pos 0) budget && is_small left
    then money_of (percent budget left) else []

-- ---- names

abbrev pub part_word : Part → List ℕ
part_word part.Line = codes "line"
part_word part.Department = codes "department"
part_word part.Fund = codes "fund"
part_word part.Source = codes "source"
part_word part.Sources = codes "sources"

abbrev pub dept_text : Plan → Option ℕ → List ℕ
dept_text plan None = []
dept_text plan (Some n) = department_name (department_at plan n)

abbrev pub source_text : Plan → Option ℕ → List ℕ
source_text plan None = []
source_text plan (Some n) = source_name (source_at plan n)

-- ---- a row

unfoldable pub row_fields : Plan → MonthRow → List (List ℕ)
row_fields plan r =
    part_word r.part ∷ decimal r.fund ∷ fund_name (fund_at plan r.fund) ∷ number_text r.dept
    ∷ dept_text plan r.dept ∷ number_text r.line
    ∷ row_part plan (line_of plan r.line) ∷ row_part_name plan (line_of plan r.line)
    ∷ number_text r.source ∷ source_text plan r.source
    ∷ money_of r.amounts.budget ∷ money_of r.amounts.month ∷ money_of r.amounts.year
    ∷ money_of r.amounts.on_order ∷ money_of r.amounts.held
    ∷ money_of r.amounts.left ∷ percent_text r.amounts.budget r.amounts.left
    ∷ money_of r.amounts.month_ago ∷ money_of r.amounts.year_ago ∷ []

abbrev pub rows_text : Bool → Plan → List MonthRow → List ℕ
rows_text csv plan rows = flat_map (λ r. record_text csv (row_fields plan r)) rows
