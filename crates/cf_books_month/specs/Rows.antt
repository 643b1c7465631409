-- The rows of a month: of each fund its control lines by number, the totals of its departments and
-- of the fund, its revenue sources by id, and their total.
use Rattle.std.specs.Prelude.{ℕ, ◌+◌, ◌-◌, Bool, false, ◌==◌, ◌&&◌, ◌||◌, if◌then◌else◌, List, [], ◌∷◌, ◌++◌, Option, Some, None, flat_map, map}
use Rattle.std.specs.List.{filter}
use Rattle.cf_model.specs.Common.{Month, Entry, Department, Line, RevenueSource}
use Rattle.cf_chart.specs.declared.rows.Fund.{Fund}
use Rattle.cf_chart.specs.Common.{Plan, is_of_year}
use Rattle.cf_books_month.specs.declared.amounts.Amounts.{Amounts}
use Rattle.cf_books_month.specs.declared.rows.MonthRow.{MonthRow}
use Rattle.cf_books_month.specs.declared.rows.Part.{Part}
use Rattle.cf_books_month.specs.declared.rows.Part.TheVariants as part
use Rattle.cf_books_month.specs.Amounts.{total}
use Rattle.cf_books_month.specs.Sums.{line_amounts, source_amounts}

-- ---- control lines

-- at the fund's level of control in the fiscal year; where another was in force in the year before,
-- its lines too
abbrev pub is_shown : Plan → ℕ → ℕ → Line → Bool
is_shown plan year fund l = (l.fund == fund)
    && (is_of_year plan year l || is_of_year plan (year - 1) l)

abbrev pub line_row : Plan → List Entry → Month → ℕ → ℕ → Line → MonthRow
line_row plan history m year number l = record {
  part = part.Line;
  fund = l.fund;
  dept = Some l.dept;
  line = Some number;
  source = None;
  amounts = line_amounts plan history m year number;
}

-- the lines of a fund, by number from this one on
abbrev pub line_rows : Plan → List Entry → Month → ℕ → ℕ → ℕ → List Line → List MonthRow
line_rows plan history m year fund number [] = []
line_rows plan history m year fund number (l ∷ lines) =
    (if is_shown plan year fund l then line_row plan history m year number l ∷ [] else [])
    ++ line_rows plan history m year fund (number + 1) lines

-- ---- revenue sources

abbrev pub source_row : Plan → List Entry → Month → ℕ → RevenueSource → MonthRow
source_row plan history m year s = record {
  part = part.Source;
  fund = s.fund;
  dept = None;
  line = None;
  source = Some s.id;
  amounts = source_amounts plan history m year s;
}

abbrev pub source_rows : Plan → List Entry → Month → ℕ → ℕ → List RevenueSource → List MonthRow
source_rows plan history m year fund sources =
    map (source_row plan history m year) (filter (λ s. s.fund == fund) sources)

-- ---- totals

abbrev pub amounts_in : List MonthRow → List Amounts
amounts_in rows = map (λ r. r.amounts) rows

abbrev pub is_dept : ℕ → Option ℕ → Bool
is_dept dept None = false
is_dept dept (Some d) = d == dept

-- those of a department
abbrev pub amounts_of : ℕ → List MonthRow → List Amounts
amounts_of dept rows = amounts_in (filter (λ r. is_dept dept r.dept) rows)

abbrev pub total_row : Part → ℕ → Option ℕ → List Amounts → MonthRow
total_row p fund dept amounts =
    record {
      part = p;
      fund = fund;
      dept = dept;
      line = None;
      source = None;
      amounts = total amounts;
    }

-- a department has a total in each fund that has lines of it
abbrev pub department_row : ℕ → ℕ → List Amounts → List MonthRow
department_row fund dept [] = []
department_row fund dept (a ∷ amounts) =
    total_row part.Department fund (Some dept) (a ∷ amounts) ∷ []

abbrev pub department_rows : ℕ → List MonthRow → List Department → List MonthRow
department_rows fund rows depts =
    flat_map (λ d. department_row fund d.id (amounts_of d.id rows)) depts

-- the total of a fund's lines
abbrev pub fund_row : ℕ → List MonthRow → MonthRow
fund_row fund lines = total_row part.Fund fund None (amounts_in lines)

-- ---- all

abbrev pub lines_of : Plan → List Entry → Month → ℕ → ℕ → List MonthRow
lines_of plan history m year fund = line_rows plan history m year fund 0 plan.lines

abbrev pub sources_of : Plan → List Entry → Month → ℕ → ℕ → List MonthRow
sources_of plan history m year fund = source_rows plan history m year fund plan.sources

abbrev pub departments_of : Plan → List Entry → Month → ℕ → ℕ → List MonthRow
departments_of plan history m year fund =
    department_rows fund (lines_of plan history m year fund) plan.departments

abbrev pub with_totals : Plan → ℕ → List MonthRow → List MonthRow → List MonthRow
with_totals plan fund lines sources =
    lines ++ (department_rows fund lines plan.departments
    ++ (fund_row fund lines
    ∷ (sources ++ total_row part.Sources fund None (amounts_in sources) ∷ [])))

unfoldable pub fund_rows : Plan → List Entry → Month → ℕ → ℕ → List MonthRow
fund_rows plan history m year fund =
    with_totals plan fund (lines_of plan history m year fund) (sources_of plan history m year fund)

abbrev pub funds_rows : Plan → List Entry → Month → ℕ → List Fund → List MonthRow
funds_rows plan history m year funds = flat_map (λ f. fund_rows plan history m year f.id) funds

unfoldable pub month_rows : Plan → List Entry → Month → ℕ → List MonthRow
month_rows plan history m year = funds_rows plan history m year plan.funds
