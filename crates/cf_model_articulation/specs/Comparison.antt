-- How the budgetary comparison (GASB Codification 2400) articulates with the operating statement.
use Rattle.std.specs.Prelude.{◌≡◌, ◌≤◌, ℕ, ℤ, pos, List, [], ◌∷◌}
use Rattle.cf_model.specs.Common.{Entry, Row, sums_of, int_sum}
use Rattle.cf_chart.specs.declared.rows.Fund.{Fund}
use Rattle.cf_chart.specs.Common.{Plan}
use Rattle.cf_statements.specs.Budget as budget
use Rattle.cf_statements.specs.Operating.{total_expenditures, total_revenues}

-- the third amount of a row, behind original and final budget: the actual amount
abbrev pub third : List ℤ → ℤ
third [] = pos 0
third (a ∷ []) = pos 0
third (a ∷ b ∷ []) = pos 0
third (a ∷ b ∷ c ∷ amounts) = c

abbrev pub actual : Row → ℤ
actual row = third row.amounts

abbrev pub actuals : List Row → ℤ
actuals rows = int_sum actual rows

-- a fund's part of the comparison: the rows of its sources, and of its lines
abbrev pub source_part : Plan → List Entry → ℕ → Fund → List Row
source_part plan history year fund =
    budget.source_rows (sums_of plan history) year fund.id plan.sources

abbrev pub line_part : Plan → List Entry → ℕ → Fund → List Row
line_part plan history year fund =
    budget.line_rows plan (sums_of plan history) year fund.id 0 plan.lines

-- the actual amounts of a fund's sources are its total revenues on the operating statement, and
-- those
-- of its lines, what they have expended, are its total expenditures there
pub record Compares (plan : Plan) (history : List Entry) (year : ℕ) : Type 0 where
  pub earned : (fund : Fund)
      → actuals (source_part plan history year fund)
      ≡ total_revenues (sums_of plan history) year fund.id plan.sources
  pub spent : 1 ≤ year → (fund : Fund)
      → actuals (line_part plan history year fund)
      ≡ total_expenditures (sums_of plan history) year fund.id plan.functions
