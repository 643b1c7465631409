-- The budgetary comparison (GASB Codification 1700 and 2400): original and final budget, actual
-- amounts, encumbrances, and what is left.
use Rattle.std.specs.Prelude.{ℕ, ℤ, pos, ◌+◌, ◌==◌, ◌&&◌, ◌-ℤ◌, if◌then◌else◌, List, [], ◌∷◌, ◌++◌, flat_map, neg_ℤ, codes, decimal}
use Rattle.cf_calls.specs.declared.reply.Row.{Row}
use Rattle.cf_chart.specs.Common.{Plan, is_of_year}
use Rattle.cf_chart.specs.declared.rows.Fund.{Fund}
use Rattle.cf_chart.specs.declared.rows.Line.{Line}
use Rattle.cf_chart.specs.declared.rows.RevenueSource.{RevenueSource}
use Rattle.cf_statements.specs.Sums.{Sums, heading, in_year}

-- the fund revenue of a source in the year alone, which is a credit
abbrev pub fund_revenue : Sums → ℕ → RevenueSource → ℤ
fund_revenue sums year source = neg_ℤ (in_year sums year source.fund (400000 + source.id))

abbrev pub source_row : Sums → ℕ → RevenueSource → Row
source_row sums year source = record {
  label = source.name;
  amounts = pos (sums.estimate year source.id) ∷ pos (sums.estimate year source.id)
      ∷ fund_revenue sums year source ∷ pos 0
      ∷ (pos (sums.estimate year source.id) -ℤ fund_revenue sums year source) ∷ [];
}

abbrev pub line_row : Sums → ℕ → ℕ → Row
line_row sums year number =
    let n = sums.numbers number year in
    record {
      label = codes "Line " ++ decimal number;
      amounts = n.original ∷ n.appropriated ∷ n.expended ∷ n.encumbered ∷ n.room ∷ [];
    }

abbrev pub source_rows : Sums → ℕ → ℕ → List RevenueSource → List Row
source_rows sums year fund sources =
    flat_map (λ s. if s.fund == fund then source_row sums year s ∷ [] else []) sources

-- the lines of a fund at the year's level, by number from this one on
abbrev pub line_rows : Plan → Sums → ℕ → ℕ → ℕ → List Line → List Row
line_rows plan sums year fund number [] = []
line_rows plan sums year fund number (line ∷ rest) =
    (if (line.fund == fund) && is_of_year plan year line then line_row sums year number ∷ []
    else []) ++ line_rows plan sums year fund (number + 1) rest

abbrev pub fund_rows : Plan → Sums → ℕ → Fund → List Row
fund_rows plan sums year fund =
    heading fund.name ∷
    (source_rows sums year fund.id plan.sources ++ line_rows plan sums year fund.id 0 plan.lines)

abbrev pub budget_rows : Plan → Sums → ℕ → List Row
budget_rows plan sums year = flat_map (fund_rows plan sums year) plan.funds
