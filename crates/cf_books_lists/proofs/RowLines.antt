-- Which lines the rows of the budgetary comparison are of.
use Rattle.std.proofs.Common.{ℕ, ◌+◌, ◌==◌, ◌&&◌, Bool, true, false, if◌then◌else◌, List, [], ◌∷◌, ◌++◌, Option, Some, None, refl, flat_map}
use Rattle.cf_model.specs.Common.{Row, Line, RevenueSource}
use Rattle.cf_chart.specs.Common.{Plan, is_of_year}
use Rattle.cf_chart.specs.declared.rows.Fund.{Fund}
use Rattle.cf_statements.specs.Budget.{budget_rows, fund_rows, line_row, line_rows, source_row, source_rows}
use Rattle.cf_statements.specs.Sums.{Sums}
use Rattle.cf_books_lists.specs.Statement.{AreOf, comparison_lines, fund_lines, section_lines, sections_lines, source_lines}

module _ (sums : Sums) (year : ℕ) where
  joined : (lines more : List (Option ℕ)) (rows rest : List Row) → AreOf sums year lines rows → AreOf sums year more rest → AreOf sums year (lines ++ more) (rows ++ rest)
  joined [] more [] rest here there = there
  joined [] more (r ∷ rows) rest here there = absurd here
  joined (None ∷ lines) more [] rest here there = absurd here
  joined (Some n ∷ lines) more [] rest here there = absurd here
  joined (None ∷ lines) more (r ∷ rows) rest here there = joined lines more rows rest here there
  joined (Some n ∷ lines) more (r ∷ rows) rest here there = (here.0, joined lines more rows rest here.1 there)

  where_it_is : (here : Bool) (line : Option ℕ) (row : Row) → AreOf sums year (line ∷ []) (row ∷ []) → AreOf sums year (if here then line ∷ [] else []) (if here then row ∷ [] else [])
  where_it_is true line row one = one
  where_it_is false line row one = tt

  of_sources : (fund : ℕ) (sources : List RevenueSource) → AreOf sums year (source_lines fund sources) (source_rows sums year fund sources)
  of_sources fund [] = tt
  of_sources fund (s ∷ sources) =
      joined (if s.fund == fund then None ∷ [] else []) (source_lines fund sources) (if s.fund == fund then source_row sums year s ∷ [] else []) (source_rows sums year fund sources)
      (where_it_is (s.fund == fund) None (source_row sums year s) tt) (of_sources fund sources)

  of_lines : (plan : Plan) (fund number : ℕ) (lines : List Line) → AreOf sums year (fund_lines plan year fund number lines) (line_rows plan sums year fund number lines)
  of_lines plan fund number [] = tt
  of_lines plan fund number (l ∷ lines) =
      joined (if (l.fund == fund) && is_of_year plan year l then Some number ∷ [] else []) (fund_lines plan year fund (number + 1) lines)
      (if (l.fund == fund) && is_of_year plan year l then line_row sums year number ∷ [] else []) (line_rows plan sums year fund (number + 1) lines)
      (where_it_is ((l.fund == fund) && is_of_year plan year l) (Some number) (line_row sums year number) (refl, tt)) (of_lines plan fund (number + 1) lines)

  of_fund : (plan : Plan) (f : Fund) → AreOf sums year (section_lines plan year f.id) (fund_rows plan sums year f)
  of_fund plan f =
      joined (source_lines f.id plan.sources) (fund_lines plan year f.id 0 plan.lines) (source_rows sums year f.id plan.sources) (line_rows plan sums year f.id 0 plan.lines)
      (of_sources f.id plan.sources) (of_lines plan f.id 0 plan.lines)

  of_funds : (plan : Plan) (funds : List Fund) → AreOf sums year (sections_lines plan year funds) (flat_map (fund_rows plan sums year) funds)
  of_funds plan [] = tt
  of_funds plan (f ∷ funds) =
      joined (section_lines plan year f.id) (sections_lines plan year funds) (fund_rows plan sums year f) (flat_map (fund_rows plan sums year) funds)
      (of_fund plan f) (of_funds plan funds)

  -- of the whole comparison
  pub of_comparison : (plan : Plan) → AreOf sums year (comparison_lines plan year) (budget_rows plan sums year)
  of_comparison plan = of_funds plan plan.funds
