-- Where no entry is dated later, a statement through a day is that of the history.
use Rattle.std.proofs.Common.{◌≡◌, ℕ, ◌+◌, ◌<◌, ◌≤◌, ◌==◌, ◌&&◌, true, if◌then◌else◌, List, [], ◌∷◌, ◌++◌, flat_map, length, decimal, codes, refl, ap, ◌∙◌, arith}
use Rattle.cf_base.proofs.Common.{AllByRecursion}
use Rattle.cf_model.specs.Common.{Day, Entry, Row, LineNumbers, Line, sums_of, IsLegal}
use Rattle.cf_base.specs.Common.{most_entries}
use Rattle.cf_journal_book.specs.Watching.{all_posted}
use Rattle.cf_chart.specs.declared.rows.Fund.{Fund}
use Rattle.cf_chart.specs.Common.{Plan, is_of_year}
use Rattle.cf_statements.specs.Budget.{budget_rows, fund_rows, line_rows, source_rows}
use Rattle.cf_statements.specs.Sums.{Sums, heading}
use Rattle.cf_books_days.specs.declared.statement.DatedKind.{DatedKind}
use Rattle.cf_books_days.specs.declared.statement.DatedKind.TheVariants as dated
use Rattle.cf_books_days.specs.Statement.{rows_by}
use Rattle.cf_books_days.specs.Through.{is_through, sums_in, sums_through}
use Rattle.cf_books_days.proofs.Whole.{numbers_all, seen_all, sums_all}

-- ---- the comparison reads the numbers of the chart's lines in its year alone

module _ (plan : Plan) (s : Sums) (numbers : ℕ → ℕ → LineNumbers) (year : ℕ) (same : (line : ℕ) → line < length plan.lines → numbers line year ≡ s.numbers line year) where
  abbrev other : Sums
  other = record s { numbers = numbers }

  abbrev row_with : ℕ → LineNumbers → Row
  row_with number n = record { label = codes "Line " ++ decimal number; amounts = n.original ∷ n.appropriated ∷ n.expended ∷ n.encumbered ∷ n.room ∷ [] }

  same_lines : (fund number : ℕ) (lines : List Line) → number + length lines ≤ length plan.lines → line_rows plan other year fund number lines ≡ line_rows plan s year fund number lines
  same_lines fund number [] few = refl
  same_lines fund number (l ∷ lines) few = λ i.
      (if (l.fund == fund) && is_of_year plan year l then row_with number (same number (omega (arith, few)) i) ∷ [] else [])
      ++ same_lines fund (number + 1) lines (omega (arith, few)) i

  same_funds : (funds : List Fund) → flat_map (fund_rows plan other year) funds ≡ flat_map (fund_rows plan s year) funds
  same_funds [] = refl
  same_funds (f ∷ funds) = λ i. (heading f.name ∷ (source_rows s year f.id plan.sources ++ same_lines f.id 0 plan.lines (omega arith) i)) ++ same_funds funds i

  same_budget : budget_rows plan other year ≡ budget_rows plan s year
  same_budget = same_funds plan.funds

same_rows : (plan : Plan) (s : Sums) (numbers : ℕ → ℕ → LineNumbers) (year : ℕ) → ((line : ℕ) → line < length plan.lines → numbers line year ≡ s.numbers line year) →
    (kind : DatedKind) → rows_by plan (record s { numbers = numbers }) year kind ≡ rows_by plan s year kind
same_rows plan s numbers year same dated.Balance = refl
same_rows plan s numbers year same dated.Operating = refl
same_rows plan s numbers year same dated.Budget = same_budget plan s numbers year same
same_rows plan s numbers year same dated.Position = refl
same_rows plan s numbers year same dated.Activities = refl

-- ---- each statement

pub rows_all : (plan : Plan) (day : Day) (h : List Entry) (year : ℕ) (kind : DatedKind) → IsLegal plan h → length h ≤ most_entries → year < 2201 →
    AllByRecursion (λ e. is_through day e.change.on ≡ true) h → rows_by plan (sums_through plan day h) year kind ≡ rows_by plan (sums_of plan h) year kind
rows_all plan day h year kind legal few y all =
    ap (λ seen. rows_by plan (sums_in plan seen) year kind) (seen_all plan day h all)
    ∙ ap (λ (s : Sums). rows_by plan s year kind) (sums_all plan h)
    ∙ same_rows plan (sums_of plan h) (sums_in plan (all_posted plan h)).numbers year (λ line l. numbers_all plan h legal few line year l y) kind
