-- What a chart has, and what a journal has.
use Rattle.std.specs.Prelude.{ℕ, ◌-◌, Bool, true, false, not, List, [], ◌∷◌, ◌++◌, length, slice_get, count_by, flat_map, Option, Some, None, codes, decimal}
use Rattle.std.specs.Borrow.{Bor}
use Rattle.cf_base.specs.Common.{day_text}
use Rattle.cf_model.specs.Common.{Act, Close, Entry, LaterLevel, Level}
use Rattle.cf_calls.specs.declared.acts.Period.TheVariants as period
use Rattle.cf_chart.specs.Common.{Plan}
use Rattle.cf_chart.specs.declared.rows.Fund.{Fund}
use Rattle.cf_chart.specs.declared.rows.Level.TheVariants as level

-- a fact with its name, on a line
unfoldable pub fact : List ℕ → List ℕ → List ℕ
fact name value = name ++ (codes ": " ++ (value ++ 10 ∷ []))

unfoldable pub count_fact : List ℕ × ℕ → List ℕ
count_fact f = f.0 ++ (codes ": " ++ (decimal f.1 ++ 10 ∷ []))

-- numbers with their names, a line each
abbrev pub counts_text : List (List ℕ × ℕ) → List ℕ
counts_text facts = flat_map count_fact facts

abbrev pub named : Bor (List ℕ) × ℕ → List ℕ × ℕ
named f = ((f.0).now, f.1)

abbrev pub chart_counts : Plan → List (List ℕ × ℕ)
chart_counts plan =
    (codes "first fiscal year", plan.first_year) ∷ (codes "first month", plan.first_month)
    ∷ (codes "functions", length plan.functions)
    ∷ (codes "funds", length plan.funds) ∷ (codes "departments", length plan.departments)
    ∷ (codes "objects", length plan.objects)
    ∷ (codes "sources", length plan.sources) ∷ (codes "lines", length plan.lines)
    ∷ (codes "desks", length plan.desks) ∷ []

-- a level in the words of a chart
abbrev pub level_word : Level → List ℕ
level_word level.Department = codes "department"
level_word level.Class = codes "class"
level_word level.Object = codes "object"

-- at which level a fund is controlled later, and from which fiscal year on
abbrev pub later_text : ℕ → Option LaterLevel → List ℕ
later_text fund None = []
later_text fund (Some l) =
    (codes "fund " ++ (decimal fund ++ codes " is controlled by "))
    ++ (level_word l.level ++ (codes " from " ++ (decimal l.year ++ 10 ∷ [])))

-- a line a fund that changes its level
abbrev pub laters_text : List Fund → List ℕ
laters_text funds = flat_map (λ f. later_text f.id f.later) funds

abbrev pub chart_text : Plan → List ℕ
chart_text plan = fact (codes "city") plan.city
    ++ (counts_text (chart_counts plan) ++ laters_text plan.funds)

-- ---- a journal

-- whether an act closes a month, or a fiscal year
unfoldable pub closes : Bool → Act → Bool
closes years (Close (period.Month m)) = not years
closes years (Close (period.Year y)) = years
closes years _ = false

abbrev pub closed : Bool → List Entry → ℕ
closed years entries = count_by (λ e. closes years e.change.act) entries

abbrev pub day_or_none : Option Entry → List ℕ
day_or_none None = codes "none"
day_or_none (Some e) = day_text e.change.on

-- the day of the last entry
abbrev pub last_day : List Entry → List ℕ
last_day entries = day_or_none (slice_get entries (length entries - 1))

abbrev pub journal_counts : List Entry → List (List ℕ × ℕ)
journal_counts entries =
    (codes "entries", length entries) ∷ (codes "closed months", closed false entries)
    ∷ (codes "closed years", closed true entries) ∷ []

abbrev pub journal_text : List Entry → List ℕ
journal_text entries =
    fact (codes "last day") (last_day entries) ++ counts_text (journal_counts entries)
