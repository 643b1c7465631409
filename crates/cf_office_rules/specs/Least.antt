-- The least line, and its least year, of which too much is asked, among changes in any order.
use Rattle.std.specs.Prelude.{ℕ, Bool, if◌then◌else◌, ◌==◌, ◌&&◌, ◌||◌, nat_lt, List, [], ◌∷◌, Option, Some, None, option_map, ℤ}
use Rattle.cf_model.specs.Common.{Refusal, closed_year}
use Rattle.cf_budget.specs.declared.changes.LineChange.{LineChange}
use Rattle.cf_calls.specs.Common.{overspends}
use Rattle.cf_office_rules.specs.declared.exceeds.Excess.{Excess}
use Rattle.cf_registers.specs.Moved.{asks_of}

-- an excess of a lower line, or of the same line in an earlier year
abbrev pub is_before : Excess → Excess → Bool
is_before x y = nat_lt x.line y.line || ((x.line == y.line) && nat_lt x.year y.year)

-- the one of the lower line and year; of one line and year, the first
abbrev pub lesser : Option Excess → Option Excess → Option Excess
lesser None other = other
lesser (Some x) None = Some x
lesser (Some x) (Some y) = if is_before y x then Some y else Some x

-- the least of these, and of one found before
abbrev pub least_from : (LineChange → Option Excess) → Option Excess → List LineChange
    → Option Excess
least_from f best [] = best
least_from f best (c ∷ changes) = least_from f (lesser best (f c)) changes

-- what the test of a line and year finds
abbrev pub excess_of : ℕ → ℕ → Option Refusal → Option Excess
excess_of line year None = None
excess_of line year (Some r) = Some (record { line = line; year = year; refusal = r })

-- what the test of a change finds, where lines and years have these rooms
abbrev pub excess_by : (ℕ → ℕ → ℤ) → LineChange → Option Excess
excess_by room c = excess_of c.line.number c.year
    (overspends c.line.number (asks_of c.by) (room c.line.number c.year))

abbrev pub refusal_in : Option Excess → Option Refusal
refusal_in best = option_map (λ x. x.refusal) best

-- the refusal of a year that may be closed, where there is one
abbrev pub closed_where : ℕ → Option ℕ → Option Refusal
closed_where first None = None
closed_where first (Some year) = closed_year first year
