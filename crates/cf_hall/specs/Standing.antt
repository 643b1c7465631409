-- A stripe's table with its tie.
use Rattle.std.specs.Prelude.{◌≡◌, ℕ, if◌then◌else◌, ◌==◌, Option, Some, None}
use Rattle.atomic_table.specs.Seated.{TableId}
use Rattle.cf_budget.specs.Tables.{Table, Tables, table_of, row_in}
use Rattle.cf_chart.specs.Common.{Plan}
use Rattle.cf_model.specs.Common.{stripe_of}
use Rattle.cf_hall_names.specs.Lists.{entries_of}
use Rattle.cf_registers.specs.Moved.{row_of}
use Rattle.cf_turns.specs.States.{PassState}

-- the table has the numbers of the stripe's lines by the list that the tie has seen
pub record StandsFor (table : TableId) (plan : Plan) (stripe : ℕ) (lines : Table)
    (p : PassState) : Type 0 where
  pub own : p.table ≡ table
  pub rows : (line year : ℕ) → stripe_of line ≡ stripe
      → row_in lines line year ≡ row_of plan (entries_of p.seen) line year

-- both are there, or both are away
abbrev pub IsStripe : TableId → Plan → ℕ → Option Table → Option PassState → Type 0
IsStripe table plan stripe None None = Unit {0}
IsStripe table plan stripe (Some rows) (Some p) = StandsFor table plan stripe rows p
IsStripe table plan stripe _ _ = ⊥

-- the tables with this one in its place
abbrev pub PutsTable : Tables → ℕ → Option Table → Tables → Type 0
PutsTable old stripe rows new = (n : ℕ)
    → table_of new n ≡ (if stripe == n then rows else table_of old n)
