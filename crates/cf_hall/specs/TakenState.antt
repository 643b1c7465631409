-- Stripes that were taken from their places, and what is owed to their tables.
use Rattle.std.specs.Prelude.{◌≡◌, ◌<◌, ℕ, true, List, [], Option, Some, None, IfSome}
use Rattle.atomic_table.specs.Seated.{TableId}
use Rattle.cf_budget.specs.declared.changes.LineChange.{LineChange}
use Rattle.cf_budget.specs.Changes.{CanApply, changes_at}
use Rattle.cf_budget.specs.Tables.{Tables, table_of, has_stripe, row_at, row_plus}
use Rattle.cf_model.specs.Common.{Entry, stripe_of}
use Rattle.cf_chart.specs.Common.{Plan}
use Rattle.cf_hall_names.specs.Lists.{entries_of, tie_at}
use Rattle.cf_registers.specs.Moved.{row_of}
use Rattle.cf_turns.specs.Lists.{TaggedEntry}
use Rattle.cf_turns.specs.States.{PassState}

pub record TakenState : Type 0 where
  pub lines : Tables
  pub owed : Option (List LineChange)
  pub ties : List (Option PassState)

-- the changes that are owed, where some are
abbrev pub owed_changes : Option (List LineChange) → List LineChange
owed_changes None = []
owed_changes (Some changes) = changes

-- the rows of a stripe's lines are those of the history, once the changes that are owed are made
abbrev pub AreRowsOf : Plan → List Entry → ℕ → Tables → List LineChange → Type 0
AreRowsOf plan history stripe lines owed =
    (line year : ℕ) → stripe_of line ≡ stripe
    → row_plus (row_at lines line year) (changes_at owed line year)
    ≡ row_of plan history line year

-- a stripe that was taken: its table is there, and stands for the list that its tie has seen
pub record IsTakenStripe (table : TableId) (plan : Plan) (stripe : ℕ) (lines : Tables)
    (owed : List LineChange) (p : PassState) : Type 0 where
  pub own : p.table ≡ table
  pub there : has_stripe lines stripe ≡ true
  pub rows : AreRowsOf plan (entries_of p.seen) stripe lines owed

-- the tables that are there are those of the ties that are there
pub record AreTakenStripes (table : TableId) (plan : Plan) (lines : Tables)
    (owed : Option (List LineChange)) (ties : List (Option PassState)) : Type 0 where
  pub stripes : (stripe : ℕ) → stripe < 8 → (p : PassState) → tie_at ties stripe ≡ Some p
      → IsTakenStripe table plan stripe lines (owed_changes owed) p
  pub away : (stripe : ℕ) → stripe < 8 → tie_at ties stripe ≡ None → table_of lines stripe ≡ None
  pub can : IfSome owed (CanApply lines)

-- the ties that are there have seen this list
abbrev pub AllSeen : List TaggedEntry → List (Option PassState) → Type 0
AllSeen list ties = (stripe : ℕ) → stripe < 8 → (p : PassState) → tie_at ties stripe ≡ Some p
    → p.seen ≡ list
