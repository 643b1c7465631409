-- One call over an archive: what its caller lends it, and what it owes.
use Rattle.std.specs.Prelude.{◌≡◌, ℕ, Bool, true, List, [], ◌∷◌, ◌++◌, None}
use Rattle.cf_budget.specs.declared.changes.LineChange.{LineChange}
use Rattle.cf_budget.specs.Changes.{CanApply}
use Rattle.cf_budget.specs.Tables.{Tables, has_line}
use Rattle.cf_model.specs.Common.{Call, Entry, Posted, registers_of, Adds, IsLegal, stripe_of, call_touches}
use Rattle.cf_calls.specs.declared.call.Call.TheVariants as call
use Rattle.cf_calls.specs.declared.reply.Posted.TheVariants as posted
use Rattle.cf_chart.specs.Common.{Plan}
use Rattle.cf_registers.specs.Moved.{AreTablesOf, Make, moved_by}
use Rattle.cf_journal_book.specs.declared.archive.Settled.{Settled}
use Rattle.cf_journal_book.specs.declared.archive.Settled.TheVariants.{Kept, Added}

-- the lines of the stripes that a call touches are lent
abbrev pub LendsCall : Plan → (ℕ → Bool) → Call → Type 0
LendsCall plan lends c = (line : ℕ) → call_touches plan (stripe_of line) c ≡ true
    → lends line ≡ true

-- every line's numbers are there, and they are those of the history
pub record HasAllLines (plan : Plan) (history : List Entry) (tables : Tables) : Type 0 where
  pub tables_of : AreTablesOf plan history tables
  pub whole : (line : ℕ) → has_line tables line ≡ true

abbrev pub given : Settled → Posted
given (Kept posted) = posted
given (Added reply owed) = posted.Reply reply

-- these changes of line numbers are what an entry that the step adds makes, and the tables have
-- room for them
pub record IsOwed (plan : Plan) (history : List Entry) (e : Entry) (tables : Tables)
    (changes : List LineChange) : Type 0 where
  pub legal : IsLegal plan history
  pub adds : Adds plan history e
  pub can : CanApply tables changes
  pub make : Make plan (moved_by plan (registers_of plan history) e.change.on e.change.act) changes

-- the entry is of this call
abbrev pub IsEntryOf : Call → Entry → Type 0
IsEntryOf (call.Change c) e = e.change ≡ record c { after = None }
IsEntryOf (call.Look l) e = ⊥

-- the history stays, or grows by one entry of this call, whose changes of line numbers are owed
abbrev pub Grows : Plan → List Entry → List Entry → Call → Tables → Settled → Type 0
Grows plan before after c tables (Kept posted) = after ≡ before
Grows plan before after c tables (Added reply owed) = (e : Entry) × (after ≡ before ++ e ∷ [])
    × IsEntryOf c e × IsOwed plan before e tables owed
