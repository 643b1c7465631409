-- The book of a hall, and how a call changes its list.
use Rattle.std.specs.Prelude.{◌≡◌, ◌⊎◌, ℕ, ◌≤◌, Bool, IfSome, IsTrue, List, [], ◌∷◌, ◌++◌, length, Option, None}
use Rattle.atomic_table.specs.Seated.{TableId}
use Rattle.cf_journal_book.specs.DurableState.{DurableBook}
use Rattle.cf_budget.specs.Tables.{Tables, has_line}
use Rattle.cf_budget.specs.declared.changes.LineChange.{LineChange}
use Rattle.cf_model.specs.Common.{Entry}
use Rattle.cf_chart.specs.Common.{Plan}
use Rattle.cf_hall_names.specs.Closing.{RoseBy}
use Rattle.cf_hall_names.specs.Lists.{calls_in, entries_of}
use Rattle.cf_hall_names.specs.Shares.{TotalsState}
use Rattle.cf_registers.specs.Lines.{LendsTouched}
use Rattle.cf_turns.specs.Lists.{TaggedEntry}
use Rattle.cf_turns.specs.States.{RecorderState}
use Rattle.cf_journal_book.specs.Archives.{IsOwed}
use Rattle.cf_hall.specs.Fronts.{IsKeptSince, IsUnacknowledged}

-- what contracts see of a hall that is shared
pub record SharedState : Type 0 where
  pub turns : TableId
  pub chart : Plan

-- what contracts see of its book
pub record BookState (D : Type 0) : Type 0 where
  pub archive : DurableBook D
  pub recorder : RecorderState

-- The history is the recorder's list, of this chart, and has the entries that it was opened with at
-- least. So many calls were accepted as it has entries, and the disk's count of faults has risen by
-- the fault replies at least. Where there was none it stands, and nothing came in doubt. No pass
-- was ended. What is in doubt was so at opening, or is the entry of a call that was answered by
-- such a fault, and that the step accepts. Since the hall was opened a crash left what recovers to
-- a front of the history, no shorter than it was then, or to that and one such entry.
pub record IsHallBook {D : Type 0} (tells : Bool) (moment : D → ℕ)
    (was_image : D → ℕ → List ℕ → Type 0) (faults : D → ℕ) (under : Plan) (first : ℕ)
    (doubt : Option Entry) (begun risen : ℕ) (archive : DurableBook D) (recorder : RecorderState)
    (totals : TotalsState) : Type 0 where
  pub plan : archive.plan ≡ under
  pub list : archive.entries ≡ entries_of recorder.list
  pub from : first ≤ length recorder.list
  pub accepted : totals.accepted ≡ length recorder.list
  pub faulted : RoseBy totals.faulted risen (faults archive.disk)
  pub quiet : totals.faulted ≡ 0 → faults archive.disk ≡ risen
  pub clear : totals.faulted ≡ 0 → (archive.doubt ≡ doubt) ⊎ (archive.doubt ≡ None)
  pub failed : totals.faulted ≡ length recorder.failed
  pub unacknowledged : IfSome archive.doubt
      (IsUnacknowledged archive.plan doubt (calls_in recorder.failed) archive.entries)
  pub none_ended : recorder.ended ≡ []
  pub since : IsTrue tells
      → IsKeptSince moment was_image archive.plan first doubt
      (calls_in recorder.failed) archive.entries begun archive.disk

-- the list stays, or grows by one entry for the pass of this number
abbrev pub ListGrows : List TaggedEntry → ℕ → List TaggedEntry → Type 0
ListGrows old number new = (new ≡ old) ⊎ ((e : Entry) × (new ≡ old ++ (e, number) ∷ []))

-- the history has one entry more than the list, which owes these changes to tables that were lent
-- for it
pub record WasAdded (plan : Plan) (list : List TaggedEntry) (history : List Entry) (lines : Tables)
    (changes : List LineChange) : Type 0 where
  pub entry : Entry
  pub last : history ≡ entries_of list ++ entry ∷ []
  pub owed : IsOwed plan (entries_of list) entry lines changes
  pub lent : LendsTouched plan (has_line lines) entry.change.act
