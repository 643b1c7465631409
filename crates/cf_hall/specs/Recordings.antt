-- The list of a hall, with the counts of its entries by stripe, and what a pass learns of it.
use Rattle.std.specs.Prelude.{◌≡◌, ℕ, ◌+◌, ◌≤◌, List, [], ◌∷◌, ◌++◌, length}
use mathlib.Core.List.{IsPrefix}
use Rattle.atomic_table.specs.Seated.{TableId}
use Rattle.cf_chart.specs.Common.{Plan}
use Rattle.cf_model.specs.Common.{IsLegal}
use Rattle.cf_hall_names.specs.Following.{AreCounts}
use Rattle.cf_hall_names.specs.Lists.{entries_of}
use Rattle.cf_turns.specs.Lists.{TaggedEntry, longer}
use Rattle.cf_turns.specs.States.{PassState, RecorderState}

-- the recorder is of this table, its list is a legal history, and these are the counts of its
-- entries
pub record IsRecording (table : TableId) (plan : Plan) (recorder : RecorderState)
    (totals : List ℕ) : Type 0 where
  pub own : recorder.table ≡ table
  pub legal : IsLegal plan (entries_of recorder.list)
  pub counts : AreCounts plan recorder.list totals

-- the recorder is of the same table, gave out and ended no pass, and no call failed
pub record SameRecorder (old new : RecorderState) : Type 0 where
  pub table : new.table ≡ old.table
  pub opened : new.opened ≡ old.opened
  pub ended : new.ended ≡ old.ended
  pub failed : new.failed ≡ old.failed

-- a pass has asked, and the whole list is no shorter than what it read
pub record HasAsked (old now : PassState) (list : List TaggedEntry) : Type 0 where
  pub read : ℕ
  pub now_is : now ≡ record old { floor = read; reads = old.reads + 1; last_read = read }
  pub from : length old.seen ≤ read
  pub to : read ≤ length list

-- the last entry of the list was recorded for the pass, which has seen the list
pub record HasNoted (old : PassState) (list : List TaggedEntry) (new : PassState) : Type 0 where
  pub pass : new ≡ record old
      { places = old.places ++ length list ∷ []; seen = longer old.seen list }
  pub seen : IsPrefix old.seen new.seen
