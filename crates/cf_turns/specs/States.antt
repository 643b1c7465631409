-- What contracts see of a recorder, a pass, a note, an ask and receipts. Each belongs to one table,
-- that of its `Turns`.
use Rattle.std.specs.Prelude.{ℕ, List}
use Rattle.atomic_table.specs.Seated.{TableId}
use Rattle.cf_calls.specs.declared.call.Call.{Call}
use Rattle.cf_turns.specs.Lists.{TaggedCall, TaggedEntry}

-- the whole list; how many passes were opened, and the numbers of those that were ended; what the
-- last ask that was heard had read; the calls that were answered by a fault of the disk
pub record RecorderState : Type 0 where
  pub table : TableId
  pub list : List TaggedEntry
  pub opened : ℕ
  pub ended : List ℕ
  pub floor : ℕ
  pub failed : List TaggedCall

-- a number of its own; the list that it has seen; its least length of the whole list; how often it
-- asked, and what it read last; the places of its accepted calls, how many fault replies it had,
-- and the calls that they answered
pub record PassState : Type 0 where
  pub table : TableId
  pub number : ℕ
  pub seen : List TaggedEntry
  pub floor : ℕ
  pub reads : ℕ
  pub last_read : ℕ
  pub places : List ℕ
  pub faults : ℕ
  pub failed : List Call

pub record NoteState : Type 0 where
  pub table : TableId
  pub list : List TaggedEntry
  pub floor : ℕ

-- the floor is the length that was read
pub record AskState : Type 0 where
  pub table : TableId
  pub floor : ℕ

pub record ReceiptsState : Type 0 where
  pub number : ℕ
  pub places : List ℕ
  pub faults : ℕ
