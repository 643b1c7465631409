-- What a call's answer tells its caller, who has seen a beginning of the history: its pass.
use Rattle.std.specs.Prelude.{◌≡◌, ◌⊎◌, ◌+◌, ◌^◌, ◌-◌, ◌≤◌, min, List, [], ◌∷◌, ◌++◌, length}
use Rattle.std.specs.List.{Contains}
use mathlib.Core.List.{IsPrefix}
use Rattle.cf_model.specs.Common.{Call, Change, Drawn, Entry, Posted, Reply, Accept, IsLegal, body_of, next_of, verdict_of}
use Rattle.cf_calls.specs.declared.call.Call.TheVariants as call
use Rattle.cf_calls.specs.declared.reply.Posted.TheVariants as posted
use Rattle.cf_chart.specs.Common.{Plan}
use Rattle.cf_turns.specs.Lists.{TaggedEntry}
use Rattle.cf_turns.specs.States.{PassState}
use Rattle.cf_hall_names.specs.Lists.{entries_of}

-- each answer asked once how long the list is, and keeps what the pass had seen
pub record Reads (old new : PassState) : Type 0 where
  pub table : new.table ≡ old.table
  pub number : new.number ≡ old.number
  pub reads : new.reads ≡ old.reads + 1
  pub seen : IsPrefix old.seen new.seen

-- a reply is of the list that the pass has seen now, which is no shorter than the word that it read
-- in this call
pub record Replies (old new : PassState) (r : Reply) : Type 0 where
  pub at : r.at ≡ length new.seen
  pub fresh : new.last_read ≤ r.at
  pub faults : new.faults ≡ old.faults
  pub failed : new.failed ≡ old.failed

-- the step adds an entry, recorded for this pass, and gives this reply
pub record Adds (plan : Plan) (old new : PassState) (c : Call) (r : Reply) : Type 0 where
  pub before : List TaggedEntry
  pub entry : Entry
  pub list : new.seen ≡ before ++ (entry, old.number) ∷ []
  pub seen : IsPrefix old.seen before
  pub body : body_of plan (entries_of before) c ≡ r.body
  pub next : next_of plan (entries_of before) c ≡ entries_of new.seen
  pub places : new.places ≡ old.places ++ r.at ∷ []

-- the step gives this reply, and adds nothing
pub record Keeps (plan : Plan) (old new : PassState) (c : Call) (r : Reply) : Type 0 where
  pub body : body_of plan (entries_of new.seen) c ≡ r.body
  pub next : next_of plan (entries_of new.seen) c ≡ entries_of new.seen
  pub places : new.places ≡ old.places

-- the call is a change that the rules accept over this history
pub record IsAccepted (plan : Plan) (history : List Entry) (c : Call) : Type 0 where
  pub change : Change
  pub drawn : Drawn
  pub called : c ≡ call.Change change
  pub accepts : verdict_of plan history change ≡ Accept drawn

-- the disk failed while a change was written that the rules accept over the list that the pass has
-- seen now
pub record Fails (plan : Plan) (old new : PassState) (c : Call) : Type 0 where
  pub legal : IsLegal plan (entries_of new.seen)
  pub accepted : IsAccepted plan (entries_of new.seen) c
  pub places : new.places ≡ old.places
  pub faults : new.faults ≡ min (old.faults + 1) (2 ^ 64 - 1)
  pub failed : new.failed ≡ old.failed ++ c ∷ []

-- nothing more is seen, no place is added, and no call failed
pub record IsSameSight (old new : PassState) : Type 0 where
  pub seen : new.seen ≡ old.seen
  pub places : new.places ≡ old.places
  pub failed : new.failed ≡ old.failed

abbrev pub Says : Plan → PassState → PassState → Call → Posted → Type 0
Says plan old new c (posted.Reply r) = Replies old new r
    × (Adds plan old new c r ⊎ Keeps plan old new c r)
Says plan old new c posted.NoMemory = IsSameSight old new × (new.faults ≡ old.faults)
Says plan old new c posted.Disk = Fails plan old new c

-- what the pass is told by the answer to a call
abbrev pub Tells : Plan → PassState → PassState → Call → Posted → Type 0
Tells plan old new c given = Reads old new × Says plan old new c given

-- ---- an entry that no reply acknowledged

-- it is that of one of these calls: a change that the step accepts over this history
pub record IsOfCall (plan : Plan) (history : List Entry) (calls : List Call)
    (e : Entry) : Type 0 where
  pub call : Call
  pub stands : Contains calls call
  pub adds : next_of plan history call ≡ history ++ e ∷ []
