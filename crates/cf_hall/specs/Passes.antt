-- A pass of a hall, and what it sees after an answer.
use Rattle.std.specs.Prelude.{◌≡◌, ℕ, ◌+◌, ◌^◌, ◌-◌, min, List, [], ◌∷◌, ◌++◌, length}
use Rattle.atomic_table.specs.Seated.{TableId}
use Rattle.cf_model.specs.Common.{Call, Posted}
use Rattle.cf_calls.specs.declared.reply.Posted.TheVariants as posted
use Rattle.cf_hall_names.specs.Shares.{SharesState}
use Rattle.cf_turns.specs.Lists.{TaggedCall, TaggedEntry, longer}
use Rattle.cf_turns.specs.States.{PassState}

-- the pass is of this table, and its part of the ledgers counts its accepted calls and its fault
-- replies
pub record IsCounted (table : TableId) (p : PassState) (s : SharesState) : Type 0 where
  pub own : p.table ≡ table
  pub part : s.parts ≡ 1
  pub accepted : s.accepted ≡ length p.places
  pub faulted : p.faults ≡ min s.faulted (2 ^ 64 - 1)
  pub failed : s.faulted ≡ length p.failed

-- after an answer that added nothing: the whole list, but after want of memory what it had seen
abbrev pub Sights : PassState → List TaggedEntry → Call → Posted → PassState → Type 0
Sights old list c (posted.Reply r) new = new ≡ record old { seen = longer old.seen list }
Sights old list c posted.NoMemory new = new ≡ old
Sights old list c posted.Disk new = new
    ≡ record old {
      seen = longer old.seen list;
      faults = min (old.faults + 1) (2 ^ 64 - 1);
      failed = old.failed ++ c ∷ [];
    }

-- the calls that were answered by a fault of the disk, after this answer to a call of the pass of
-- this number
abbrev pub failed_after : List TaggedCall → Call → ℕ → Posted → List TaggedCall
failed_after failed c number posted.Disk = failed ++ (c, number) ∷ []
failed_after failed c number _ = failed

-- how many fault replies that is
abbrev pub faults_by : Posted → ℕ
faults_by posted.Disk = 1
faults_by _ = 0
