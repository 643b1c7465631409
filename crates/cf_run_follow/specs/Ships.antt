-- What a run of `ship` says, by its status.
use Rattle.std.specs.Prelude.{◌≡◌, ◌≢◌, ◌⊎◌, ℕ, List, Option, IsTrue, None, Ok, Err}
use Rattle.cf_model_articulation.specs.Articulates.{AllArticulate}
use Rattle.cf_journal_book.specs.DurableState.{DurableBook}
use Rattle.cf_journal_book.specs.Recovery.{recovered, RecoversTo}
use Rattle.cf_journal_book.specs.declared.refused.BookRefused.TheVariants as refused
use Rattle.cf_chart.specs.Common.{chart_of}
use Rattle.cf_model_closed.specs.ClosedYears.{ClosedYearsStay}
use Rattle.cf_journal.specs.Frames.{frames}
use Rattle.cf_model.specs.Common.{IsSoundState}
use Rattle.cf_journal_stream.specs.Readings.{Ships}
use Rattle.cf_journal_stream.specs.Streams.{stream_of}
use Rattle.cf_journal_stream.specs.declared.shipping.ShipEnd.{ShipEnd}
use Rattle.cf_journal_stream.specs.declared.shipping.ShipEnd.TheVariants as ship
use Rattle.cf_run_status.specs.declared.status.Status.{Status}
use Rattle.cf_run_status.specs.declared.status.Status.TheVariants as status
use Rattle.cf_run_status.specs.Devices.{Device}
use Rattle.cf_run_status.specs.Unwritten.{IsUnwritten}

-- The journal of a disk was opened: the chart's bytes, and the book of what the disk's content
-- recovers to, with nothing in doubt.
pub record IsOpened {D : Type 0} (device : Device D) (old : D) (chart : List ℕ)
    (book : DurableBook D) : Type 0 where
  pub frames_are : IsTrue device.tells → frames (device.content old) ≡ Ok (chart, book.entries)
  pub states : chart_of chart ≡ Ok book.plan
  pub recovers : IsTrue device.tells → RecoversTo book.plan book.entries (device.content old)
  pub clear : book.doubt ≡ None
  pub unwritten : IsUnwritten device old book.disk
  pub quiet : device.faults book.disk ≡ device.faults old

-- The stream of the chart and the history that the disk's content recovers to went to the output,
-- or a front of it. That history is sound, no entry of it posts to a closed fiscal year, and its
-- statements articulate.
pub record Shipped {D : Type 0} (device : Device D) (from : ℕ) (old new : D)
    (held held' : Option (List ℕ)) (how : ShipEnd) : Type 0 where
  pub chart : List ℕ
  pub book : DurableBook D
  pub opened : IsOpened device old chart book
  pub same : new ≡ book.disk
  pub sound : IsSoundState (record { plan = book.plan; entries = book.entries })
  pub closed : ClosedYearsStay book.plan book.entries
  pub articulates : AllArticulate book.plan book.entries
  pub ships : Ships (stream_of chart book.entries from) held held' how

abbrev pub ShipSays : {D : Type 0} → Device D → ℕ → D → D → Option (List ℕ) → Option (List ℕ)
    → Status → Type 0
ShipSays device from old new held held' status.Ok = Shipped device from old new held held' ship.Done
ShipSays device from old new held held' status.WriteFault =
    Shipped device from old new held held' ship.WriteFault
ShipSays device from old new held held' status.NoMemory = (held' ≡ held)
    ⊎ Shipped device from old new held held' ship.NoMemory
ShipSays device from old new held held' status.DiskFault = held' ≡ held
ShipSays device from old new held held' (status.NotFounded len byte) = (held' ≡ held)
    × (IsTrue device.tells → recovered (device.content old) ≡ Err (refused.NotFounded len byte))
ShipSays device from old new held held' (status.Damaged offset refusal) = (held' ≡ held)
    × (IsTrue device.tells → recovered (device.content old) ≡ Err (refused.Damaged offset refusal))
ShipSays device from old new held held' _ = ⊥

-- the journal is only read
abbrev pub ShipEnds : {D : Type 0} → Device D → ℕ → D → D → Option (List ℕ) → Option (List ℕ)
    → Status → Type 0
ShipEnds device from old new held held' s =
    IsUnwritten device old new × ShipSays device from old new held held' s
    × (s ≢ status.DiskFault → device.faults new ≡ device.faults old)

abbrev pub status_of_shipped : ShipEnd → Status
status_of_shipped ship.Done = status.Ok
status_of_shipped ship.WriteFault = status.WriteFault
status_of_shipped ship.NoMemory = status.NoMemory
