-- What a run of `serve` says, by its status.
use Rattle.std.specs.Prelude.{◌≡◌, ◌≢◌, ◌⊎◌, ℕ, ◌<◌, ◌≤◌, List, ◌∷◌, [], ◌++◌, length, map, take, drop, Option, Some, None, IfSome, IsTrue, Err}
use Rattle.std.specs.Io.KnownBytes.{Appends}
use Rattle.cf_model_articulation.specs.Articulates.{AllArticulate}
use Rattle.cf_journal_book.specs.Books.{RecoversNear}
use Rattle.cf_journal_book.specs.Openings.{Refuses}
use Rattle.cf_journal_book.specs.Recovery.{recovered, RecoversTo}
use Rattle.cf_journal_book.specs.declared.refused.BookRefused.TheVariants as refused
use Rattle.cf_model.specs.Common.{Entry, IsSoundState}
use Rattle.cf_chart.specs.Common.{Plan}
use Rattle.cf_model_closed.specs.ClosedYears.{ClosedYearsStay}
use Rattle.cf_base_lines.specs.Sinks.{Wrote}
use Rattle.cf_disk.specs.Moments.{AtEachMoment}
use Rattle.cf_hall.specs.Fronts.{IsUnacknowledged, KeptSince}
use Rattle.cf_http.specs.Doors.{DoorTells}
use Rattle.cf_serve.specs.declared.end.ServeEnd.{ServeEnd}
use Rattle.cf_serve.specs.declared.end.ServeEnd.TheVariants as end
use Rattle.cf_serve_laws.specs.ServeEnds.{AllQuiet, SomeRose, EndsWhole, EndsUnwritten, links_given, served_text}
use Rattle.cf_serve_laws.specs.ServeRuns.{ServeRan, failed_said, faults_said}
use Rattle.cf_run_status.specs.declared.status.Status.{Status}
use Rattle.cf_run_status.specs.declared.status.Status.TheVariants as status
use Rattle.cf_run_status.specs.Devices.{Device}
use Rattle.cf_top.specs.DoorKinds.{DoorKind}
use Rattle.cf_run_status.specs.Refused.{status_of_refused}

-- Doors were kept over the journal of a disk, from the history that its content recovers to up to
-- the last one. That is sound, no entry of it posts to a closed fiscal year, and its statements
-- articulate. Whatever a crash leaves of the disk at the end recovers to it, or to it and the entry
-- in doubt, with which it is sound too; nothing is in doubt where no call was answered by a fault
-- of the disk. Until the journal was opened a crash left what it could have left before the run; at
-- each moment from then on, what recovers to a front of the last history that has the first one, or
-- to that and one entry. That, as the entry in doubt, is the entry of a call of a door's talk that
-- was answered by a fault of the disk, and that the step accepts there.
pub record Served {D R L : Type 0} (device : Device D) (kind : DoorKind R L) (links : ℕ)
    (old new : D) (olds news : List (DoorTells L)) : Type 0 where
  pub plan : Plan
  pub first : List Entry
  pub last : List Entry
  pub doubt : Option Entry
  pub recovers : IsTrue device.tells → RecoversTo plan first (device.content old)
  pub disk : D
  pub opening : AtEachMoment device.moment device.was_image old disk (device.is_image old)
  pub ran : ServeRan kind.tells kind.known plan first last links (device.faults old)
      (device.faults new) olds news
  pub closed : ClosedYearsStay plan last
  pub articulates : AllArticulate plan last
  pub images : IsTrue device.tells → (image : List ℕ) → device.is_image new image
      → RecoversNear plan last (λ e. doubt ≡ Some e) image
  pub doubt_sound : IfSome doubt
      (λ e. IsSoundState (record { plan = plan; entries = last ++ e ∷ [] }))
  pub clear : faults_said ran.doors.talks ≡ 0 → doubt ≡ None
  pub unacknowledged : IfSome doubt (IsUnacknowledged plan None (failed_said ran.doors.talks) last)
  pub any_moment : IsTrue device.tells
      → KeptSince device.moment device.was_image plan (length first) None
      (failed_said ran.doors.talks) last (device.moment disk) new

-- The doors are as they were. A read of the disk gives what it gave, and at each moment of the run
-- a crash left what it could have left before it.
pub record IsUnserved {D R : Type 0} (device : Device D) (old new : D)
    (doors doors' : List R) : Type 0 where
  pub doors_stay : doors' ≡ doors
  pub content : IsTrue device.tells → device.content new ≡ device.content old
  pub any_moment : AtEachMoment device.moment device.was_image old new (device.is_image old)

-- ---- how the doors were kept

abbrev pub KeepsDoors : {D R L : Type 0} → Device D → DoorKind R L → ℕ → D → D → List R → List R
    → ServeEnd → Type 0
KeepsDoors device kind links old new doors doors' (end.Served count) =
    Served device kind links old new (map kind.state doors) (map kind.state doors')
    × AllQuiet (map kind.state doors) (map kind.state doors')
    × (count ≡ links_given (map kind.state doors) (map kind.state doors'))
KeepsDoors device kind links old new doors doors' (end.DoorFailed count) =
    Served device kind links old new (map kind.state doors) (map kind.state doors')
    × SomeRose (map kind.state doors) (map kind.state doors')
KeepsDoors device kind links old new doors doors' (end.Unopened why) =
    IsUnserved device old new doors doors'
    × (IsTrue device.tells → Refuses why (recovered (device.content old)))
    × (why ≢ refused.Disk → device.faults new ≡ device.faults old)

-- ---- what is said of it

-- the line was written whole; or a front of it was, where the output failed
abbrev pub PutsLine : List ℕ → Option (List ℕ) → Option (List ℕ) → Status → Type 0
PutsLine line held held' status.Ok = Appends held held' line
PutsLine line held held' status.WriteFault = (rest : List ℕ) × Wrote held held' line rest
PutsLine line held held' _ = ⊥

abbrev pub TellsEnd : ServeEnd → Option (List ℕ) → Option (List ℕ) → Status → Type 0
TellsEnd (end.Served count) held held' s = PutsLine (served_text count) held held' s
TellsEnd (end.DoorFailed count) held held' s = (s ≡ status.DoorFault) × (held' ≡ held)
TellsEnd (end.Unopened why) held held' s = (s ≡ status_of_refused why) × (held' ≡ held)

-- ---- the run, by its status

abbrev pub ServeSays : {D R L : Type 0} → Device D → DoorKind R L → ℕ → D → D → List R → List R
    → Option (List ℕ) → Option (List ℕ) → Status → Type 0
ServeSays device kind links old new doors doors' held held' status.Ok =
    Served device kind links old new (map kind.state doors) (map kind.state doors')
    × EndsWhole (map kind.state doors) (map kind.state doors') held held'
ServeSays device kind links old new doors doors' held held' status.WriteFault =
    Served device kind links old new (map kind.state doors) (map kind.state doors')
    × EndsUnwritten (map kind.state doors) (map kind.state doors') held held'
ServeSays device kind links old new doors doors' held held' status.DoorFault =
    Served device kind links old new (map kind.state doors) (map kind.state doors')
    × SomeRose (map kind.state doors) (map kind.state doors') × (held' ≡ held)
ServeSays device kind links old new doors doors' held held' status.DiskFault =
    IsUnserved device old new doors doors' × (held' ≡ held)
ServeSays device kind links old new doors doors' held held' status.NoMemory =
    IsUnserved device old new doors doors' × (held' ≡ held)
ServeSays device kind links old new doors doors' held held' (status.NotFounded len byte) =
    IsUnserved device old new doors doors' × (held' ≡ held)
    × (IsTrue device.tells → recovered (device.content old) ≡ Err (refused.NotFounded len byte))
    × (device.faults new ≡ device.faults old)
ServeSays device kind links old new doors doors' held held' (status.Damaged offset refusal) =
    IsUnserved device old new doors doors' × (held' ≡ held)
    × (IsTrue device.tells
    → recovered (device.content old) ≡ Err (refused.Damaged offset refusal))
    × (device.faults new ≡ device.faults old)
ServeSays device kind links old new doors doors' held held' _ = ⊥

-- there are fewer doors than the words ask for: nothing was done
pub record IsShort {D R : Type 0} (count : ℕ) (old new : D) (doors doors' : List R)
    (held held' : Option (List ℕ)) (s : Status) : Type 0 where
  pub few : length doors < count
  pub ended : (s ≡ status.BadWords) ⊎ (s ≡ status.NoMemory)
  pub doors_stay : doors' ≡ doors
  pub out : held' ≡ held
  pub same_disk : new ≡ old

-- the first so many doors were kept, and the others are as they were
pub record ServedFirst {D R L : Type 0} (device : Device D) (kind : DoorKind R L) (count links : ℕ)
    (old new : D) (doors doors' : List R) (held held' : Option (List ℕ)) (s : Status) : Type 0 where
  pub enough : count ≤ length doors
  pub says : ServeSays device kind links old new (take count doors) (take count doors') held held' s
  pub others : drop count doors' ≡ drop count doors

abbrev pub ServeEnds : {D R L : Type 0} → Device D → DoorKind R L → ℕ → ℕ → D → D → List R → List R
    → Option (List ℕ) → Option (List ℕ) → Status → Type 0
ServeEnds device kind count links old new doors doors' held held' s =
    IsShort count old new doors doors' held held' s
    ⊎ ServedFirst device kind count links old new doors doors' held held' s
