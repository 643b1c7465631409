-- What serving a hall tells.
use Rattle.std.specs.Prelude.{◌≡◌, ◌⊎◌, ℕ, Bool, IsTrue, IfSome, List, [], ◌∷◌, ◌++◌, length, Option, Some, None}
use Rattle.cf_journal_book.specs.Books.{RecoversNear}
use Rattle.cf_journal_book.specs.DurableState.{DurableBook}
use Rattle.cf_journal_book.specs.declared.refused.BookRefused.TheVariants as refused
use Rattle.cf_model.specs.Common.{Entry, IsSoundState}
use Rattle.cf_chart.specs.Common.{Plan}
use Rattle.cf_hall.specs.Fronts.{IsUnacknowledged, KeptSince}
use Rattle.cf_http.specs.Doors.{DoorTells}
use Rattle.cf_http.specs.Links.{LinkTells}
use Rattle.cf_serve.specs.declared.end.ServeEnd.{ServeEnd}
use Rattle.cf_serve.specs.declared.end.ServeEnd.TheVariants.{Served, DoorFailed, Unopened}
use Rattle.cf_serve_laws.specs.ServeEnds.{AllQuiet, SomeRose, links_given}
use Rattle.cf_serve_laws.specs.ServeRuns.{ServeRan, failed_said, faults_said}

-- what a disk tells
pub record DiskTells (D : Type 0) : Type 1 where
  pub tells : Bool
  pub is_image : D → List ℕ → Type 0
  pub moment : D → ℕ
  pub was_image : D → ℕ → List ℕ → Type 0
  pub faults : D → ℕ

-- Whatever a crash leaves of the disk recovers to the history, or to it and the entry in doubt,
-- with which it is sound too.
pub record IsKeptOn {D : Type 0} (device : DiskTells D) (plan : Plan) (history : List Entry)
    (disk : D) : Type 0 where
  pub doubt : Option Entry
  pub images : IsTrue device.tells → (image : List ℕ) → device.is_image disk image
      → RecoversNear plan history (λ e. doubt ≡ Some e) image
  pub doubt_sound : IfSome doubt
      (λ e. IsSoundState (record { plan = plan; entries = history ++ e ∷ [] }))

-- The doors were served from the book's history to the last one, which the disk keeps, and gave so
-- many links. Where no call was answered by a fault of the disk, nothing came in doubt. At each
-- moment since then a crash left what recovers to a front of the last history that has the book's,
-- or to that and one entry. That, as the entry in doubt, was in doubt before, or is the entry of a
-- call of the doors' talks that was answered by a fault of the disk, and that the step accepts
-- there.
pub record HallRan {D L : Type 0} (device : DiskTells D) (tells : L → LinkTells) (known : Bool)
    (links : ℕ) (book : DurableBook D) (disk : D) (olds news : List (DoorTells L))
    (given : ℕ) : Type 0 where
  pub last : List Entry
  pub ran : ServeRan tells known book.plan book.entries last links (device.faults book.disk)
      (device.faults disk) olds news
  pub kept : IsKeptOn device book.plan last disk
  pub clear : faults_said ran.doors.talks ≡ 0 → (kept.doubt ≡ book.doubt) ⊎ (kept.doubt ≡ None)
  pub unacknowledged : IfSome kept.doubt
      (IsUnacknowledged book.plan book.doubt (failed_said ran.doors.talks) last)
  pub any_moment : IsTrue device.tells
      → KeptSince device.moment device.was_image book.plan (length book.entries) book.doubt
      (failed_said ran.doors.talks) last (device.moment book.disk) disk
  pub given_is : given ≡ links_given olds news

-- The doors were served and none failed; or one failed, whose count rose; or there was no memory,
-- and the doors and the disk are as they were.
abbrev pub ServesDoors : {D L : Type 0} → DiskTells D → (L → LinkTells) → Bool → ℕ → DurableBook D
    → D → List (DoorTells L) → List (DoorTells L) → ServeEnd → Type 0
ServesDoors device tells known links book disk olds news (Served given) =
    HallRan device tells known links book disk olds news given × AllQuiet olds news
ServesDoors device tells known links book disk olds news (DoorFailed given) =
    HallRan device tells known links book disk olds news given × SomeRose olds news
ServesDoors device tells known links book disk olds news (Unopened why) =
    (why ≡ refused.NoMemory) × (news ≡ olds) × (disk ≡ book.disk)
