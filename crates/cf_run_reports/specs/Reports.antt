-- What a run of `report` says, by its status.
use Rattle.std.specs.Prelude.{◌≡◌, ◌≢◌, ℕ, Bool, List, Option, IsTrue, Err}
use Rattle.cf_model_articulation.specs.Articulates.{AllArticulate}
use Rattle.cf_journal_book.specs.Recovery.{recovered, RecoversTo}
use Rattle.cf_journal_book.specs.declared.refused.BookRefused.TheVariants as refused
use Rattle.cf_model.specs.Common.{Entry, Row, report_rows, IsSoundState}
use Rattle.cf_chart.specs.Common.{Plan}
use Rattle.cf_classes.specs.Statements.{AddUp, class_rows, component_rows, major_rows}
use Rattle.cf_classes.specs.Titles.{classes_title, components_title, major_title}
use Rattle.cf_model_closed.specs.ClosedYears.{ClosedYearsStay}
use Rattle.cf_statements.specs.Titles.{title_of}
use Rattle.cf_text.specs.Bytes.{statement_bytes}
use Rattle.cf_run_status.specs.declared.status.Status.{Status}
use Rattle.cf_run_status.specs.declared.status.Status.TheVariants as status
use Rattle.cf_run_status.specs.Devices.{Device}
use Rattle.cf_run_status.specs.Printing.{Prints}
use Rattle.cf_run_status.specs.Unwritten.{IsUnwritten}
use Rattle.cf_run_words.specs.declared.words.ReportKind.{ReportKind}
use Rattle.cf_run_words.specs.declared.words.ReportKind.TheVariants as report

-- what each of the ten statements is called, and its rows
abbrev pub heading_of : ReportKind → List ℕ
heading_of (report.Look kind) = title_of kind
heading_of report.Classes = classes_title
heading_of report.Components = components_title
heading_of report.Major = major_title

abbrev pub rows_of : Plan → List Entry → ℕ → ReportKind → List Row
rows_of plan history year (report.Look kind) = report_rows plan history year kind
rows_of plan history year report.Classes = class_rows plan history year
rows_of plan history year report.Components = component_rows plan history year
rows_of plan history year report.Major = major_rows plan history year

-- a statement of a history, as bytes
abbrev pub report_text : Plan → List Entry → ℕ → ReportKind → Bool → List ℕ
report_text plan history year kind csv =
    statement_bytes plan.city (heading_of kind) year csv (rows_of plan history year kind)

-- The statement of the chart and the history that the disk's content recovers to was printed. That
-- history is sound, no entry of it posts to a closed fiscal year, its seven statements articulate,
-- and in each year of it the classes of each fund sum to its balance, the components to net
-- position, and the major and other funds to the total.
pub record Reported {D : Type 0} (device : Device D) (disk : D) (year : ℕ) (kind : ReportKind)
    (csv : Bool) (held held' : Option (List ℕ)) (s : Status) : Type 0 where
  pub plan : Plan
  pub history : List Entry
  pub recovers : IsTrue device.tells → RecoversTo plan history (device.content disk)
  pub sound : IsSoundState (record { plan = plan; entries = history })
  pub closed : ClosedYearsStay plan history
  pub articulates : AllArticulate plan history
  pub sums : (y : ℕ) → AddUp plan history y
  pub prints : Prints (report_text plan history year kind csv) held held' s

abbrev pub ReportSays : {D : Type 0} → Device D → D → ℕ → ReportKind → Bool → Option (List ℕ)
    → Option (List ℕ) → Status → Type 0
ReportSays device disk year kind csv held held' status.Ok =
    Reported device disk year kind csv held held' status.Ok
ReportSays device disk year kind csv held held' status.WriteFault =
    Reported device disk year kind csv held held' status.WriteFault
ReportSays device disk year kind csv held held' status.DiskFault = held' ≡ held
ReportSays device disk year kind csv held held' status.NoMemory = held' ≡ held
ReportSays device disk year kind csv held held' (status.NotFounded len byte) = (held' ≡ held)
    × (IsTrue device.tells → recovered (device.content disk) ≡ Err (refused.NotFounded len byte))
ReportSays device disk year kind csv held held' (status.Damaged offset refusal) = (held' ≡ held)
    × (IsTrue device.tells → recovered (device.content disk) ≡ Err (refused.Damaged offset refusal))
ReportSays device disk year kind csv held held' _ = ⊥

abbrev pub ReportEnds : {D : Type 0} → Device D → ℕ → ReportKind → Bool → D → D → Option (List ℕ)
    → Option (List ℕ) → Status → Type 0
ReportEnds device year kind csv old new held held' s =
    IsUnwritten device old new × ReportSays device old year kind csv held held' s
    × (s ≢ status.DiskFault → device.faults new ≡ device.faults old)
