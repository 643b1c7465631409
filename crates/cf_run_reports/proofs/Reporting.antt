-- A run of `report`.
use Rattle.std.proofs.Common.{◌≡◌, ℕ, Bool, List, Option, IsTrue, ap, sym, subst, ◌∙◌}
use Rattle.cf_model_articulation.specs.Articulates.{AllArticulate}
use Rattle.cf_journal_book.specs.declared.refused.BookRefused.{BookRefused}
use Rattle.cf_journal_book.specs.declared.refused.BookRefused.TheVariants as refused
use Rattle.cf_journal_book.specs.DurableState.{DurableBook}
use Rattle.cf_journal_book.specs.Openings.{OpensBook, OpensNone, Refuses}
use Rattle.cf_journal_book.specs.Recovery.{recovered, RecoversTo}
use Rattle.cf_classes.proofs.Legal.{add_up}
use Rattle.cf_model_closed.specs.ClosedYears.{ClosedYearsStay}
use Rattle.cf_model.specs.Common.{IsSoundState}
use Rattle.cf_run_status.specs.declared.status.Status.{Status}
use Rattle.cf_run_status.specs.declared.status.Status.TheVariants as status
use Rattle.cf_run_status.specs.Devices.{Device}
use Rattle.cf_run_status.specs.Printing.{Prints}
use Rattle.cf_run_status.specs.Unwritten.{IsUnwritten}
use Rattle.cf_run_reports.specs.Reports.{ReportEnds, ReportSays, report_text}
use Rattle.cf_run_status.specs.Refused.{status_of_refused}
use Rattle.cf_run_words.specs.declared.words.ReportKind.{ReportKind}

module _ {D : Type 0} (device : Device D) (year : ℕ) (kind : ReportKind) (csv : Bool) (old : D) (held held' : Option (List ℕ)) where
  says : (book : DurableBook D) (s : Status) → (IsTrue device.tells → RecoversTo book.plan book.entries (device.content old)) → IsSoundState (record { plan = book.plan; entries = book.entries }) → ClosedYearsStay book.plan book.entries → AllArticulate book.plan book.entries
      → Prints (report_text book.plan book.entries year kind csv) held held' s → ReportSays device old year kind csv held held' s
  says book status.Ok recovers sound closed articulates prints = record { plan = book.plan; history = book.entries; recovers = recovers; sound = sound; closed = closed; articulates = articulates; sums = add_up book.plan book.entries; prints = prints }
  says book status.WriteFault recovers sound closed articulates prints = record { plan = book.plan; history = book.entries; recovers = recovers; sound = sound; closed = closed; articulates = articulates; sums = add_up book.plan book.entries; prints = prints }
  says book status.NoMemory recovers sound closed articulates prints = prints
  says book _ recovers sound closed articulates prints = absurd prints

  -- a statement of the opened book was printed
  pub report_printed : (book : DurableBook D) (new : D) (s : Status) → OpensBook device.tells device.content device.is_image device.moment device.was_image device.faults old book → new ≡ book.disk
      → IsSoundState (record { plan = book.plan; entries = book.entries }) → ClosedYearsStay book.plan book.entries → AllArticulate book.plan book.entries → Prints (report_text book.plan book.entries year kind csv) held held' s → ReportEnds device year kind csv old new held held' s
  report_printed book new s opens same sound closed articulates prints = (
    subst (λ (d : D). IsUnwritten device old d) (sym same) (record { content = opens.reads; any_moment = opens.any_moment }),
    says book s opens.recovers sound closed articulates prints,
    λ fine. ap device.faults same ∙ opens.quiet,
  )

  -- no journal was opened
  pub report_refused : (new : D) (why : BookRefused) → OpensNone device.tells device.content device.is_image device.moment device.was_image device.faults old new why → held' ≡ held
      → ReportEnds device year kind csv old new held held' (status_of_refused why)
  report_refused new why none out = (record { content = none.reads; any_moment = none.any_moment }, by_cause why none.refuses, λ fine. none.quiet (λ e. fine (ap status_of_refused e)))
    where
      by_cause : (w : BookRefused) → (IsTrue device.tells → Refuses w (recovered (device.content old))) → ReportSays device old year kind csv held held' (status_of_refused w)
      by_cause refused.Disk refuses = out
      by_cause refused.NoMemory refuses = out
      by_cause (refused.NotFounded len byte) refuses = (out, refuses)
      by_cause (refused.Damaged offset refusal) refuses = (out, refuses)
