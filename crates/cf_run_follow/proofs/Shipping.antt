-- A run of `ship`.
use Rattle.std.proofs.Common.{◌≡◌, ℕ, ◌≤◌, nat_le, List, length, Option, IsTrue, Ok, ap, sym, subst, ◌∙◌, inl, inr}
use Rattle.cf_base.proofs.Common.{leb-true}
use Rattle.cf_model_articulation.specs.Articulates.{AllArticulate}
use Rattle.cf_journal_book.specs.declared.refused.BookRefused.{BookRefused}
use Rattle.cf_journal_book.specs.declared.refused.BookRefused.TheVariants as refused
use Rattle.cf_journal_book.specs.DurableState.{DurableBook}
use Rattle.cf_journal_book.specs.Openings.{OpensBook, OpensNone, Refuses}
use Rattle.cf_journal_book.specs.Recovery.{recovered}
use Rattle.cf_model.specs.Common.{Entry, TooLong, IsSoundState}
use Rattle.cf_chart.specs.Common.{must, Plan, chart_of}
use Rattle.cf_chart.proofs.Steps.{bind_ok, must_ok}
use Rattle.cf_model_closed.specs.ClosedYears.{ClosedYearsStay}
use Rattle.cf_journal.specs.Frames.{frames}
use Rattle.cf_journal_stream.specs.Readings.{Ships}
use Rattle.cf_journal_stream.specs.Streams.{stream_of}
use Rattle.cf_journal_stream.specs.declared.shipping.ShipEnd.{ShipEnd}
use Rattle.cf_journal_stream.specs.declared.shipping.ShipEnd.TheVariants as ship
use Rattle.cf_run_status.specs.Devices.{Device}
use Rattle.cf_run_status.specs.Unwritten.{IsUnwritten}
use Rattle.cf_run_status.specs.Refused.{status_of_refused}
use Rattle.cf_run_follow.specs.Ships.{IsOpened, Shipped, ShipEnds, ShipSays, status_of_shipped}

-- a chart that is accepted fits a stream
pub chart_short : (chart : List ℕ) (plan : Plan) → chart_of chart ≡ Ok plan → length chart ≤ 1048576
chart_short chart plan is = leb-true (length chart) 1048576 (must_ok (nat_le (length chart) 1048576) (TooLong 1048576) (bind_ok (must (nat_le (length chart) 1048576) (TooLong 1048576)) _ plan is).1)

module _ {D : Type 0} (device : Device D) (old : D) where
  -- what opening with the chart's bytes gives
  pub opened_by : (chart : List ℕ) (book : DurableBook D) → OpensBook device.tells device.content device.is_image device.moment device.was_image device.faults old book → chart_of chart ≡ Ok book.plan
      → (IsTrue device.tells → frames (device.content old) ≡ Ok (chart, book.entries)) → IsOpened device old chart book
  opened_by chart book opens states frames_are = record {
    frames_are = frames_are;
    states = states;
    recovers = opens.recovers;
    clear = opens.clear;
    unwritten = record { content = opens.reads; any_moment = opens.any_moment };
    quiet = opens.quiet;
  }

module _ {D : Type 0} (device : Device D) (from : ℕ) (old : D) (held held' : Option (List ℕ)) where
  says : (new : D) (how : ShipEnd) → Shipped device from old new held held' how → ShipSays device from old new held held' (status_of_shipped how)
  says new ship.Done shipped = shipped
  says new ship.WriteFault shipped = shipped
  says new ship.NoMemory shipped = inr shipped

  -- the same stream, by equal parts
  pub ships_by : (a b : List ℕ) (x y : List Entry) (m n : ℕ) (how : ShipEnd) → a ≡ b → x ≡ y → m ≡ n → Ships (stream_of a x m) held held' how → Ships (stream_of b y n) held held' how
  ships_by a b x y m n how p q r ships =
      subst (λ (c : List ℕ). Ships (stream_of c y n) held held' how) p (subst (λ (z : List Entry). Ships (stream_of a z n) held held' how) q (subst (λ (k : ℕ). Ships (stream_of a x k) held held' how) r ships))

  -- the stream of the opened book was shipped
  pub ship_ends : (chart : List ℕ) (book : DurableBook D) (new : D) (how : ShipEnd) → IsOpened device old chart book → new ≡ book.disk
      → IsSoundState (record { plan = book.plan; entries = book.entries }) → ClosedYearsStay book.plan book.entries → AllArticulate book.plan book.entries → Ships (stream_of chart book.entries from) held held' how → ShipEnds device from old new held held' (status_of_shipped how)
  ship_ends chart book new how opened same sound closed articulates ships = (
    subst (IsUnwritten device old) (sym same) opened.unwritten,
    says new how (record { chart = chart; book = book; opened = opened; same = same; sound = sound; closed = closed; articulates = articulates; ships = ships }),
    λ fine. ap device.faults same ∙ opened.quiet,
  )

  -- no journal was opened
  pub ship_refused : (new : D) (why : BookRefused) → OpensNone device.tells device.content device.is_image device.moment device.was_image device.faults old new why → held' ≡ held
      → ShipEnds device from old new held held' (status_of_refused why)
  ship_refused new why none out = (record { content = none.reads; any_moment = none.any_moment }, by_cause why none.refuses, λ fine. none.quiet (λ e. fine (ap status_of_refused e)))
    where
      by_cause : (w : BookRefused) → (IsTrue device.tells → Refuses w (recovered (device.content old))) → ShipSays device from old new held held' (status_of_refused w)
      by_cause refused.Disk refuses = out
      by_cause refused.NoMemory refuses = inl out
      by_cause (refused.NotFounded len byte) refuses = (out, refuses)
      by_cause (refused.Damaged offset refusal) refuses = (out, refuses)
