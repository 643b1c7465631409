-- A run of `pool`.
use Rattle.std.proofs.Common.{◌≡◌, ℕ, List, Option, IsTrue, Vec, Result, Ok, Err, ap, sym, subst, ◌∙◌, Global}
use Rattle.cf_model.specs.Common.{Month, IsSoundState}
use Rattle.cf_journal_book.specs.declared.refused.BookRefused.{BookRefused}
use Rattle.cf_journal_book.specs.declared.refused.BookRefused.TheVariants as refused
use Rattle.cf_journal_book.specs.DurableState.{DurableBook}
use Rattle.cf_journal_book.specs.Openings.{OpensBook, OpensNone, Refuses}
use Rattle.cf_journal_book.specs.Recovery.{recovered, RecoversTo}
use Rattle.cf_pool_cash.specs.Moves.{moves_of}
use Rattle.cf_pool.specs.declared.days.CashMove.{CashMove}
use Rattle.cf_pool.specs.declared.refused.PoolRefused.{PoolRefused}
use Rattle.cf_pool.specs.declared.refused.PoolRefused.TheVariants as pool_refused
use Rattle.cf_run_status.specs.declared.status.Status.{Status}
use Rattle.cf_run_status.specs.declared.status.Status.TheVariants as status
use Rattle.cf_run_status.specs.Devices.{Device}
use Rattle.cf_run_reports.specs.Pools.{SharesBy, PoolMakes, PrintsShares, PoolSays, PoolEnds}
use Rattle.cf_run_status.specs.Printing.{Prints}
use Rattle.cf_run_status.specs.Unwritten.{IsUnwritten}
use Rattle.cf_run_status.specs.Refused.{status_of_refused}

module _ {D : Type 0} (device : Device D) (month : Month) (amount desk : ℕ) (old : D) (held held' : Option (List ℕ)) where
  printed : (book : DurableBook D) (lines : List ℕ) (s : Status) → (IsTrue device.tells → RecoversTo book.plan book.entries (device.content old)) → IsSoundState (record { plan = book.plan; entries = book.entries })
      → SharesBy book.plan (moves_of book.plan book.entries) month amount desk lines → Prints lines held held' s → PoolSays device old month amount desk held held' s
  printed book lines status.Ok recovers sound shares prints = record { plan = book.plan; history = book.entries; recovers = recovers; sound = sound; lines = lines; shares = shares; prints = prints }
  printed book lines status.WriteFault recovers sound shares prints = record { plan = book.plan; history = book.entries; recovers = recovers; sound = sound; lines = lines; shares = shares; prints = prints }
  printed book lines status.NoMemory recovers sound shares prints = prints
  printed book lines _ recovers sound shares prints = absurd prints

  says : (book : DurableBook D) (made : Result (Vec ℕ Global) PoolRefused) (s : Status) → (IsTrue device.tells → RecoversTo book.plan book.entries (device.content old)) → IsSoundState (record { plan = book.plan; entries = book.entries })
      → PoolMakes book.plan (moves_of book.plan book.entries) month amount desk made → PrintsShares made held held' s → PoolSays device old month amount desk held held' s
  says book (Ok lines) s recovers sound makes prints = printed book lines.items s recovers sound makes prints
  says book (Err (pool_refused.NoShare all)) s recovers sound makes prints =
      subst (PoolSays device old month amount desk held held') (sym prints.0) (record { plan = book.plan; history = book.entries; recovers = recovers; sound = sound; none = makes; out = prints.1 })
  says book (Err pool_refused.NoMemory) s recovers sound makes prints = subst (PoolSays device old month amount desk held held') (sym prints.0) prints.1

  -- the shares of the opened book were printed, or there were none
  pub pool_printed : (book : DurableBook D) (moves : List CashMove) (made : Result (Vec ℕ Global) PoolRefused) (new : D) (s : Status)
      → OpensBook device.tells device.content device.is_image device.moment device.was_image device.faults old book → moves ≡ moves_of book.plan book.entries → new ≡ book.disk
      → IsSoundState (record { plan = book.plan; entries = book.entries }) → PoolMakes book.plan moves month amount desk made → PrintsShares made held held' s → PoolEnds device month amount desk old new held held' s
  pool_printed book moves made new s opens moved same sound makes prints = (
    subst (λ (d : D). IsUnwritten device old d) (sym same) (record { content = opens.reads; any_moment = opens.any_moment }),
    says book made s opens.recovers sound (subst (λ (m : List CashMove). PoolMakes book.plan m month amount desk made) moved makes) prints,
    λ fine. ap device.faults same ∙ opens.quiet,
  )

  -- no journal was opened
  pub pool_refused_by : (new : D) (why : BookRefused) → OpensNone device.tells device.content device.is_image device.moment device.was_image device.faults old new why → held' ≡ held
      → PoolEnds device month amount desk old new held held' (status_of_refused why)
  pool_refused_by new why none out = (record { content = none.reads; any_moment = none.any_moment }, by_cause why none.refuses, λ fine. none.quiet (λ e. fine (ap status_of_refused e)))
    where
      by_cause : (w : BookRefused) → (IsTrue device.tells → Refuses w (recovered (device.content old))) → PoolSays device old month amount desk held held' (status_of_refused w)
      by_cause refused.Disk refuses = out
      by_cause refused.NoMemory refuses = out
      by_cause (refused.NotFounded len byte) refuses = (out, refuses)
      by_cause (refused.Damaged offset refusal) refuses = (out, refuses)

-- a disk fault isn't what printing shares ends with
pub prints_no_disk_fault : (made : Result (Vec ℕ Global) PoolRefused) (held held' : Option (List ℕ)) (s : Status) → PrintsShares made held held' s → s ≡ status.DiskFault → ⊥
prints_no_disk_fault (Ok lines) held held' s prints is = subst (Prints lines.items held held') is prints
prints_no_disk_fault (Err (pool_refused.NoShare all)) held held' s prints is = cc (sym prints.0 ∙ is)
prints_no_disk_fault (Err pool_refused.NoMemory) held held' s prints is = cc (sym prints.0 ∙ is)
