-- What a run of `pool` says, by its status.
use Rattle.std.specs.Prelude.{◌≡◌, ◌≢◌, ⊤, ℕ, ℤ, pos, false, true, List, Option, IsTrue, sum, Vec, Result, Ok, Err}
use Rattle.std.specs.declared.alloc.Global.{Global}
use Rattle.cf_model.specs.Common.{Month, Entry, IsSoundState}
use Rattle.cf_journal_book.specs.Recovery.{recovered, RecoversTo}
use Rattle.cf_journal_book.specs.declared.refused.BookRefused.TheVariants as refused
use Rattle.cf_pool_cash.specs.Moves.{moves_of}
use Rattle.cf_chart.specs.Common.{Plan}
use Rattle.cf_pool.specs.declared.days.CashMove.{CashMove}
use Rattle.cf_pool.specs.declared.refused.PoolRefused.{PoolRefused}
use Rattle.cf_pool.specs.declared.refused.PoolRefused.TheVariants as pool_refused
use Rattle.cf_pool.specs.Shares.{ArePoolLines, has_no_share, weights}
use Rattle.cf_run_status.specs.declared.status.Status.{Status}
use Rattle.cf_run_status.specs.declared.status.Status.TheVariants as status
use Rattle.cf_run_status.specs.Devices.{Device}
use Rattle.cf_run_status.specs.Printing.{Prints}
use Rattle.cf_run_status.specs.Unwritten.{IsUnwritten}

-- movements of cash share an amount by these lines
pub record SharesBy (plan : Plan) (moves : List CashMove) (month : Month) (amount desk : ℕ)
    (lines : List ℕ) : Type 0 where
  pub some : has_no_share (sum (weights plan moves month)) ≡ false
  pub shared : ArePoolLines plan moves month amount desk lines

-- they share nothing, since the weights come to this
pub record SharesNone (plan : Plan) (moves : List CashMove) (month : Month) (all : ℤ) : Type 0 where
  pub none : has_no_share (sum (weights plan moves month)) ≡ true
  pub sum_is : all ≡ pos (sum (weights plan moves month))

-- the lines of an amount's shares, or that there are none
abbrev pub PoolMakes : Plan → List CashMove → Month → ℕ → ℕ → Result (Vec ℕ Global) PoolRefused
    → Type 0
PoolMakes plan moves month amount desk (Ok lines) =
    SharesBy plan moves month amount desk lines.items
PoolMakes plan moves month amount desk (Err (pool_refused.NoShare all)) =
    SharesNone plan moves month all
PoolMakes plan moves month amount desk (Err pool_refused.NoMemory) = ⊤

-- lines are printed; where there are none nothing is
abbrev pub PrintsShares : Result (Vec ℕ Global) PoolRefused → Option (List ℕ) → Option (List ℕ)
    → Status → Type 0
PrintsShares (Ok lines) held held' s = Prints lines.items held held' s
PrintsShares (Err (pool_refused.NoShare all)) held held' s = (s ≡ status.NoShare all)
    × (held' ≡ held)
PrintsShares (Err pool_refused.NoMemory) held held' s = (s ≡ status.NoMemory) × (held' ≡ held)

-- The lines were printed by which the chart and the history that the disk's content recovers to
-- share the amount. That history is sound.
pub record Pooled {D : Type 0} (device : Device D) (disk : D) (month : Month) (amount desk : ℕ)
    (held held' : Option (List ℕ)) (s : Status) : Type 0 where
  pub plan : Plan
  pub history : List Entry
  pub recovers : IsTrue device.tells → RecoversTo plan history (device.content disk)
  pub sound : IsSoundState (record { plan = plan; entries = history })
  pub lines : List ℕ
  pub shares : SharesBy plan (moves_of plan history) month amount desk lines
  pub prints : Prints lines held held' s

-- nothing was printed, since that history shares nothing
pub record NotPooled {D : Type 0} (device : Device D) (disk : D) (month : Month)
    (held held' : Option (List ℕ)) (all : ℤ) : Type 0 where
  pub plan : Plan
  pub history : List Entry
  pub recovers : IsTrue device.tells → RecoversTo plan history (device.content disk)
  pub sound : IsSoundState (record { plan = plan; entries = history })
  pub none : SharesNone plan (moves_of plan history) month all
  pub out : held' ≡ held

abbrev pub PoolSays : {D : Type 0} → Device D → D → Month → ℕ → ℕ → Option (List ℕ)
    → Option (List ℕ) → Status → Type 0
PoolSays device disk month amount desk held held' status.Ok =
    Pooled device disk month amount desk held held' status.Ok
PoolSays device disk month amount desk held held' status.WriteFault =
    Pooled device disk month amount desk held held' status.WriteFault
PoolSays device disk month amount desk held held' (status.NoShare all) =
    NotPooled device disk month held held' all
PoolSays device disk month amount desk held held' status.DiskFault = held' ≡ held
PoolSays device disk month amount desk held held' status.NoMemory = held' ≡ held
PoolSays device disk month amount desk held held' (status.NotFounded len byte) = (held' ≡ held)
    × (IsTrue device.tells → recovered (device.content disk) ≡ Err (refused.NotFounded len byte))
PoolSays device disk month amount desk held held' (status.Damaged offset refusal) = (held' ≡ held)
    × (IsTrue device.tells → recovered (device.content disk) ≡ Err (refused.Damaged offset refusal))
PoolSays device disk month amount desk held held' _ = ⊥

abbrev pub PoolEnds : {D : Type 0} → Device D → Month → ℕ → ℕ → D → D → Option (List ℕ)
    → Option (List ℕ) → Status → Type 0
PoolEnds device month amount desk old new held held' s =
    IsUnwritten device old new × PoolSays device old month amount desk held held' s
    × (s ≢ status.DiskFault → device.faults new ≡ device.faults old)
