-- What a run of `claim` says, by its status.
use Rattle.std.specs.Prelude.{◌≡◌, ◌≢◌, ℕ, List, Option, IsTrue, Ok, Err}
use Rattle.cf_model.specs.Common.{Day, Entry, IsSoundState}
use Rattle.cf_journal_book.specs.Recovery.{recovered, RecoversTo}
use Rattle.cf_journal_book.specs.declared.refused.BookRefused.TheVariants as refused
use Rattle.cf_chart.specs.Common.{Plan}
use Rattle.cf_claims.specs.Kept.{AreKept}
use Rattle.cf_claims.specs.Texts.{claim_text}
use Rattle.cf_base_lines.specs.Reads.{IsRead}
use Rattle.cf_grants.specs.declared.grant.Grant.{Grant}
use Rattle.cf_grants.specs.Faults.{Checked}
use Rattle.cf_run_status.specs.declared.status.Status.{Status}
use Rattle.cf_run_status.specs.declared.status.Status.TheVariants as status
use Rattle.cf_run_status.specs.Devices.{Device}
use Rattle.cf_run_status.specs.Printing.{Prints}
use Rattle.cf_run_status.specs.Unwritten.{IsUnwritten}

-- the lines of a claim were printed
abbrev pub ClaimPrints : Checked (List ℕ) → Option (List ℕ) → Option (List ℕ) → Status → Type 0
ClaimPrints text held held' s = (lines : List ℕ) × (text ≡ Ok lines) × Prints lines held held' s

-- with the bytes of a document: its claim, or its first fault
abbrev pub ClaimOver : Checked (List ℕ) → Option (List ℕ) → Option (List ℕ) → Status → Type 0
ClaimOver text held held' status.Ok = ClaimPrints text held held' status.Ok
ClaimOver text held held' status.WriteFault = ClaimPrints text held held' status.WriteFault
ClaimOver text held held' (status.GrantRefused fault) = (text ≡ Err fault) × (held' ≡ held)
ClaimOver text held held' status.NoMemory = held' ≡ held
ClaimOver text held held' _ = ⊥

-- the document was read to its end, or one byte more of it than a document may have
pub record WithDocument (plan : Plan) (history : List Entry) (grant : ℕ) (on : Day) (desk : ℕ)
    (left left' held held' : Option (List ℕ)) (s : Status) : Type 0 where
  pub bytes : List ℕ
  pub read : IsRead 1048577 left left' bytes
  pub over : ClaimOver (claim_text plan history bytes grant on desk) held held' s

abbrev pub ClaimRead : Plan → List Entry → ℕ → Day → ℕ → Option (List ℕ) → Option (List ℕ)
    → Option (List ℕ) → Option (List ℕ) → Status → Type 0
ClaimRead plan history grant on desk left left' held held' status.ReadFault = held' ≡ held
ClaimRead plan history grant on desk left left' held held' status.NoMemory = held' ≡ held
ClaimRead plan history grant on desk left left' held held' s =
    WithDocument plan history grant on desk left left' held held' s

-- The claim is of the chart and the history that the disk's content recovers to. That history is
-- sound; and of every grant the claims and the earlier claim bills keep the award, none is of a
-- voucher that was claimed, and no two are of one.
pub record Claimed {D : Type 0} (device : Device D) (disk : D) (grant : ℕ) (on : Day) (desk : ℕ)
    (left left' held held' : Option (List ℕ)) (s : Status) : Type 0 where
  pub plan : Plan
  pub history : List Entry
  pub recovers : IsTrue device.tells → RecoversTo plan history (device.content disk)
  pub sound : IsSoundState (record { plan = plan; entries = history })
  pub kept : (g : Grant) → AreKept plan g history
  pub document : WithDocument plan history grant on desk left left' held held' s

abbrev pub ClaimSays : {D : Type 0} → Device D → D → ℕ → Day → ℕ → Option (List ℕ) → Option (List ℕ)
    → Option (List ℕ) → Option (List ℕ) → Status → Type 0
ClaimSays device disk grant on desk left left' held held' status.Ok =
    Claimed device disk grant on desk left left' held held' status.Ok
ClaimSays device disk grant on desk left left' held held' status.WriteFault =
    Claimed device disk grant on desk left left' held held' status.WriteFault
ClaimSays device disk grant on desk left left' held held' (status.GrantRefused fault) =
    Claimed device disk grant on desk left left' held held' (status.GrantRefused fault)
ClaimSays device disk grant on desk left left' held held' status.ReadFault = held' ≡ held
ClaimSays device disk grant on desk left left' held held' status.NoMemory = held' ≡ held
ClaimSays device disk grant on desk left left' held held' status.DiskFault = (left' ≡ left)
    × (held' ≡ held)
ClaimSays device disk grant on desk left left' held held' (status.NotFounded len byte) =
    (left' ≡ left) × (held' ≡ held)
    × (IsTrue device.tells → recovered (device.content disk) ≡ Err (refused.NotFounded len byte))
ClaimSays device disk grant on desk left left' held held' (status.Damaged offset refusal) =
    (left' ≡ left) × (held' ≡ held)
    × (IsTrue device.tells
    → recovered (device.content disk) ≡ Err (refused.Damaged offset refusal))
ClaimSays device disk grant on desk left left' held held' _ = ⊥

-- the journal is only read
abbrev pub ClaimEnds : {D : Type 0} → Device D → ℕ → Day → ℕ → D → D → Option (List ℕ)
    → Option (List ℕ) → Option (List ℕ) → Option (List ℕ) → Status → Type 0
ClaimEnds device grant on desk old new left left' held held' s =
    IsUnwritten device old new × ClaimSays device old grant on desk left left' held held' s
    × (s ≢ status.DiskFault → device.faults new ≡ device.faults old)
