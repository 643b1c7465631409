-- A book that takes the entries of another one's history.
use Rattle.std.specs.Prelude.{◌≡◌, ◌⊎◌, IsTrue, ℕ, ◌≤◌, List, [], ◌∷◌, ◌++◌, length, take, Option, Some, None, IfSome}
use Rattle.cf_journal_book.specs.DurableState.{DurableBook}
use Rattle.cf_journal_book.specs.Recovery.{RecoversTo, entry_refusal}
use Rattle.cf_model.specs.Common.{Entry}
use Rattle.cf_chart.specs.Common.{Plan}
use Rattle.cf_disk.specs.Moments.{AtEachMoment}
use Rattle.cf_follow.specs.Admitting.{Office, office}
use Rattle.cf_run_status.specs.Devices.{Device}

-- a history, and behind it the entry at which the disk failed, where it did
abbrev pub with_failed : List Entry → Option Entry → List Entry
with_failed history None = history
with_failed history (Some e) = history ++ e ∷ []

-- the bytes recover to a front of the history that has so many entries at least
abbrev pub RecoversToFrontOf : Plan → ℕ → List Entry → List ℕ → Type 0
RecoversToFrontOf plan least history image =
    (n : ℕ) × (least ≤ n) × RecoversTo plan (take n history) image

-- The history has the earlier one in front, and an entry in doubt is that at which the disk failed
-- since then. The disk wasn't touched, or at each moment since then a crash left what recovers to
-- a front, no shorter than the earlier history, of the history with that entry behind it.
pub record IsSince {D : Type 0} (device : Device D) (a b : DurableBook D) (failed : Option Entry)
    : Type 0 where
  pub plan : b.plan ≡ a.plan
  pub more : List Entry
  pub grows : b.entries ≡ a.entries ++ more
  pub doubt : IfSome b.doubt (λ e. failed ≡ Some e)
  pub any_moment : IsTrue device.tells → (b.disk ≡ a.disk)
      ⊎ AtEachMoment device.moment device.was_image a.disk b.disk
      (RecoversToFrontOf a.plan (length a.entries) (with_failed b.entries failed))

-- the same by any number of such steps, or by none, where nothing was in doubt
pub data IsReached {D : Type 0} (device : Device D) : DurableBook D → DurableBook D → Option Entry
    → Type 0 where
  here : (a : DurableBook D) → IsReached device a a None
  more : (a b c : DurableBook D) (failed : Option Entry) → IsReached device a b None
      → (b.doubt ≡ None → IsSince device b c failed) → IsReached device a c failed

-- what is reached from there is reached
pub reached_on : {D : Type 0} (device : Device D) (a b c : DurableBook D) (failed : Option Entry)
    → IsReached device a b None → IsReached device b c failed → IsReached device a c failed
reached_on device a b _ _ first (IsReached.here _) = first
reached_on device a b _ _ first (IsReached.more _ m c failed second step) =
    IsReached.more a m c failed (reached_on device a b m None first second) step

-- a book as an office that follows: it refuses what opening its journal would refuse
abbrev pub book_office : {D : Type 0} → Device D → Office (DurableBook D)
book_office device =
    office (λ b. b.entries) (λ b e. entry_refusal b.plan b.entries e) (λ b. device.faults b.disk)
    (IsReached device)
