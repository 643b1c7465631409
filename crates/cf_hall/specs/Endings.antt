-- What closing a hall tells.
use Rattle.std.specs.Prelude.{◌≡◌, ◌⊎◌, ℕ, Bool, IsTrue, IfSome, All, List, [], ◌∷◌, ◌++◌, length, map, Option, Some, None}
use mathlib.Core.List.{IsPrefix}
use Rattle.cf_journal_book.specs.Books.{RecoversNear}
use Rattle.cf_model.specs.Common.{Entry, IsSoundState}
use Rattle.cf_chart.specs.Common.{Plan}
use Rattle.cf_hall_names.specs.Closing.{Closes, RoseBy, failed_calls, faults_in, receipts_of}
use Rattle.cf_hall_names.specs.Lists.{entries_of}
use Rattle.cf_turns.specs.Lists.{TaggedEntry}
use Rattle.cf_turns.specs.States.{PassState}
use Rattle.cf_hall.specs.Fronts.{IsUnacknowledged, KeptSince}

-- A hall that had this chart and these passes was closed: there is one list of which each pass has
-- seen a beginning, and each entry was recorded for exactly one of them. Its history is sound, and
-- whatever a crash leaves of the disk recovers to it, or to it and the entry in doubt; at each
-- moment since the hall was opened, to a front of it, no shorter than the history was then, or to
-- that and one entry. That, as the entry in doubt, was in doubt at opening or is the entry of a
-- call of these passes that was answered by a fault of the disk, and that the step accepts there.
-- The disk's count of faults rose by the passes' fault replies at least. Where there was none it
-- stands, and nothing came in doubt.
pub record HallEnds {D : Type 0} (tells : Bool) (is_image : D → List ℕ → Type 0) (moment : D → ℕ)
    (was_image : D → ℕ → List ℕ → Type 0) (faults : D → ℕ) (plan : Plan) (first : ℕ)
    (in_doubt : Option Entry) (begun risen : ℕ) (kept : PassState) (passes : List PassState)
    (many : ℕ) (disk : D) : Type 0 where
  pub list : List TaggedEntry
  pub doubt : Option Entry
  pub many_is : many ≡ length list
  pub closes : Closes list (receipts_of kept ∷ map receipts_of passes)
  pub kept_seen : IsPrefix kept.seen list
  pub seen : All (λ p. IsPrefix p.seen list) passes
  pub sound : IsSoundState (record { plan = plan; entries = entries_of list })
  pub doubt_sound : IfSome doubt
      (λ e. IsSoundState (record { plan = plan; entries = entries_of list ++ e ∷ [] }))
  pub images : IsTrue tells → (image : List ℕ) → is_image disk image
      → RecoversNear plan (entries_of list) (λ e. doubt ≡ Some e) image
  pub unacknowledged : IfSome doubt
      (IsUnacknowledged plan in_doubt (failed_calls passes) (entries_of list))
  pub any_moment : IsTrue tells
      → KeptSince moment was_image plan first in_doubt (failed_calls passes)
      (entries_of list) begun disk
  pub faulted : RoseBy (faults_in (map receipts_of passes)) risen (faults disk)
  pub quiet : faults_in (map receipts_of passes) ≡ 0 → faults disk ≡ risen
  pub clear : faults_in (map receipts_of passes) ≡ 0 → (doubt ≡ in_doubt) ⊎ (doubt ≡ None)
