-- What a crash leaves while a hall is open.
use Rattle.std.specs.Prelude.{◌≡◌, ◌⊎◌, ℕ, ◌≤◌, List, Option, Some, take}
use Rattle.cf_journal_book.specs.Books.{RecoversNear}
use Rattle.cf_model.specs.Common.{Call, Entry}
use Rattle.cf_chart.specs.Common.{Plan}
use Rattle.cf_hall_names.specs.Telling.{IsOfCall}

-- An entry that no reply acknowledged: it was in doubt at opening, or is that of one of these
-- calls.
abbrev pub IsUnacknowledged : Plan → Option Entry → List Call → List Entry → Entry → Type 0
IsUnacknowledged plan in_doubt calls history e = (in_doubt ≡ Some e) ⊎ IsOfCall plan history calls e

-- the bytes recover to a front of the history that has so many entries at least, or to that and one
-- entry that is P of it
abbrev pub RecoversToFrontAnd : Plan → ℕ → (List Entry → Entry → Type 0) → List Entry → List ℕ
    → Type 0
RecoversToFrontAnd plan least P history image = (n : ℕ) × (least ≤ n)
    × RecoversNear plan (take n history) (P (take n history)) image

-- At each moment since this one, whatever a crash left recovers to a front of the history, no
-- shorter than it was then, or to that and one entry that no reply acknowledged: one in doubt then,
-- or that of one of these calls, which the step accepts over that front.
pub record KeptSince {D : Type 0} (moment : D → ℕ) (was_image : D → ℕ → List ℕ → Type 0)
    (plan : Plan) (least : ℕ) (in_doubt : Option Entry) (calls : List Call) (history : List Entry)
    (begun : ℕ) (disk : D) : Type 0 where
  pub later : begun ≤ moment disk
  pub images : (image : List ℕ) → was_image disk begun image
      → RecoversToFrontAnd plan least (IsUnacknowledged plan in_doubt calls) history image

-- it is that moment still, or the history was kept since then
abbrev pub IsKeptSince : {D : Type 0} → (D → ℕ) → (D → ℕ → List ℕ → Type 0) → Plan → ℕ
    → Option Entry → List Call → List Entry → ℕ → D → Type 0
IsKeptSince moment was_image plan least in_doubt calls history begun disk = (moment disk ≡ begun)
    ⊎ KeptSince moment was_image plan least in_doubt calls history begun disk
