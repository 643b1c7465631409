-- What a crash may leave at each moment of a run of calls.
use Rattle.std.specs.Prelude.{◌⊎◌, ℕ, ◌≤◌, List}

-- One call: what was an image at some moment since t was one before the call, or is one now, and
-- nothing is forgotten.
pub record Advances {D : Type 0} (moment : D → ℕ) (is_image : D → List ℕ → Type 0)
    (was_image : D → ℕ → List ℕ → Type 0) (old new : D) : Type 0 where
  pub later : moment old ≤ moment new
  pub no_more : (t : ℕ) (image : List ℕ) → t ≤ moment old → was_image new t image
      → was_image old t image ⊎ is_image new image
  pub keeps : (t : ℕ) (image : List ℕ) → t ≤ moment old → was_image old t image
      → was_image new t image

-- At each moment from old to new every image has P.
pub record AtEachMoment {D : Type 0} (moment : D → ℕ) (was_image : D → ℕ → List ℕ → Type 0)
    (old new : D) (P : List ℕ → Type 0) : Type 0 where
  pub later : moment old ≤ moment new
  pub images : (image : List ℕ) → was_image new (moment old) image → P image
  -- for a run that began earlier
  pub since : (t : ℕ) (image : List ℕ) → t ≤ moment old → was_image new t image
      → was_image old t image ⊎ P image
