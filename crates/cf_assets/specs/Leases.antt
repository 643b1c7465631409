-- The amortization of leased assets, as a running number (GASB Statement 87).
use Rattle.std.specs.Prelude.{◌≡◌, ℕ, ◌+◌, ◌<◌, if◌then◌else◌, List, length, slice_index_or, sum_by}
use Rattle.cf_model.specs.Common.{Asset, depreciation, is_leased}

-- an asset's amortization over the first so many months, where it is leased
abbrev pub amortization : ℕ → Asset → ℕ
amortization months a = if is_leased a.origin then depreciation months a else 0

-- for each closed month a number: after so many closed months it is the amortization of all assets
-- over them
pub record AreAmortized (assets : List Asset) (closed : ℕ) (amortized : List ℕ) : Type 0 where
  pub count : length amortized ≡ closed
  pub are : (n : ℕ) → n < closed
      → slice_index_or amortized n 0 ≡ sum_by (amortization (n + 1)) assets
