-- Where the assets of vouchers stand: those of each voucher one after another, in the order of
-- their numbers.
use Rattle.std.specs.Prelude.{◌≡◌, ℕ, ◌<◌, ◌≤◌, Bool, ◌&&◌, nat_le, nat_lt, List, length, slice_index_or}
use Rattle.cf_model.specs.Common.{Asset, voucher_of, is_number}
use Rattle.cf_register_parts.specs.Extents.{extent_at}
use Rattle.cf_register_parts.specs.declared.extents.Extent.{Extent}

-- the places from first up to end, and no others
abbrev pub is_within : Extent → ℕ → Bool
is_within e k = nat_le e.first k && nat_lt k e.end

-- the assets of a voucher are those from first up to end
pub record IsExtent (n : ℕ) (assets : List Asset) (e : Extent) : Type 0 where
  pub ordered : e.first ≤ e.end
  pub within : e.end ≤ length assets
  pub are : (k : ℕ) (d : Asset) → k < length assets
      → is_number (voucher_of (slice_index_or assets k d).origin) n ≡ is_within e k

abbrev pub AreExtents : List Extent → List Asset → Type 0
AreExtents extents assets = (n : ℕ) → IsExtent n assets (extent_at extents n)
