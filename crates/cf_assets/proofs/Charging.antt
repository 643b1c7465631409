-- Depreciation: it fits its numbers, never falls, and what all assets have.
use Rattle.std.proofs.Common.{◌≡◌, ℕ, zero, suc, ◌+◌, ◌-◌, ◌*◌, ◌<◌, ◌≤◌, min, List, [], ◌∷◌, length, map, sum_by, refl, arith}
use Rattle.cf_base.proofs.Common.{sum_by-cons, mul-le}
use Rattle.cf_assets.specs.declared.rows.AssetRow.{AssetRow}
use Rattle.cf_assets.specs.Rows.{view_asset, AreSmall}
use Rattle.cf_model.specs.Common.{Asset, Stage, void, disposed, counted, depreciated, depreciation, charge}
use Rattle.cf_model.specs.Assets.{held}
use Rattle.cf_model.proofs.Common.{depreciated_most, depreciated_le, not_depreciated}
use Rattle.cf_base.specs.Common.{most_cents}

pub fits : (cost life months : ℕ) → cost ≤ most_cents → life < 65536 → cost * min months life < 18446744073709551616
fits cost life months l m = omega (arith, mul-le cost (min months life) most_cents 65535 l (omega arith))

pub land : (cost life months : ℕ) → life ≡ 0 → 0 ≡ depreciated cost life months
land cost zero months e = omega arith
land cost (suc life) months e = absurd (omega arith)

counted_le : (m n : ℕ) (s : Stage) → m ≤ n → counted s m ≤ counted s n
counted_le m n held l = l
counted_le m n void l = omega arith
counted_le m n (disposed year closed) l = omega arith

-- depreciation never falls, and is at most the cost
pub never_falls : (m n : ℕ) (a : Asset) → m ≤ n → depreciation m a ≤ depreciation n a
never_falls m n a l = depreciated_le a.cost a.life (counted a.stage m - a.service) (counted a.stage n - a.service) (omega (arith, counted_le m n a.stage l))

pub depreciation_most : (m : ℕ) (a : Asset) → depreciation m a ≤ a.cost
depreciation_most m a = depreciated_most a.cost a.life (counted a.stage m - a.service)

pub not_yet : (m : ℕ) (a : Asset) → counted a.stage m ≤ a.service → depreciation m a ≡ 0
not_yet m a l = not_depreciated a.cost a.life (counted a.stage m - a.service) (omega (arith, l))

none_first : (s : Stage) → counted s 0 ≡ 0
none_first held = refl
none_first void = refl
none_first (disposed year closed) = omega arith

-- ---- all assets

pub total_first : (assets : List Asset) → sum_by (depreciation 0) assets ≡ 0
total_first [] = refl
total_first (a ∷ assets) = omega (arith, sum_by-cons (depreciation 0) a assets, total_first assets, not_yet 0 a (omega (arith, none_first a.stage)))

-- a month adds what it charges
pub total_next : (closed : ℕ) (assets : List Asset) → sum_by (depreciation (closed + 1)) assets ≡ sum_by (depreciation closed) assets + sum_by (charge closed) assets
total_next closed [] = refl
total_next closed (a ∷ assets) =
    omega (
      arith,
      sum_by-cons (depreciation (closed + 1)) a assets,
      sum_by-cons (depreciation closed) a assets,
      sum_by-cons (charge closed) a assets,
      total_next closed assets,
      never_falls closed (closed + 1) a (omega arith),
    )

pub total_most : (months : ℕ) (rows : List AssetRow) → AreSmall rows → sum_by (depreciation months) (map view_asset rows) ≤ length rows * most_cents
total_most months [] small = omega arith
total_most months (r ∷ rows) small =
    omega (
      arith,
      sum_by-cons (depreciation months) (view_asset r) (map view_asset rows),
      depreciation_most months (view_asset r),
      small zero r (omega arith),
      total_most months rows (λ k d l. small (suc k) d (omega arith)),
    )
