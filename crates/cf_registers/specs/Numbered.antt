-- Numbers name at most one asset, and at most one bond.
use Rattle.std.specs.Prelude.{◌≡◌, ℕ, ◌==◌, List, option_to_list}
use Rattle.std.specs.List.{filter}
use Rattle.cf_model.specs.Common.{Asset, Bond, asset_at, Registers, bond_at}

abbrev pub AreNumberedAssets : List Asset → Type 0
AreNumberedAssets assets = (k : ℕ)
    → filter (λ a. a.number == k) assets ≡ option_to_list (asset_at k assets)

abbrev pub AreNumberedBonds : List Bond → Type 0
AreNumberedBonds bonds = (k : ℕ)
    → filter (λ b. b.number == k) bonds ≡ option_to_list (bond_at k bonds)

pub record AreNumbered (s : Registers) : Type 0 where
  pub assets : AreNumberedAssets s.assets
  pub bonds : AreNumberedBonds s.bonds
