-- What the register's fields stand for.
use Rattle.std.specs.Prelude.{◌-◌, ◌*◌, ◌≤◌, min, length}
use Rattle.std.specs.Vec.{vec_capacity}
use Rattle.cf_base.specs.Common.{most_entries}
use Rattle.cf_assets.specs.declared.assets.Assets.TheInside.{Inside}
use Rattle.cf_assets.specs.Extents.{AreExtents}
use Rattle.cf_assets.specs.Leases.{AreAmortized}
use Rattle.cf_assets.specs.Register.{Register}

abbrev pub register_of : Inside → Register
register_of a = record {
  assets = a.inventory.assets;
  closed = a.inventory.closed;
  vouchers = length a.vouchers.items;
  acts = a.acts;
  room = record {
    assets = a.inventory.room;
    vouchers = vec_capacity a.vouchers - length a.vouchers.items;
    months = min a.inventory.months (vec_capacity a.amortized - length a.amortized.items);
  };
}

-- each act adds at most one voucher of at most 32 assets, or one month
pub record IsSound (a : Inside) : Type 0 where
  pub acts : a.acts ≤ most_entries
  pub few : length a.inventory.assets ≤ 32 * a.acts
  pub closed : a.inventory.closed ≤ a.acts
  pub vouchers : length a.vouchers.items ≤ a.acts
  pub extents : AreExtents a.vouchers.items a.inventory.assets
  pub amortized : AreAmortized a.inventory.assets a.inventory.closed a.amortized.items
