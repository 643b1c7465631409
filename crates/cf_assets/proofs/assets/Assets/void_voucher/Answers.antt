use Rattle.std.proofs.Common.{◌<◌, sym, subst, arith}
use Rattle.cf_base.proofs.Common.{length-map}
use Rattle.cf_assets.specs.Register.{Register}
use Rattle.cf_assets.specs.Steps.{voids}
use Rattle.cf_assets.proofs.Leases.{void_months}
use Rattle.cf_assets.proofs.Standing.{extents_map, voids_keep}
use Rattle.cf_assets.proofs.assets.Assets.void_voucher.Goals as goal
use Rattle.cf_base.specs.Common.{most_entries}

pub invariant_of-self : goal.invariant_of-self
invariant_of-self c =
    let was = c.self.invariant in
    let few = subst (λ (r : Register). r.acts < most_entries) (sym c.self.view_is) c.requires.few in
    let n = c.args.voucher in
    let assets = c.self.inside.inventory.assets in
    record {
      acts = omega (arith, few);
      few = rw (c.void_all.ensures.assets, length-map assets (voids n)) (omega (arith, was.few));
      closed = omega (arith, was.closed, c.void_all.ensures.closed);
      vouchers = omega (arith, was.vouchers);
      extents = rw c.void_all.ensures.assets (extents_map (voids n) c.self.inside.vouchers.items assets (voids_keep n) was.extents);
      amortized = rw (c.void_all.ensures.assets, c.void_all.ensures.closed) (void_months n assets c.self.inside.inventory.closed c.self.inside.amortized.items was.amortized);
    }
