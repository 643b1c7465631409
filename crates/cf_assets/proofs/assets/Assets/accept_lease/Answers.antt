use Rattle.std.proofs.Common.{◌≡◌, ◌<◌, ◌≤◌, None, ◌∷◌, [], sym, subst, ap, arith}
use Rattle.cf_base.proofs.Common.{length-append}
use Rattle.cf_assets.specs.Register.{Register}
use Rattle.cf_assets.specs.Rows.{view_asset, view_origin, view_stage}
use Rattle.cf_assets.proofs.Leases.{new_months}
use Rattle.cf_assets.proofs.Standing.{extents_gift}
use Rattle.cf_model.specs.Common.{Asset, voucher_of}
use Rattle.cf_assets.proofs.assets.Assets.accept_lease.Goals as goal
use Rattle.cf_base.specs.Common.{most_entries}

pub invariant_of-self : goal.invariant_of-self
invariant_of-self c =
    let was = c.self.invariant in
    let inventory = c.self.inside.inventory in
    let row = c.new_row-row in
    let a : Asset = view_asset row.result in
    let few = subst (λ (r : Register). r.acts < most_entries) (sym c.self.view_is) c.requires.few in
    let early : inventory.closed ≤ a.service = subst (λ (r : Register). r.closed ≤ a.service) (sym c.self.view_is) (omega (arith, row.ensures.service, c.number_of_day.ensures.value, c.requires.early)) in
    let none : voucher_of a.origin ≡ None = ap (λ o. voucher_of (view_origin o)) row.ensures.acquired in
    record {
      acts = omega (arith, few);
      few = rw (c.enter.ensures.assets, length-append inventory.assets (a ∷ [])) (omega (arith, was.few));
      closed = omega (arith, was.closed, c.enter.ensures.closed);
      vouchers = omega (arith, was.vouchers);
      extents = rw c.enter.ensures.assets (extents_gift c.self.inside.vouchers.items inventory.assets a none was.extents);
      amortized = rw (c.enter.ensures.assets, c.enter.ensures.closed)
          (new_months inventory.assets a inventory.closed c.self.inside.amortized.items (ap view_stage row.ensures.stage) early was.amortized);
    }
