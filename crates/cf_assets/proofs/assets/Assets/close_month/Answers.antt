use Rattle.std.proofs.Common.{◌≡◌, ◌<◌, ◌∙◌, ap, sym, subst, arith}
use Rattle.cf_assets.specs.Inventory.{accumulated_at}
use Rattle.cf_assets.specs.Register.{Register}
use Rattle.cf_assets.proofs.Leases.{amortized_is, amortized_most, close_months}
use Rattle.cf_assets.proofs.assets.Assets.close_month.Goals as goal
use Rattle.cf_base.specs.Common.{most_entries}

pub overflow_add-before : goal.overflow_add-before
overflow_add-before c =
    let inventory = c.self.inside.inventory in
    let amortized = c.self.inside.amortized.items in
    let before : c.accumulated_after-before.result ≡ accumulated_at amortized inventory.closed = c.accumulated_after-before.ensures ∙ ap (accumulated_at amortized) c.closed.ensures.value in
    omega (
      arith,
      before,
      amortized_is inventory.assets inventory.closed amortized c.self.invariant.amortized inventory.closed (omega arith),
      amortized_most inventory.closed inventory.assets c.count-count.ensures.cheap,
      c.count-count.ensures.value,
      c.count-count.ensures.most,
      c.close-leased.ensures.most,
    )

pub invariant_of-self : goal.invariant_of-self
invariant_of-self c =
    let was = c.self.invariant in
    let inventory = c.self.inside.inventory in
    let amortized = c.self.inside.amortized.items in
    let few = subst (λ (r : Register). r.acts < most_entries) (sym c.self.view_is) c.requires.few in
    let before : c.accumulated_after-before.result ≡ accumulated_at amortized inventory.closed = c.accumulated_after-before.ensures ∙ ap (accumulated_at amortized) c.closed.ensures.value in
    record {
      acts = omega (arith, few);
      few = rw c.close-leased.ensures.assets (omega (arith, was.few));
      closed = omega (arith, was.closed, c.close-leased.ensures.closed);
      vouchers = omega (arith, was.vouchers);
      extents = rw c.close-leased.ensures.assets was.extents;
      amortized = rw (c.close-leased.ensures.assets, c.close-leased.ensures.closed, c.push_reserved.ensures.items)
          (close_months inventory.assets inventory.closed amortized c.accumulated_after-before.result c.close-leased.result before c.close-leased.ensures.leased was.amortized);
    }
