use Rattle.std.proofs.Common.{◌≡◌, ◌+◌, ◌<◌, ◌≤◌, ℕ, Some, List, length, refl, sym, subst, ap, ◌∙◌, arith}
use Rattle.cf_base.proofs.Common.{length-append}
use Rattle.cf_assets.specs.Register.{Register}
use Rattle.cf_assets.proofs.Leases.{bought_months}
use Rattle.cf_assets.proofs.Standing.{extents_push, bought_its}
use Rattle.cf_model.specs.Common.{VoucherItem}
use Rattle.cf_assets.proofs.assets.Assets.enter_voucher.Goals as goal
use Rattle.cf_base.specs.Common.{most_entries}

pub invariant_of-self : goal.invariant_of-self
invariant_of-self c =
    let was = c.self.invariant in
    let few = subst (λ (r : Register). r.acts < most_entries) (sym c.self.view_is) c.requires.few in
    let next : c.args.drawn.number ≡ length c.self.inside.vouchers.items + 1 = subst (λ (r : Register). c.args.drawn.number ≡ r.vouchers + 1) (sym c.self.view_is) c.requires.drawn.voucher in
    let is = c.buy_all.ensures.assets c.args.drawn.number refl in
    let items : length c.as_slice.result.now ≤ 32 = subst (λ (xs : List VoucherItem). length xs ≤ 32) (sym c.as_slice.ensures) c.requires.items in
    record {
      acts = omega (arith, few);
      few = omega (arith, was.few, c.buy_all.ensures.most, items);
      closed = omega (arith, was.closed, c.buy_all.ensures.closed);
      vouchers = rw (c.push_reserved.ensures.items, length-append c.self.inside.vouchers.items) (omega (arith, was.vouchers));
      extents = rw (c.push_reserved.ensures.items, c.count-first.ensures.value, c.count-end.ensures.value, is)
          (extents_push c.self.inside.vouchers.items c.self.inside.inventory.assets _ was.extents (λ k d l. bought_its c.args.chart.now c.args.drawn.number c.args.on _ _ c.as_slice.result.now k d l ∙ ap (λ (n : ℕ). Some n) next));
      amortized = rw (is, c.buy_all.ensures.closed)
          (bought_months c.args.chart.now c.args.drawn.number c.args.on _ _ c.as_slice.result.now c.self.inside.inventory.assets c.self.inside.inventory.closed c.self.inside.amortized.items was.amortized);
    }
