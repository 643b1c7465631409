use Rattle.std.proofs.Common.{◌≤◌, ◌∙◌, subst, sym, arith}
use Rattle.cf_assets.specs.Register.{Register}
use Rattle.cf_assets.proofs.Leases.{amortized_is, amortized_least, amortized_leased}
use Rattle.cf_assets.proofs.assets.Assets.amortized_to.Goals as goal

pub returns-clause-value : goal.returns-clause-value
returns-clause-value c =
    let inventory = c.self.inside.inventory in
    let l : c.args.months ≤ inventory.closed = subst (λ (r : Register). c.args.months ≤ r.closed) (sym c.self.view_is) c.requires in
    rw (← c.self.view_is)
    (c.accumulated_after.ensures ∙ amortized_is inventory.assets inventory.closed c.self.inside.amortized.items c.self.invariant.amortized c.args.months l ∙ amortized_leased c.args.months inventory.assets)

pub returns-clause-least : goal.returns-clause-least
returns-clause-least c =
    let inventory = c.self.inside.inventory in
    let l : c.args.months ≤ inventory.closed = subst (λ (r : Register). c.args.months ≤ r.closed) (sym c.self.view_is) c.requires in
    rw (← c.self.view_is)
    (omega (arith, c.accumulated_after.ensures ∙ amortized_is inventory.assets inventory.closed c.self.inside.amortized.items c.self.invariant.amortized c.args.months l, amortized_least c.args.months inventory.assets))

pub returns-clause-most : goal.returns-clause-most
returns-clause-most c =
    let inventory = c.self.inside.inventory in
    let l : c.args.months ≤ inventory.closed = subst (λ (r : Register). c.args.months ≤ r.closed) (sym c.self.view_is) c.requires in
    omega (
      arith,
      c.accumulated_after.ensures ∙ amortized_is inventory.assets inventory.closed c.self.inside.amortized.items c.self.invariant.amortized c.args.months l,
      amortized_least c.args.months inventory.assets,
      c.accumulated_to-all.ensures.value,
      c.accumulated_to-all.ensures.most,
    )
