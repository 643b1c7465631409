use Rattle.std.proofs.Common.{◌≤◌, ◌∙◌, sym, subst, arith, length, map}
use Rattle.cf_assets.specs.Inventory.{Inventory}
use Rattle.cf_assets.specs.Rows.{view_asset}
use Rattle.cf_assets.proofs.Charging.{total_most}
use Rattle.cf_assets.proofs.Keeping.{accumulated_is}
use Rattle.cf_assets.proofs.inventory.Inventory.accumulated_to.Goals as goal

pub returns-clause-value : goal.returns-clause-value
returns-clause-value c =
    let rows = c.self.inside.rows.items in
    let accumulated = c.self.inside.accumulated.items in
    let l : c.args.months ≤ length accumulated = subst (λ (i : Inventory). c.args.months ≤ i.closed) (sym c.self.view_is) c.requires in
    rw (← c.self.view_is) (c.accumulated_after.ensures ∙ accumulated_is (map view_asset rows) accumulated c.self.invariant.accumulated c.args.months l)

pub returns-clause-most : goal.returns-clause-most
returns-clause-most c =
    let rows = c.self.inside.rows.items in
    let accumulated = c.self.inside.accumulated.items in
    let was = c.self.invariant in
    let l : c.args.months ≤ length accumulated = subst (λ (i : Inventory). c.args.months ≤ i.closed) (sym c.self.view_is) c.requires in
    omega (arith, was.few, c.accumulated_after.ensures ∙ accumulated_is (map view_asset rows) accumulated was.accumulated c.args.months l, total_most c.args.months rows (λ k d m. (was.rows k d m).cost))
