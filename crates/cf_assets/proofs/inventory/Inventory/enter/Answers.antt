use Rattle.std.proofs.Common.{◌≡◌, ℕ, ◌+◌, ◌^◌, ◌<◌, ◌≤◌, List, arith, refl, sym, subst, length, map, sum, sum_by}
use Rattle.cf_base.proofs.Common.{length-append, length-map}
use Rattle.cf_assets.specs.Inventory.{Inventory}
use Rattle.cf_assets.specs.Rows.{view_asset, IsStage}
use Rattle.cf_assets.specs.InventoryView.{IsSound}
use Rattle.cf_assets.specs.Years.{bought_in, given_in, let_in}
use Rattle.cf_assets.specs.declared.inventory.Inventory.TheInside.{Inside}
use Rattle.cf_assets.specs.declared.rows.AssetRow.{AssetRow}
use Rattle.cf_assets.proofs.InService.{serving_push}
use Rattle.cf_assets.proofs.Keeping.{rows_push, accumulated_push, cost_push, held_bought, new_book, year_most, bought_most, given_most, let_most}
use Rattle.cf_register_parts.proofs.Cells.{cells_most}
use Rattle.cf_assets.proofs.inventory.Inventory.enter.Goals as goal
use Rattle.cf_base.specs.Common.{most_cents}
use Rattle.cf_model.specs.Common.{Asset}
use Rattle.cf_register_parts.specs.Limits.{most_items, most_total}
use Rattle.cf_register_parts.specs.Years.{AreYears}

-- the sums of the years have room for another cost
fits : (f : ℕ → Asset → ℕ) → ((y : ℕ) (a : Asset) → f y a ≤ a.cost) → (a : Inside) (cells : List ℕ) (r : AssetRow) → IsSound a → AreYears (λ y. sum_by (f y) (map view_asset a.rows.items)) cells → r.cost ≤ most_cents → sum cells + r.cost < 2 ^ 128
fits f most a cells r was are small = omega (arith, small, cells_most (λ y. sum_by (f y) (map view_asset a.rows.items)) cells most_total are (year_most f most (length a.accumulated.items) a.rows.items was.rows was.few))

pub add_cost-requires-clause-outlay_fits : goal.add_cost-requires-clause-outlay_fits
add_cost-requires-clause-outlay_fits c = fits bought_in bought_most c.self.inside c.self.inside.outlay c.args.row c.self.invariant c.self.invariant.outlay c.requires.new.cost

pub add_cost-requires-clause-donated_fits : goal.add_cost-requires-clause-donated_fits
add_cost-requires-clause-donated_fits c = fits given_in given_most c.self.inside c.self.inside.donated c.args.row c.self.invariant c.self.invariant.donated c.requires.new.cost

pub add_cost-requires-clause-leased_fits : goal.add_cost-requires-clause-leased_fits
add_cost-requires-clause-leased_fits c = fits let_in let_most c.self.inside c.self.inside.leased c.args.row c.self.invariant c.self.invariant.leased c.requires.new.cost

pub invariant_of-self : goal.invariant_of-self
invariant_of-self c =
    let was = c.self.invariant in
    let r = c.args.row in
    let rows = c.self.inside.rows.items in
    let accumulated = c.self.inside.accumulated.items in
    let new = c.requires.new in
    let few : length (map view_asset rows) < most_items = subst (λ (i : Inventory). length i.assets < most_items) (sym c.self.view_is) c.requires.few in
    let next : r.number ≡ length (map view_asset rows) + 1 = subst (λ (i : Inventory). r.number ≡ length i.assets + 1) (sym c.self.view_is) new.number in
    let early : length accumulated ≤ r.service = subst (λ (i : Inventory). i.closed ≤ r.service) (sym c.self.view_is) new.early in
    let at : c.len-at.result ≡ length rows = omega (arith, c.len-at.ensures) in
    record {
      few = rw (c.push_reserved.ensures.items, length-append rows) (omega (arith, few, length-map rows view_asset));
      months = was.months;
      rows = rw c.push_reserved.ensures.items
          (rows_push (length accumulated) rows r was.rows (record { number = omega (arith, next, length-map rows view_asset); cost = new.cost; from = new.from; to = new.to; stage = subst (IsStage (length accumulated)) (sym new.held) tt }));
      serving = rw (c.push_reserved.ensures.items, c.enlist.ensures.items) (serving_push (length accumulated) c.len-at.result rows c.self.inside.serving.items r at was.serving);
      accumulated = rw c.push_reserved.ensures.items (accumulated_push rows r accumulated new.held early was.accumulated);
      outlay = rw (c.push_reserved.ensures.items, c.add_cost.ensures.outlay) (cost_push bought_in _ rows r c.self.inside.outlay (held_bought r new.held) new.from new.to was.outlay);
      donated = rw (c.push_reserved.ensures.items, c.add_cost.ensures.donated) (cost_push given_in _ rows r c.self.inside.donated (λ y. refl) new.from new.to was.donated);
      leased = rw (c.push_reserved.ensures.items, c.add_cost.ensures.leased) (cost_push let_in _ rows r c.self.inside.leased (λ y. refl) new.from new.to was.leased);
      disposals = rw c.push_reserved.ensures.items (new_book (length accumulated) rows r c.self.inside.disposals new.held was.disposals);
    }
