use Rattle.std.proofs.Common.{◌≡◌, ◌<◌, ◌-◌, arith, refl, sym, subst, ap, ◌∙◌, length, map, set, get_or, sum_by, ℕ}
use Rattle.cf_base.proofs.Common.{length-map, length-set}
use Rattle.cf_assets.specs.Inventory.{Inventory, IsHeldAt, staged}
use Rattle.cf_assets.specs.InventoryView.{inventory_of}
use Rattle.cf_assets.specs.Rows.{view_asset}
use Rattle.cf_assets.specs.Years.{bought_in, given_in, let_in, book_in}
use Rattle.cf_assets.specs.declared.inventory.Inventory.TheInside.{Inside}
use Rattle.cf_assets.specs.declared.rows.AssetRow.{AssetRow}
use Rattle.cf_assets.specs.declared.rows.StageNow.TheVariants.{Disposed, Held}
use Rattle.cf_assets.proofs.InService.{serving_set}
use Rattle.cf_assets.proofs.Keeping.{IsAt, restaged, row_is, restage_rows, restage_same, gone_accumulated, gone_bought, gone_book, held_row, view_set, viewed, year_most, book_most}
use Rattle.cf_register_parts.proofs.Cells.{cells_most}
use Rattle.cf_model.specs.Common.{Asset, disposed, depreciation}
use Rattle.cf_assets.proofs.inventory.Inventory.dispose_at.Goals as goal
use Rattle.cf_register_parts.specs.Limits.{most_total}

there : (a : Inside) (i : Inventory) (k : ℕ) (r : AssetRow) → inventory_of a ≡ i → k < length i.assets → r ≡ get_or a.rows.items k r → IsAt k a.rows.items r
there a i k r view l is = record { within = omega (arith, subst (λ (j : Inventory). k < length j.assets) (sym view) l, length-map a.rows.items view_asset); is = is }

pub raise-requires : goal.raise-requires
raise-requires c =
    let r = c.index.result.now in
    let rows = c.self.inside.rows.items in
    let accumulated = c.self.inside.accumulated.items in
    let was = c.self.invariant in
    let at : IsAt c.args.at rows r = there c.self.inside _ c.args.at r c.self.view_is c.requires.within c.index.ensures in
    let row = row_is (length accumulated) c.args.at rows r at was.rows in
    record {
      from = c.requires.from;
      to = c.requires.to;
      fits = omega (arith, row.cost, cells_most (λ y. sum_by (book_in (length accumulated) y) (map view_asset rows)) c.self.inside.disposals most_total was.disposals (year_most (book_in (length accumulated)) (book_most (length accumulated)) (length accumulated) rows was.rows was.few));
    }

pub invariant_of-self : goal.invariant_of-self
invariant_of-self c =
    let r = c.index.result.now in
    let rows = c.self.inside.rows.items in
    let accumulated = c.self.inside.accumulated.items in
    let was = c.self.invariant in
    let at : IsAt c.args.at rows r = there c.self.inside _ c.args.at r c.self.view_is c.requires.within c.index.ensures in
    let holds : IsHeldAt c.args.at (inventory_of c.self.inside) = subst (λ (i : Inventory). IsHeldAt c.args.at i) (sym c.self.view_is) c.requires.held in
    let is : r.stage ≡ Held = held_row c.args.at rows r at holds in
    let len : c.len-closed.result ≡ length accumulated = omega (arith, c.len-closed.ensures) in
    let stage = Disposed c.args.year (length accumulated) in
    let closed : c.staged.result ≡ restaged stage r = c.staged.ensures ∙ ap (λ n. restaged (Disposed c.args.year n) r) len in
    let value : r.cost - c.depreciation_of.result ≡ r.cost - depreciation (length accumulated) (view_asset r) = ap (λ n. r.cost - n) (c.depreciation_of.ensures ∙ ap (λ n. depreciation n (view_asset r)) len) in
    record {
      few = rw length-set was.few;
      months = was.months;
      rows = rw closed (restage_rows (length accumulated) c.args.at rows r stage at was.rows (omega arith));
      serving = rw closed (serving_set (length accumulated) 0 rows c.args.at c.self.inside.serving.items (restaged stage r) refl was.serving);
      accumulated = rw closed (gone_accumulated c.args.at c.args.year rows r accumulated at is was.accumulated);
      outlay = rw closed (restage_same bought_in c.args.at rows r stage c.self.inside.outlay at was.outlay (λ y. gone_bought y c.args.year (length accumulated) r is));
      donated = rw closed (restage_same given_in c.args.at rows r stage c.self.inside.donated at was.donated (λ y. refl));
      leased = rw closed (restage_same let_in c.args.at rows r stage c.self.inside.leased at was.leased (λ y. refl));
      disposals = rw (closed, c.raise.ensures.cell) (gone_book c.args.at c.args.year (length accumulated) rows r c.self.inside.disposals (r.cost - c.depreciation_of.result) at is c.requires.from c.requires.to value was.disposals);
    }

pub returns-clause-assets : goal.returns-clause-assets
returns-clause-assets c d =
    let r = c.index.result.now in
    let rows = c.self.inside.rows.items in
    let accumulated = c.self.inside.accumulated.items in
    let at : IsAt c.args.at rows r = there c.self.inside _ c.args.at r c.self.view_is c.requires.within c.index.ensures in
    let len : c.len-closed.result ≡ length accumulated = omega (arith, c.len-closed.ensures) in
    let stage = Disposed c.args.year (length accumulated) in
    let closed : c.staged.result ≡ restaged stage r = c.staged.ensures ∙ ap (λ n. restaged (Disposed c.args.year n) r) len in
    rw (← c.self.view_is, closed) (view_set rows c.args.at (restaged stage r) ∙ ap (λ (a : Asset). set (map view_asset rows) c.args.at (staged (disposed c.args.year (length accumulated)) a)) (sym (viewed c.args.at rows r d at)))
