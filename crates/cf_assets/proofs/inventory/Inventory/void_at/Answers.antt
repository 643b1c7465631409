use Rattle.std.proofs.Common.{◌≡◌, ◌<◌, arith, refl, sym, subst, ap, ◌∙◌, length, map, set, get_or, ℕ}
use Rattle.cf_base.proofs.Common.{length-map, length-set}
use Rattle.cf_assets.specs.Inventory.{Inventory, IsFreshAt, staged}
use Rattle.cf_assets.specs.InventoryView.{inventory_of}
use Rattle.cf_assets.specs.Rows.{view_asset}
use Rattle.cf_assets.specs.Years.{given_in, let_in, book_in}
use Rattle.cf_assets.specs.declared.inventory.Inventory.TheInside.{Inside}
use Rattle.cf_assets.specs.declared.rows.AssetRow.{AssetRow}
use Rattle.cf_assets.specs.declared.rows.StageNow.TheVariants.{Void, Held}
use Rattle.cf_assets.proofs.InService.{serving_set}
use Rattle.cf_assets.proofs.Keeping.{IsAt, restaged, row_is, restage_rows, restage_same, void_accumulated, void_bought, void_enough, held_book, held_row, bought_row, fresh_row, view_set, viewed}
use Rattle.cf_model.specs.Common.{Asset, void}
use Rattle.cf_assets.proofs.inventory.Inventory.void_at.Goals as goal

there : (a : Inside) (i : Inventory) (k : ℕ) (r : AssetRow) → inventory_of a ≡ i → k < length i.assets → r ≡ get_or a.rows.items k r → IsAt k a.rows.items r
there a i k r view l is = record { within = omega (arith, subst (λ (j : Inventory). k < length j.assets) (sym view) l, length-map a.rows.items view_asset); is = is }

pub lower-requires : goal.lower-requires
lower-requires c =
    let r = c.index-row.result.now in
    let rows = c.self.inside.rows.items in
    let was = c.self.invariant in
    let at : IsAt c.args.at rows r = there c.self.inside _ c.args.at r c.self.view_is c.requires.within c.index-row.ensures in
    let fresh : IsFreshAt c.args.at (inventory_of c.self.inside) = subst (λ (i : Inventory). IsFreshAt c.args.at i) (sym c.self.view_is) c.requires.fresh in
    let row = row_is (length c.self.inside.accumulated.items) c.args.at rows r at was.rows in
    record { from = row.from; to = row.to; enough = void_enough c.args.at rows r c.self.inside.outlay at (held_row c.args.at rows r at fresh.held) (bought_row c.args.at rows r at fresh.bought) row.from row.to was.outlay }

pub invariant_of-self : goal.invariant_of-self
invariant_of-self c =
    let r = c.index-row.result.now in
    let rows = c.self.inside.rows.items in
    let accumulated = c.self.inside.accumulated.items in
    let was = c.self.invariant in
    let at : IsAt c.args.at rows r = there c.self.inside _ c.args.at r c.self.view_is c.requires.within c.index-row.ensures in
    let fresh : IsFreshAt c.args.at (inventory_of c.self.inside) = subst (λ (i : Inventory). IsFreshAt c.args.at i) (sym c.self.view_is) c.requires.fresh in
    let is : r.stage ≡ Held = held_row c.args.at rows r at fresh.held in
    let row = row_is (length accumulated) c.args.at rows r at was.rows in
    record {
      few = rw length-set was.few;
      months = was.months;
      rows = rw c.staged.ensures (restage_rows (length accumulated) c.args.at rows r Void at was.rows tt);
      serving = rw c.staged.ensures (serving_set (length accumulated) 0 rows c.args.at c.self.inside.serving.items (restaged Void r) refl was.serving);
      accumulated = rw c.staged.ensures (void_accumulated c.args.at rows r accumulated at (fresh_row (length accumulated) c.args.at rows r at fresh.none) was.accumulated);
      outlay = rw (c.staged.ensures, c.lower.ensures) (void_bought c.args.at rows r c.self.inside.outlay at is (bought_row c.args.at rows r at fresh.bought) row.from row.to was.outlay);
      donated = rw c.staged.ensures (restage_same given_in c.args.at rows r Void c.self.inside.donated at was.donated (λ y. refl));
      leased = rw c.staged.ensures (restage_same let_in c.args.at rows r Void c.self.inside.leased at was.leased (λ y. refl));
      disposals = rw c.staged.ensures (restage_same (book_in (length accumulated)) c.args.at rows r Void c.self.inside.disposals at was.disposals (λ y. sym (held_book (length accumulated) y r is)));
    }

pub returns-clause-assets : goal.returns-clause-assets
returns-clause-assets c d =
    let r = c.index-row.result.now in
    let rows = c.self.inside.rows.items in
    let at : IsAt c.args.at rows r = there c.self.inside _ c.args.at r c.self.view_is c.requires.within c.index-row.ensures in
    rw (← c.self.view_is, c.staged.ensures) (view_set rows c.args.at (restaged Void r) ∙ ap (λ (a : Asset). set (map view_asset rows) c.args.at (staged void a)) (sym (viewed c.args.at rows r d at)))
