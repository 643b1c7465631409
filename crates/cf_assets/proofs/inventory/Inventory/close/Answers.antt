use Rattle.std.proofs.Common.{◌≡◌, ◌<◌, arith, sym, subst, ap, ◌∙◌, length, map, sum_by}
use Rattle.cf_base.proofs.Common.{length-append}
use Rattle.cf_assets.specs.Inventory.{Inventory, accumulated_at}
use Rattle.cf_assets.specs.Rows.{view_asset}
use Rattle.cf_assets.proofs.InService.{retired}
use Rattle.cf_assets.proofs.Keeping.{rows_close, close_accumulated, close_books, close_fits}
use Rattle.cf_model.specs.Common.{charge}
use Rattle.cf_assets.proofs.inventory.Inventory.close.Goals as goal
use Rattle.cf_base.specs.Common.{most_entries}

pub overflow_add-before : goal.overflow_add-before
overflow_add-before c =
    let rows = c.self.inside.rows.items in
    let accumulated = c.self.inside.accumulated.items in
    let was = c.self.invariant in
    let len : c.len-closed.result ≡ length accumulated = omega (arith, c.len-closed.ensures) in
    let before : c.accumulated_after-before.result ≡ accumulated_at accumulated (length accumulated) = c.accumulated_after-before.ensures ∙ ap (accumulated_at accumulated) len in
    let charged : c.total_charges-charges.result.all ≡ sum_by (charge (length accumulated)) (map view_asset rows) = c.total_charges-charges.ensures.all ∙ (λ i. sum_by (charge (len i)) (map view_asset (c.deref.ensures.value i))) in
    omega (arith, close_fits rows accumulated c.accumulated_after-before.result c.total_charges-charges.result.all was.few was.rows was.accumulated before charged)

pub invariant_of-self : goal.invariant_of-self
invariant_of-self c =
    let rows = c.self.inside.rows.items in
    let accumulated = c.self.inside.accumulated.items in
    let was = c.self.invariant in
    let few : length accumulated < most_entries = subst (λ (i : Inventory). i.closed < most_entries) (sym c.self.view_is) c.requires.few in
    let len : c.len-closed.result ≡ length accumulated = omega (arith, c.len-closed.ensures) in
    let before : c.accumulated_after-before.result ≡ accumulated_at accumulated (length accumulated) = c.accumulated_after-before.ensures ∙ ap (accumulated_at accumulated) len in
    let charged : c.total_charges-charges.result.all ≡ sum_by (charge (length accumulated)) (map view_asset rows) = c.total_charges-charges.ensures.all ∙ (λ i. sum_by (charge (len i)) (map view_asset (c.deref.ensures.value i))) in
    record {
      few = was.few;
      months = rw (c.push_reserved.ensures.items, length-append accumulated) (omega (arith, few));
      rows = rw (c.push_reserved.ensures.items, length-append accumulated) (rows_close (length accumulated) rows was.rows);
      serving = rw (c.push_reserved.ensures.items, length-append accumulated, c.retire.ensures, c.deref-3.ensures.value, len) (retired (length accumulated) rows c.self.inside.serving.items was.serving);
      accumulated = rw c.push_reserved.ensures.items (close_accumulated (map view_asset rows) accumulated c.accumulated_after-before.result c.total_charges-charges.result.all was.accumulated before charged);
      outlay = was.outlay;
      donated = was.donated;
      leased = was.leased;
      disposals = rw (c.push_reserved.ensures.items, length-append accumulated) (close_books (length accumulated) rows c.self.inside.disposals was.rows was.disposals);
    }
