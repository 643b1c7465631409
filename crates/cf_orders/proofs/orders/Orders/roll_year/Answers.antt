use Rattle.std.proofs.Common.{sym, subst}
use Rattle.cf_register_parts.specs.declared.extents.Extent.{Extent}
use Rattle.cf_orders.specs.RegisterView.{register_of}
use Rattle.cf_orders.specs.RowRolls.{ended_in, lapsed_hold}
use Rattle.cf_orders.specs.Steps.{IsChangedIn}
use Rattle.cf_orders.proofs.RolledYear.{changed_whole, holds_lapsed, extents_lapsed, amounts_lapsed, rows_ended, extents_ended, bases_ended, items_ended}
use Rattle.cf_orders.proofs.Closing.{step_close}
use Rattle.cf_orders.proofs.orders.Orders.roll_year.Goals as goal

pub invariant_of-self : goal.invariant_of-self
invariant_of-self c =
    let was = c.self.invariant in
    let plan = c.args.chart.now in
    let year = c.args.year in
    let lapsed = changed_whole (lapsed_hold year) _ _ (subst (λ (x : Extent). IsChangedIn (lapsed_hold year) x c.self.inside.holds.items c.lapse_extent.new.holds.items) c.whole-holds.ensures c.lapse_extent.ensures) in
    let ended = changed_whole (ended_in plan year) _ _ (subst (λ (x : Extent). IsChangedIn (ended_in plan year) x c.self.inside.items.items c.roll_extent.new.items.items) c.whole-items.ensures c.roll_extent.ensures) in
    record {
      acts = was.acts;
      requisitions = extents_lapsed year _ _ _ lapsed was.requisitions;
      orders = extents_ended plan year _ _ _ _ ended was.rows was.orders;
      vouchers = was.vouchers;
      rows = rows_ended plan year _ _ _ _ ended was.rows;
      bases = bases_ended plan year _ _ _ _ _ ended was.rows was.bases;
      apart = was.apart;
      named = was.named;
      held = amounts_lapsed year _ _ lapsed was.held;
      charged = was.charged;
      few_requisitions = was.few_requisitions;
      few_orders = was.few_orders;
      few_vouchers = was.few_vouchers;
      few_holds = rw lapsed.len was.few_holds;
      few_items = rw ended.len was.few_items;
      few_charges = was.few_charges;
    }

pub returns-clause-documents : goal.returns-clause-documents
returns-clause-documents c = λ e rolls.
    let plan = c.args.chart.now in
    let year = c.args.year in
    let lapsed = changed_whole (lapsed_hold year) _ _ (subst (λ (x : Extent). IsChangedIn (lapsed_hold year) x c.self.inside.holds.items c.lapse_extent.new.holds.items) c.whole-holds.ensures c.lapse_extent.ensures) in
    let ended = changed_whole (ended_in plan year) _ _ (subst (λ (x : Extent). IsChangedIn (ended_in plan year) x c.self.inside.items.items c.roll_extent.new.items.items) c.whole-items.ensures c.roll_extent.ensures) in
    let holds = holds_lapsed year _ _ lapsed in
    let items = items_ended plan year _ _ _ _ ended c.self.invariant.rows in
    rw (← c.self.view_is, holds, items) (sym (step_close plan (register_of c.self.inside).documents e year rolls))
