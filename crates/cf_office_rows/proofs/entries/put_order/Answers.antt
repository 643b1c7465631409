use Rattle.std.proofs.Common.{map}
use Rattle.cf_base.proofs.Common.{on_ok_weaker}
use Rattle.cf_model.specs.Common.{order_move}
use Rattle.cf_office_rows.specs.Entries.{taken_rows}
use Rattle.cf_office_rows.specs.Items.{item_rows}
use Rattle.cf_office_rows.proofs.Gathered.{both_added}
use Rattle.cf_office_rows.proofs.entries.put_order.Goals as goal

pub returns : goal.returns
returns c =
    on_ok_weaker c.put_ordered.result
    (λ put. both_added c.args.out.now.items c.put_taken.new.out.items c.put_ordered.new.out.items
    (taken_rows c.args.chart.now c.args.place c.args.order.now.requisition c.args.orders.now.documents.holds)
    (item_rows c.args.chart.now c.args.place c.args.number 1 (map (order_move c.args.year) c.args.order.now.items))
    c.in_ok-put_taken.ensures put) (rw c.as_slice.ensures at c.put_ordered.ensures)
