use Rattle.std.proofs.Common.{◌≡◌, ◌+◌, ◌++◌, Some, drop, map, filter}
use Rattle.cf_model.specs.Common.{is_number}
use Rattle.cf_office_rows.specs.Items.{item_rows}
use Rattle.cf_office_rows.specs.Rolls.{lapse_move, requisition_rows}
use Rattle.cf_office_rows.specs.Rows.{kept}
use Rattle.cf_office_rows.proofs.rolls.put_released.Given as goal

-- what was added, and what is still to come
abbrev pub invariant-loop-nth : goal.invariant-loop-nth
invariant-loop-nth l =
    l.out.items ++ kept (item_rows l.chart l.place l.number (l.nth + 1) (map (lapse_move l.year) (drop l.nth (filter (λ h. is_number (Some l.number) h.requisition) l.orders.documents.holds))))
    ≡ l.initial.out.items ++ kept (requisition_rows l.chart l.place l.year l.orders.documents.holds l.number)
