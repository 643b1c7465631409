use Rattle.std.proofs.Common.{◌≡◌, ◌+◌, ◌++◌, ◌==◌, drop, filter}
use Rattle.cf_office_rows.specs.Rolls.{order_rows, roll_items}
use Rattle.cf_office_rows.specs.Rows.{kept}
use Rattle.cf_office_rows.proofs.rolls.put_live.Given as goal

-- what was added, and what is still to come
abbrev pub invariant-loop-nth : goal.invariant-loop-nth
invariant-loop-nth l =
    l.out.items ++ kept (roll_items l.chart l.place l.year l.number (l.nth + 1) (drop l.nth (filter (λ i. i.order == l.number) l.orders.documents.items)))
    ≡ l.initial.out.items ++ kept (order_rows l.chart l.place l.year l.orders.documents.items l.number)
