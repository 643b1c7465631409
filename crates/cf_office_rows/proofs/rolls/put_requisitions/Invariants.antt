use Rattle.std.proofs.Common.{◌≡◌, ◌++◌, flat_map}
use Rattle.cf_base.proofs.Common.{range_with_len}
use Rattle.cf_office_rows.specs.Rolls.{requisition_rows}
use Rattle.cf_office_rows.specs.Rows.{kept}
use Rattle.cf_office_rows.proofs.rolls.put_requisitions.Given as goal

-- what the documents so far add
abbrev pub invariant-loop-before : goal.invariant-loop-before
invariant-loop-before l = l.out.items ≡ l.initial.out.items ++ kept (flat_map (requisition_rows l.chart l.place l.year l.orders.documents.holds) (range_with_len 1 l.before))
