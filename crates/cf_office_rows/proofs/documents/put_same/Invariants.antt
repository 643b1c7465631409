use Rattle.std.proofs.Common.{◌≡◌, ◌++◌, drop}
use Rattle.cf_model.specs.Common.{document_moves, document_number}
use Rattle.cf_office_rows.specs.Items.{same_rows}
use Rattle.cf_office_rows.specs.Rows.{kept}
use Rattle.cf_office_rows.proofs.documents.put_same.Given as goal

-- what was added, and what is still to come
abbrev pub invariant-loop-nth : goal.invariant-loop-nth
invariant-loop-nth l =
    l.out.items ++ kept (same_rows l.chart l.of (drop l.nth (document_moves l.chart l.orders.documents (document_number l.orders.documents l.act) l.on l.act)))
    ≡ l.initial.out.items ++ kept (same_rows l.chart l.of (document_moves l.chart l.orders.documents (document_number l.orders.documents l.act) l.on l.act))
