use Rattle.std.proofs.Common.{◌≡◌, ◌+◌, ◌++◌, List, drop, length}
use Rattle.cf_model.specs.Common.{Move, document_moves, document_number}
use Rattle.cf_office_rows.specs.Items.{paired_rows}
use Rattle.cf_office_rows.specs.Rows.{kept}
use Rattle.cf_office_rows.proofs.documents.put_paired.Given as goal

-- what was added, and what is still to come
abbrev pub invariant-loop-nth : goal.invariant-loop-nth
invariant-loop-nth l =
    (ms ns : List Move) → document_moves l.chart l.orders.documents (document_number l.orders.documents l.act) l.on l.act ≡ ms ++ ns → length ms ≡ l.count → length ns ≡ l.count →
    l.out.items ++ kept (paired_rows l.chart l.place l.document (l.nth + 1) (drop l.nth ms) (drop l.nth ns))
    ≡ l.initial.out.items ++ kept (paired_rows l.chart l.place l.document 1 ms ns)
