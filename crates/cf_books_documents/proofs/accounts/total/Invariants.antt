use Rattle.std.proofs.Common.{◌≡◌, ◌≤◌, ◌*◌, sum_by, take}
use Rattle.cf_books_documents.proofs.accounts.total.Given as goal

abbrev pub invariant-loop-item : goal.invariant-loop-item
invariant-loop-item l = record {
  sum : l.total ≡ sum_by (λ i. i.amount) (take l.item-index l.items);
  small : l.total ≤ 18446744073709551615 * l.item-index;
}
