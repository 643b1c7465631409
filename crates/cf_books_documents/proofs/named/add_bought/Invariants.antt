use Rattle.std.proofs.Common.{◌≡◌, ◌++◌, ◌+◌, ◌≤◌, ◌^◌, drop}
use Rattle.cf_books_documents.specs.Events.{bought}
use Rattle.cf_books_documents.proofs.named.add_bought.Given as goal

-- what was added, and what is still to come
abbrev pub invariant-loop-item : goal.invariant-loop-item
invariant-loop-item l = record {
  events : l.out.items ++ bought l.chart l.deed l.place l.number (drop l.item-index l.items) ≡ l.initial.out.items ++ bought l.chart l.deed l.place l.fn.first l.items;
  small : l.number ≤ 2 ^ 32 + l.item-index;
}
