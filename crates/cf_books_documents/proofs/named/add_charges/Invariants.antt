use Rattle.std.proofs.Common.{◌≡◌, ◌++◌, drop}
use Rattle.cf_books_documents.specs.Events.{charged}
use Rattle.cf_books_documents.proofs.named.add_charges.Given as goal

-- what was added, and what is still to come
abbrev pub invariant-loop-item : goal.invariant-loop-item
invariant-loop-item l = l.out.items ++ charged l.deed l.place (drop l.item-index l.items) ≡ l.initial.out.items ++ charged l.deed l.place l.items
