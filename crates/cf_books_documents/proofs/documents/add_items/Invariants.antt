use Rattle.std.proofs.Common.{◌≡◌, ◌++◌, drop, option_copied}
use Rattle.cf_books_documents.specs.Documents.{items_from}
use Rattle.cf_books_documents.proofs.documents.add_items.Given as goal

-- what was added, and what is still to come
abbrev pub invariant-loop-nth : goal.invariant-loop-nth
invariant-loop-nth l =
    l.out.items ++ items_from l.entry l.vendor l.first (option_copied l.shown) l.nth (drop l.nth l.items) ≡ l.initial.out.items ++ items_from l.entry l.vendor l.first (option_copied l.shown) 0 l.items
