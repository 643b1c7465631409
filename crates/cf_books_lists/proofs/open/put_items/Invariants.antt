use Rattle.std.proofs.Common.{◌≡◌, ◌+◌, drop}
use Rattle.cf_books_lists.specs.Open.{items_text}
use Rattle.cf_books_lists.specs.Rows.{added}
use Rattle.cf_books_lists.proofs.open.put_items.Given as goal

-- what was written, and what is still to come
abbrev pub invariant-loop-item : goal.invariant-loop-item
invariant-loop-item l = record {
  text : added l.out (items_text l.out.csv l.chart l.entry (l.place + 1) (drop l.item-index l.items)) ≡ added l.initial.out (items_text l.initial.out.csv l.chart l.entry 1 l.items);
  place : l.place ≡ l.item-index;
}
