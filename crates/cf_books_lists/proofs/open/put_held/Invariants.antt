use Rattle.std.proofs.Common.{◌≡◌, ◌+◌, drop}
use Rattle.cf_books_lists.specs.Open.{held_text}
use Rattle.cf_books_lists.specs.Rows.{added}
use Rattle.cf_books_lists.proofs.open.put_held.Given as goal

-- what was written, and what is still to come
abbrev pub invariant-loop-item : goal.invariant-loop-item
invariant-loop-item l = record {
  text : added l.out (held_text l.out.csv l.chart l.entry l.year (l.place + 1) (drop l.item-index l.items)) ≡ added l.initial.out (held_text l.initial.out.csv l.chart l.entry l.year 1 l.items);
  place : l.place ≡ l.item-index;
}
