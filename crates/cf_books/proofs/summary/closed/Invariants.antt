use Rattle.std.proofs.Common.{◌≡◌, ◌≤◌, take}
use Rattle.cf_books.specs.Summary.{closed}
use Rattle.cf_books.proofs.summary.closed.Given as goal

abbrev pub invariant-loop-entry : goal.invariant-loop-entry
invariant-loop-entry l = record {
  count : l.count ≡ closed l.years (take l.entry-index l.entries);
  small : l.count ≤ l.entry-index;
}
