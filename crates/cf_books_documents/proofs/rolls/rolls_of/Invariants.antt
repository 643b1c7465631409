use Rattle.std.proofs.Common.{◌≡◌, ◌++◌, ◌+◌, drop}
use Rattle.cf_books_documents.specs.Rolls.{rolls_from}
use Rattle.cf_books_documents.proofs.rolls.rolls_of.Given as goal

-- what was added, and what is still to come
abbrev pub invariant-loop-entry : goal.invariant-loop-entry
invariant-loop-entry l = record {
  place : l.place ≡ l.entry-index;
  rolls : l.rolls.items ++ rolls_from l.chart (l.place + 1) (drop l.entry-index l.entries) ≡ rolls_from l.chart 1 l.entries;
}
