use Rattle.std.proofs.Common.{◌≡◌, ◌+◌, drop}
use Rattle.cf_books.specs.Answers.{entry_at, entry_behind}
use Rattle.cf_books.proofs.refused.entry_at.Given as goal

-- the entry that is looked for stands behind those that were passed
abbrev pub invariant-loop-entry : goal.invariant-loop-entry
invariant-loop-entry l = record {
  behind : entry_behind l.left l.place (drop l.entry-index l.entries) ≡ entry_at l.offset l.chart_len l.entries;
  place : l.place ≡ l.entry-index + 1;
}
