use Rattle.std.proofs.Common.{◌≡◌, ◌≤◌, ◌+◌, ◌*◌, drop, length}
use Rattle.cf_journal.specs.Records.{gate_after}
use Rattle.cf_books_front.proofs.front.gate_behind.Given as goal

-- the records that were passed, and those still to come
abbrev pub invariant-loop-entry : goal.invariant-loop-entry
invariant-loop-entry l = record {
  gate : gate_after l.gate (drop l.entry-index l.entries) ≡ gate_after (6 + length l.chart) l.entries;
  small : l.gate ≤ 18446744073709551615 * (l.entry-index + 1);
}
