use Rattle.std.proofs.Common.{◌≡◌, ◌≤◌, ◌+◌, ◌*◌, ◌^◌, [], ◌++◌, length, All}
use Rattle.cf_base.proofs.Common.{into_iter_items}
use Rattle.cf_base.specs.Common.{most_entries}
use Rattle.cf_journal.specs.Records.{HasRecord}
use Rattle.cf_journal_book.specs.Recovery.{first_refused}
use Rattle.cf_journal_book.specs.Watching.{all_posted}
use Rattle.cf_journal_book.proofs.opening.replay.Given as goal

abbrev pub invariant-loop-entry : goal.invariant-loop-entry
invariant-loop-entry g l =
    (goal.iterator-loop-entry g).can_next l.entry-iterator
    × (goal.iterator-loop-entry g).is_finite l.entry-iterator
    × (l.fn.entries.items ≡ l.yielded ++ into_iter_items l.entry-iterator)
    × All HasRecord (into_iter_items l.entry-iterator)
    × (l.office.plan ≡ l.fn.chart)
    × (l.office.entries ≡ l.yielded)
    × (length l.yielded ≤ most_entries)
    × (l.gate ≤ 6 + 2 ^ 32 + length l.yielded * (2 ^ 32 + 5))
    × (first_refused l.fn.chart [] (6 + l.fn.chart_len) l.fn.entries.items ≡ first_refused l.fn.chart l.yielded l.gate (into_iter_items l.entry-iterator))
    × (g.W.Watch.has_seen l.fn.watch l.fn.chart [] → g.W.Watch.has_seen l.watch l.fn.chart (all_posted l.fn.chart l.yielded))
