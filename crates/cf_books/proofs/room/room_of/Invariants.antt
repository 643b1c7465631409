use Rattle.std.proofs.Common.{◌≡◌, ◌-◌, ◌+◌, length, take, sum_by}
use Rattle.cf_journal.specs.Records.{record_len}
use Rattle.cf_books.specs.Room.{chart_len}
use Rattle.cf_books.proofs.room.room_of.Given as goal

abbrev pub invariant-loop-entry : goal.invariant-loop-entry
invariant-loop-entry l = record {
  room : l.room ≡ length l.bytes - (7 + chart_len l.bytes) - sum_by record_len (take l.entry-index l.entries);
}
