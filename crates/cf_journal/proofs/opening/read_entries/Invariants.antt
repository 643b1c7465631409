use Rattle.std.proofs.Common.{◌≡◌, ◌+◌, ◌-◌, ◌<◌, length, take, drop, All}
use Rattle.cf_codec.specs.Entries.{IsOf}
use Rattle.cf_journal.specs.Records.{HasRecord, entries_from, records_of}
use Rattle.cf_journal.proofs.Reading.{with_front}
use Rattle.cf_journal.proofs.opening.read_entries.Given as goal

-- the records up to the place were read, and what follows gives the rest
abbrev pub invariant-loop-place : goal.invariant-loop-place
invariant-loop-place l = record {
  within : l.place < length l.records;
  all : All HasRecord l.entries.items;
  of : All (IsOf l.version) l.entries.items;
  front : take l.place l.records ≡ records_of l.entries.items;
  read : with_front l.entries.items (entries_from l.version 0 (l.first + l.place) (drop l.place l.records)) ≡ entries_from l.version 0 l.first l.records;
}

abbrev pub decreases-loop-place : goal.decreases-loop-place
decreases-loop-place l = length l.records - l.place
