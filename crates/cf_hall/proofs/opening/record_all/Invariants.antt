use Rattle.std.proofs.Common.{◌≡◌, ◌+◌, take, length, []}
use Rattle.cf_hall_names.specs.Closing.{HasFirst}
use Rattle.cf_hall_names.specs.Lists.{entries_of}
use Rattle.cf_hall.specs.Recordings.{SameRecorder}
use Rattle.cf_hall.proofs.opening.record_all.Given as goal

abbrev pub invariant-loop-entry : goal.invariant-loop-entry
invariant-loop-entry g l = record {
  list : entries_of l.recorder.list ≡ take l.entry-index l.entries;
  long : length l.recorder.list ≡ l.entry-index;
  same : SameRecorder l.initial.recorder l.recorder;
  totals : l.totals ≡ record l.initial.totals { accepted = l.initial.totals.accepted + l.entry-index };
  places : HasFirst l.entry-index l.pass.places;
  seen : l.pass.seen ≡ [];
  faults : l.pass.faults ≡ l.initial.pass.faults;
  failed : l.pass.failed ≡ l.initial.pass.failed;
}
