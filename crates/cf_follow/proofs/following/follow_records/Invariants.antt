use Rattle.std.proofs.Common.{◌≡◌, ℕ, ◌+◌, ◌-◌, ◌*◌, ◌≤◌, List, length, Option}
use Rattle.cf_base.specs.Common.{most_entries}
use Rattle.cf_journal_stream.specs.Readings.{ReadsHead}
use Rattle.cf_follow.specs.Admitting.{office}
use Rattle.cf_follow.proofs.Stepping.{IsFollowing, IsStill}
use Rattle.cf_follow.proofs.following.follow_records.Given as goal

abbrev pub invariant-records : goal.invariant-records
invariant-records g l =
    let f = g.F.Follower in
    let o = office f.history f.refusal f.faults f.since in
    record {
      within : l.place.entries ≤ length (f.history l.follower);
      few : l.place.entries ≤ most_entries;
      bound : l.place.at ≤ 1048588 + 65541 * l.place.entries;
      following : (left : Option (List ℕ)) → ReadsHead left (g.I.Source.left l.initial.input) l.from l.chart
          → IsFollowing o l.chart l.initial.follower l.follower left (g.I.Source.left l.input) l.from l.place.entries l.place.at;
      still : IsStill o l.initial.follower l.follower;
      quiet : g.I.Source.faults l.input ≡ g.I.Source.faults l.initial.input;
    }

abbrev pub decreases-records : goal.decreases-records
decreases-records g l = 1500001 - l.place.entries
