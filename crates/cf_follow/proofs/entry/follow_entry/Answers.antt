use Rattle.std.proofs.Common.{arith, refl, ap, ◌≡◌, ◌≤◌, ◌+◌, length, Some, slice_get}
use Rattle.cf_base.specs.Common.{most_entries}
use Rattle.cf_journal_stream.specs.Readings.{IsPayloadOf}
use Rattle.cf_follow.specs.Admitting.{office}
use Rattle.cf_follow.specs.Steps.{FollowsOne, IsOtherThan, Takes, Unfollowed}
use Rattle.cf_follow.proofs.Answering.{got_at, err_map, ok_map, ok_both, few_more}
use Rattle.cf_follow.proofs.entry.follow_entry.Goals as goal

pub returns-then-place-entries-clause-ok : goal.returns-then-place-entries-clause-ok
returns-then-place-entries-clause-ok g c =
    let own = c.index-entries-place.result in
    let there : slice_get (g.F.Follower.history c.args.follower.now) c.args.place.entries ≡ Some own = rw (← c.entries-entries.ensures.value) (got_at c.entries-entries.result.now c.args.place.entries own (omega arith) c.index-entries-place.is) in
    ok_map c.compare.result (IsPayloadOf c.args.text.now own) _ (λ is. FollowsOne.stands own there is refl) c.compare.ensures.ok

pub returns-then-place-entries-clause-err : goal.returns-then-place-entries-clause-err
returns-then-place-entries-clause-err g c =
    let own = c.index-entries-place.result in
    let there : slice_get (g.F.Follower.history c.args.follower.now) c.args.place.entries ≡ Some own = rw (← c.entries-entries.ensures.value) (got_at c.entries-entries.result.now c.args.place.entries own (omega arith) c.index-entries-place.is) in
    err_map c.compare.result (IsOtherThan own c.args.text.now c.args.place) _ (λ how is. Unfollowed.other own there is refl) c.compare.ensures.err

pub returns-else-place-entries-clause-few : goal.returns-else-place-entries-clause-few
returns-else-place-entries-clause-few g c =
    let o = office g.F.Follower.history g.F.Follower.refusal g.F.Follower.faults g.F.Follower.since in
    let ends : c.args.place.entries ≡ length (g.F.Follower.history c.args.follower.now) = omega (arith, c.requires.within, c.if-place-entries.false, ap length c.entries-entries.ensures.value) in
    ok_both c.take.result (Takes o c.args.follower.now c.args.text.now c.take.new.follower) (length (g.F.Follower.history c.take.new.follower) ≤ most_entries) (c.args.place.entries + 1 ≤ most_entries)
    (λ takes few. few_more o c.args.follower.now c.take.new.follower c.args.text.now c.args.place.entries most_entries ends takes few) c.take.ensures.ok c.take.ensures.few
