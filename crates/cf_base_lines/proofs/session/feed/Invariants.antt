use Rattle.std.proofs.Common.{◌≡◌, ◌≤◌, length, vec_capacity}
use Rattle.cf_base_lines.specs.State.{FeedsFront, state_of}
use Rattle.cf_base_lines.proofs.session.feed.Given as goal

abbrev pub invariant-loop-place : goal.invariant-loop-place
invariant-loop-place g l =
    FeedsFront g.O.Office.answers g.O.Office.accepted
    (state_of l.initial.office (g.K.Sink.held l.initial.sink) l.initial.line l.initial.pending.items)
    (state_of l.office (g.K.Sink.held l.sink) l.line l.pending.items)
    l.piece l.rest
    × (1024 ≤ vec_capacity l.pending) × (vec_capacity l.initial.pending ≤ vec_capacity l.pending) × (g.K.Sink.faults l.sink ≡ g.K.Sink.faults l.initial.sink)

abbrev pub decreases-loop-place : goal.decreases-loop-place
decreases-loop-place g l = length l.rest
