use Rattle.std.proofs.Common.{◌≡◌, ◌≤◌, ◌<◌, [], length, vec_capacity}
use Rattle.cf_base_lines.specs.Run.{moment_of}
use Rattle.cf_base_lines.specs.State.{Reading, state_of}
use Rattle.cf_base_lines.proofs.run.read_lines.Given as goal

abbrev pub invariant-loop-most : goal.invariant-loop-most
invariant-loop-most g l =
    Reading g.O.Office.answers g.O.Office.accepted (moment_of l.initial.office (g.K.Sink.held l.initial.out)) (g.I.Source.left l.initial.input)
    (state_of l.office (g.K.Sink.held l.out) l.line l.pending.items) (g.I.Source.left l.input) l.most
    × (l.pending.items ≡ []) × (1024 ≤ vec_capacity l.pending) × (0 < length l.chunk) × (0 < l.most)
    × (g.K.Sink.faults l.out ≡ g.K.Sink.faults l.initial.out) × (g.I.Source.faults l.input ≡ g.I.Source.faults l.initial.input)

abbrev pub decreases-loop-most : goal.decreases-loop-most
decreases-loop-most g l = l.most
