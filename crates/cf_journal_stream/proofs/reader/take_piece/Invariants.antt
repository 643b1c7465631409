use Rattle.std.proofs.Common.{◌≡◌, ◌-◌, ◌≤◌, vec_len}
use Rattle.cf_base.proofs.Common.{Consumes}
use Rattle.cf_journal_stream.proofs.reader.take_piece.Given as goal

abbrev pub invariant-loop-source : goal.invariant-loop-source
invariant-loop-source g l = record {
  took : Consumes (g.S.Source.left l.initial.source) (g.S.Source.left l.source) l.bytes.items;
  within : vec_len l.bytes ≤ l.initial.most;
  quiet : g.S.Source.faults l.source ≡ g.S.Source.faults l.initial.source;
}

abbrev pub decreases-loop-source : goal.decreases-loop-source
decreases-loop-source g l = l.initial.most - vec_len l.bytes
