use Rattle.std.proofs.Common.{◌≡◌, ◌<◌, ◌++◌, length, take}
use Rattle.cf_base_lines.specs.Sinks.{Wrote}
use Rattle.cf_journal.specs.Records.{records_of}
use Rattle.cf_journal_stream.proofs.shipping.ship_records.Given as goal

abbrev pub invariant-loop-entry : goal.invariant-loop-entry
invariant-loop-entry g l = record {
  wrote : Wrote (g.O.Sink.held l.initial.out) (g.O.Sink.held l.out) (l.initial.pending.items ++ records_of (take l.entry-index l.entries)) l.pending.items;
  little : 0 < l.entry-index → length l.pending.items < 65536;
  quiet : g.O.Sink.faults l.out ≡ g.O.Sink.faults l.initial.out;
}
