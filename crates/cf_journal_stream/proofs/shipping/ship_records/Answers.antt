use Rattle.std.proofs.Common.{arith, refl, ◌+◌, ◌∙◌}
use Rattle.cf_journal_stream.proofs.Writing.{wrote_none, wrote_record, wrote_some, wrote_front}
use Rattle.cf_journal_stream.proofs.shipping.ship_records.Goals as goal

pub loop-entry-init : goal.loop-entry-init
loop-entry-init g c = record { wrote = wrote_none (g.O.Sink.held c.args.out.now) c.args.pending.now.items c.args.entries.now; little = λ some. absurd (omega (arith, some)); quiet = refl }

pub returns-in-Err-clause-err : goal.returns-in-Err-clause-err
returns-in-Err-clause-err g c =
    wrote_front (g.O.Sink.held c.args.out.now) c.args.pending.now.items c.args.entries.now c.loop-entry.entry-index (g.O.Sink.held c.loop-entry.out) c.loop-entry.pending.items c.loop-entry.invariant.wrote

pub returns-in-Err-flush_full-clause-err : goal.returns-in-Err-flush_full-clause-err
returns-in-Err-flush_full-clause-err g c =
    let first = g.O.Sink.held c.args.out.now in
    let head = c.args.pending.now.items in
    let es = c.args.entries.now in
    let n = c.loop-entry.entry-index in
    let w = wrote_record first head es n (g.O.Sink.held c.loop-entry.out) c.loop-entry.pending.items c.put_record.new.out.items c.entry-item.result (omega arith) c.entry-item.is c.in-Ok.ensures c.loop-entry.invariant.wrote in
    let rest = c.in-Err-flush_full.ensures.err in
    wrote_front first head es (n + 1) (g.O.Sink.held c.flush_full.new.out) rest.0 (wrote_some first head es (n + 1) (g.O.Sink.held c.loop-entry.out) (g.O.Sink.held c.flush_full.new.out) c.put_record.new.out.items rest.0 rest.1 w)

pub loop-entry-preserved : goal.loop-entry-preserved
loop-entry-preserved g c =
    let first = g.O.Sink.held c.args.out.now in
    let head = c.args.pending.now.items in
    let es = c.args.entries.now in
    let n = c.loop-entry.entry-index in
    let w = wrote_record first head es n (g.O.Sink.held c.loop-entry.out) c.loop-entry.pending.items c.put_record.new.out.items c.entry-item.result (omega arith) c.entry-item.is c.in-Ok.ensures c.loop-entry.invariant.wrote in
    record {
      wrote = wrote_some first head es (n + 1) (g.O.Sink.held c.loop-entry.out) (g.O.Sink.held c.flush_full.new.out) c.put_record.new.out.items c.flush_full.new.pending.items c.in-Ok-flush_full.ensures.ok w;
      little = λ some. c.in-Ok-flush_full.ensures.little;
      quiet = c.in-Ok-flush_full.ensures.quiet ∙ c.loop-entry.invariant.quiet;
    }
