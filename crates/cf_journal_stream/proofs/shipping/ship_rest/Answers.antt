use Rattle.std.proofs.Common.{◌∷◌, []}
use Rattle.cf_journal.specs.Records.{records_of}
use Rattle.cf_journal_stream.proofs.Writing.{ships_front, front_longer, front_on}
use Rattle.cf_journal_stream.proofs.shipping.ship_rest.Goals as goal

pub returns-in-Err-clause-ships : goal.returns-in-Err-clause-ships
returns-in-Err-clause-ships g c =
    ships_front _ (g.O.Sink.held c.args.out.now) (g.O.Sink.held c.ship_records.new.out) c.in-Err.end c.in-Err.ensures.done
    (front_longer c.args.pending.now.items (records_of c.args.entries.now) (0 ∷ []) (g.O.Sink.held c.args.out.now) (g.O.Sink.held c.ship_records.new.out) c.in-Err.ensures.err)

pub returns-in-Err-push-clause-ships : goal.returns-in-Err-push-clause-ships
returns-in-Err-push-clause-ships g c =
    front_longer c.args.pending.now.items (records_of c.args.entries.now) (0 ∷ []) (g.O.Sink.held c.args.out.now) (g.O.Sink.held c.ship_records.new.out) (c.ship_records.new.pending.items, c.in-Ok.ensures.ok)

pub returns-in-Err-flush-clause-ships : goal.returns-in-Err-flush-clause-ships
returns-in-Err-flush-clause-ships g c =
    rw c.in-Err-flush.ensures.write.0
    (front_on c.args.pending.now.items (records_of c.args.entries.now) (0 ∷ []) (g.O.Sink.held c.args.out.now) (g.O.Sink.held c.ship_records.new.out) (g.O.Sink.held c.flush.new.out) c.ship_records.new.pending.items c.push.new.self.items
    c.in-Ok.ensures.ok c.in-Ok-push.ensures.items c.in-Err-flush.ensures.err)
