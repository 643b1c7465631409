use Rattle.cf_journal_stream.proofs.Writing.{nothing_wrote}
use Rattle.cf_journal_stream.proofs.shipping.ship.Goals as goal

pub returns-in_default-clause-ships : goal.returns-in_default-clause-ships
returns-in_default-clause-ships g c = nothing_wrote _ (g.O.Sink.held c.args.out.now)

pub returns-clause-ships : goal.returns-clause-ships
returns-clause-ships g c = let h = c.ship_rest.ensures.ships in rw (c.in-Ok.ensures, c.behind-rest.ensures) at h
