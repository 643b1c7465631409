use Rattle.std.proofs.Common.{[], subst, arith}
use Rattle.cf_base.proofs.Common.{append-nil}
use Rattle.cf_base_lines.specs.Run.{moment_of}
use Rattle.cf_base_lines.specs.State.{Feeds, Breaks, state_of}
use Rattle.cf_base_lines.proofs.Feeding.{feeds_trans, feeds_wrote, breaks_after, breaks_write}
use Rattle.cf_base_lines.proofs.session.feed_whole.Goals as goal

pub returns-in-Ok-flush-clause-ok : goal.returns-in-Ok-flush-clause-ok
returns-in-Ok-flush-clause-ok g c =
    let old = state_of c.args.office.now (g.K.Sink.held c.args.sink.now) c.args.line.now c.args.pending.now.items in
    let fed = state_of c.feed.new.office (g.K.Sink.held c.feed.new.sink) c.feed.new.line c.feed.new.pending.items in
    let new = state_of c.feed.new.office (g.K.Sink.held c.flush.new.sink) c.feed.new.line c.flush.new.pending.items in
    subst (Feeds g.O.Office.answers g.O.Office.accepted old new) (append-nil c.args.piece.now)
    (feeds_trans g.O.Office.answers g.O.Office.accepted old fed new c.args.piece.now [] c.in-Ok.ensures.ok
    (feeds_wrote g.O.Office.answers g.O.Office.accepted fed (g.K.Sink.held c.flush.new.sink) c.flush.new.pending.items c.in-Ok-flush.ensures.ok))

pub returns-in-Err-flush-clause-err : goal.returns-in-Err-flush-clause-err
returns-in-Err-flush-clause-err g c =
    let old = state_of c.args.office.now (g.K.Sink.held c.args.sink.now) c.args.line.now c.args.pending.now.items in
    let fed = state_of c.feed.new.office (g.K.Sink.held c.feed.new.sink) c.feed.new.line c.feed.new.pending.items in
    let now = moment_of c.feed.new.office (g.K.Sink.held c.flush.new.sink) in
    subst (Breaks g.O.Office.answers g.O.Office.accepted old now) (append-nil c.args.piece.now)
    (breaks_after g.O.Office.answers g.O.Office.accepted old fed now c.args.piece.now [] c.in-Ok.ensures.ok
    (breaks_write g.O.Office.answers g.O.Office.accepted fed (g.K.Sink.held c.flush.new.sink) [] (omega arith) c.in-Err-flush.ensures.err))
