use Rattle.std.proofs.Common.{refl, [], ◌∷◌, arith}
use Rattle.cf_base_lines.specs.State.{state_of}
use Rattle.cf_base_lines.proofs.Feeding.{feeds_trans, feeds_wrote, feeds_told, feeds_reply, breaks_after, breaks_write}
use Rattle.cf_base_lines.proofs.session.end_line.Goals as goal

pub returns-in-Err-clause-err : goal.returns-in-Err-clause-err
returns-in-Err-clause-err g c =
    breaks_write g.O.Office.answers g.O.Office.accepted (state_of c.args.office.now (g.K.Sink.held c.args.sink.now) c.args.line.now c.args.pending.now.items)
    (g.K.Sink.held c.make_room.new.sink) (10 ∷ []) (omega arith) c.in-Err.ensures.err

pub returns-then-not-must_write-clause-ok : goal.returns-then-not-must_write-clause-ok
returns-then-not-must_write-clause-ok g c =
    let old = state_of c.args.office.now (g.K.Sink.held c.args.sink.now) c.args.line.now c.args.pending.now.items in
    let ready = state_of c.args.office.now (g.K.Sink.held c.make_room.new.sink) c.args.line.now c.make_room.new.pending.items in
    let new = state_of c.put_reply-must_write.new.office (g.K.Sink.held c.make_room.new.sink) c.clear.new.self c.put_reply-must_write.new.out.items in
    feeds_trans g.O.Office.answers g.O.Office.accepted old ready new [] (10 ∷ [])
    (feeds_wrote g.O.Office.answers g.O.Office.accepted old (g.K.Sink.held c.make_room.new.sink) c.make_room.new.pending.items c.in-Ok.ensures.ok)
    (feeds_reply g.O.Office.answers g.O.Office.accepted ready new refl refl (omega (arith, c.put_reply-must_write.ensures.still c.if-not-must_write.true)) c.put_reply-must_write.ensures.replies c.clear.ensures)

pub returns-in-Ok-flush-clause-ok : goal.returns-in-Ok-flush-clause-ok
returns-in-Ok-flush-clause-ok g c =
    let old = state_of c.args.office.now (g.K.Sink.held c.args.sink.now) c.args.line.now c.args.pending.now.items in
    let ready = state_of c.args.office.now (g.K.Sink.held c.make_room.new.sink) c.args.line.now c.make_room.new.pending.items in
    let said = record (state_of c.put_reply-must_write.new.office (g.K.Sink.held c.make_room.new.sink) c.clear.new.self c.put_reply-must_write.new.out.items) { late = 1 } in
    let flushed = record said { held = g.K.Sink.held c.flush.new.sink; pending = c.flush.new.pending.items } in
    let new = state_of c.put_reply-must_write.new.office (g.K.Sink.held c.flush.new.sink) c.clear.new.self c.flush.new.pending.items in
    feeds_trans g.O.Office.answers g.O.Office.accepted old said new (10 ∷ []) []
    (feeds_trans g.O.Office.answers g.O.Office.accepted old ready said [] (10 ∷ [])
    (feeds_wrote g.O.Office.answers g.O.Office.accepted old (g.K.Sink.held c.make_room.new.sink) c.make_room.new.pending.items c.in-Ok.ensures.ok)
    (feeds_reply g.O.Office.answers g.O.Office.accepted ready said refl refl c.put_reply-must_write.ensures.one c.put_reply-must_write.ensures.replies c.clear.ensures))
    (feeds_trans g.O.Office.answers g.O.Office.accepted said flushed new [] []
    (feeds_wrote g.O.Office.answers g.O.Office.accepted said (g.K.Sink.held c.flush.new.sink) c.flush.new.pending.items c.in-Ok-flush.ensures.ok)
    (feeds_told g.O.Office.answers g.O.Office.accepted flushed c.in-Ok-flush.ensures.all))

pub returns-in-Err-flush-clause-err : goal.returns-in-Err-flush-clause-err
returns-in-Err-flush-clause-err g c =
    let old = state_of c.args.office.now (g.K.Sink.held c.args.sink.now) c.args.line.now c.args.pending.now.items in
    let ready = state_of c.args.office.now (g.K.Sink.held c.make_room.new.sink) c.args.line.now c.make_room.new.pending.items in
    let said = record (state_of c.put_reply-must_write.new.office (g.K.Sink.held c.make_room.new.sink) c.clear.new.self c.put_reply-must_write.new.out.items) { late = 1 } in
    breaks_after g.O.Office.answers g.O.Office.accepted old said _ (10 ∷ []) []
    (feeds_trans g.O.Office.answers g.O.Office.accepted old ready said [] (10 ∷ [])
    (feeds_wrote g.O.Office.answers g.O.Office.accepted old (g.K.Sink.held c.make_room.new.sink) c.make_room.new.pending.items c.in-Ok.ensures.ok)
    (feeds_reply g.O.Office.answers g.O.Office.accepted ready said refl refl c.put_reply-must_write.ensures.one c.put_reply-must_write.ensures.replies c.clear.ensures))
    (breaks_write g.O.Office.answers g.O.Office.accepted said (g.K.Sink.held c.flush.new.sink) [] (omega arith) c.in-Err-flush.ensures.err)
