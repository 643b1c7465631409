use Rattle.std.proofs.Common.{refl}
use Rattle.cf_base_lines.specs.State.{state_of}
use Rattle.cf_base_lines.proofs.Feeding.{gave_last, gave_last_front}
use Rattle.cf_base_lines.proofs.run.end_input.Goals as goal

pub returns-in-Ok-clause-ok : goal.returns-in-Ok-clause-ok
returns-in-Ok-clause-ok g c =
    gave_last g.O.Office.answers g.O.Office.accepted (state_of c.args.office.now (g.K.Sink.held c.args.sink.now) c.args.line.now c.args.pending.now.items)
    c.put_reply.new.office c.put_reply.new.out.items c.flush.new.pending.items (g.K.Sink.held c.flush.new.sink)
    refl c.put_reply.ensures.one (c.if-not-has_bytes.ensures.yes refl) c.put_reply.ensures.replies c.in-Ok.ensures.ok c.in-Ok.ensures.all

pub returns-in-Err-clause-err : goal.returns-in-Err-clause-err
returns-in-Err-clause-err g c =
    gave_last_front g.O.Office.answers g.O.Office.accepted (state_of c.args.office.now (g.K.Sink.held c.args.sink.now) c.args.line.now c.args.pending.now.items)
    c.put_reply.new.office c.put_reply.new.out.items (g.K.Sink.held c.flush.new.sink)
    refl c.put_reply.ensures.one (c.if-not-has_bytes.ensures.yes refl) c.put_reply.ensures.replies c.in-Err.ensures.err
