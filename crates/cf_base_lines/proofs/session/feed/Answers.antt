use Rattle.std.proofs.Common.{arith, take, drop, ap, ◌∙◌, sym, refl}
use Rattle.cf_base_lines.specs.Run.{moment_of}
use Rattle.cf_base_lines.specs.State.{state_of}
use Rattle.cf_base_lines.proofs.Feeding.{feeds_push, cut_at, front_line, front_breaks, front_last}
use Rattle.cf_base_lines.proofs.session.feed.Goals as goal

pub loop-place-preserved : goal.loop-place-preserved
loop-place-preserved g c =
    let l = c.loop-place in
    let old = state_of c.args.office.now (g.K.Sink.held c.args.sink.now) c.args.line.now c.args.pending.now.items in
    let new = state_of l.office (g.K.Sink.held l.sink) l.line l.pending.items in
    let pushed = state_of l.office (g.K.Sink.held l.sink) c.push.new.self l.pending.items in
    let ended = state_of c.end_line.new.office (g.K.Sink.held c.end_line.new.sink) c.end_line.new.line c.end_line.new.pending.items in
    let front = take c.in-Some.place l.rest.now in (
      front_line g.O.Office.answers g.O.Office.accepted old new pushed ended c.args.piece.now l.rest.now front c.split_at-in-Some.result.1.now
          (cut_at l.rest.now c.split_at.result.1.now c.split_at-in-Some.result.1.now c.in-Some.place c.in-Some.ensures.within c.in-Some.ensures.here c.split_at.ensures.back c.split_at-in-Some.ensures.back)
          (feeds_push g.O.Office.answers g.O.Office.accepted new c.push.new.self front c.split_at.result.0.now c.split_at.ensures.front c.in-Some.ensures.before c.push.ensures)
          c.in-Ok.ensures.ok l.invariant.0,
      omega (arith, l.invariant.1, c.end_line.ensures.capacity),
      omega (arith, l.invariant.2, c.end_line.ensures.capacity),
      c.in-Ok.ensures.quiet ∙ l.invariant.3,
    )

pub returns-in-Err-clause-err : goal.returns-in-Err-clause-err
returns-in-Err-clause-err g c =
    let l = c.loop-place in
    let old = state_of c.args.office.now (g.K.Sink.held c.args.sink.now) c.args.line.now c.args.pending.now.items in
    let new = state_of l.office (g.K.Sink.held l.sink) l.line l.pending.items in
    let pushed = state_of l.office (g.K.Sink.held l.sink) c.push.new.self l.pending.items in
    let now = moment_of c.end_line.new.office (g.K.Sink.held c.end_line.new.sink) in
    let front = take c.in-Some.place l.rest.now in
    let left = drop 1 (drop c.in-Some.place l.rest.now) in
    front_breaks g.O.Office.answers g.O.Office.accepted old new pushed now c.args.piece.now l.rest.now front left
    (cut_at l.rest.now c.split_at.result.1.now left c.in-Some.place c.in-Some.ensures.within c.in-Some.ensures.here c.split_at.ensures.back (sym (ap (drop 1) {x = c.split_at.result.1.now} {y = drop c.in-Some.place l.rest.now} c.split_at.ensures.back)))
    (feeds_push g.O.Office.answers g.O.Office.accepted new c.push.new.self front c.split_at.result.0.now c.split_at.ensures.front c.in-Some.ensures.before c.push.ensures)
    c.in-Err.ensures.err l.invariant.0

pub returns-clause-ok : goal.returns-clause-ok
returns-clause-ok g c =
    let l = c.loop-place in
    let old = state_of c.args.office.now (g.K.Sink.held c.args.sink.now) c.args.line.now c.args.pending.now.items in
    let new = state_of l.office (g.K.Sink.held l.sink) l.line l.pending.items in
    let pushed = state_of l.office (g.K.Sink.held l.sink) c.push-2.new.self l.pending.items in
    front_last g.O.Office.answers g.O.Office.accepted old new pushed c.args.piece.now l.rest.now
    (feeds_push g.O.Office.answers g.O.Office.accepted new c.push-2.new.self l.rest.now l.rest.now refl c.in_default.ensures.before c.push-2.ensures) l.invariant.0
