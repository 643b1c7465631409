use Rattle.std.proofs.Common.{◌-◌, slice_index, arith, [], ◌∷◌, ◌∙◌, refl}
use Rattle.cf_base_lines.specs.Run.{moment_of}
use Rattle.cf_base_lines.specs.State.{state_of}
use Rattle.cf_base_lines.proofs.Reading.{reading_start, reads_on, ends_unwritten, ends_limited, but_one, all_read}
use Rattle.cf_base_lines.proofs.run.read_lines.Goals as goal

pub loop-most-init : goal.loop-most-init
loop-most-init g c = (
  reading_start g.O.Office.answers g.O.Office.accepted c.args.office.now (g.K.Sink.held c.args.out.now) (g.I.Source.left c.args.input.now) c.args.line.now c.args.pending.now.items c.requires.fresh c.requires.written,
  c.requires.written,
  c.requires.room,
  c.requires.chunk,
  omega arith,
  refl,
  refl,
)

pub loop-most-preserved : goal.loop-most-preserved
loop-most-preserved g c =
    let l = c.loop-most in
    let start = moment_of c.args.office.now (g.K.Sink.held c.args.out.now) in
    let state = state_of l.office (g.K.Sink.held l.out) l.line l.pending.items in
    let new = state_of c.feed_whole-in-loop-most.new.office (g.K.Sink.held c.feed_whole-in-loop-most.new.sink) c.feed_whole-in-loop-most.new.line c.feed_whole-in-loop-most.new.pending.items in (
      reads_on g.O.Office.answers g.O.Office.accepted start (g.I.Source.left c.args.input.now) (g.I.Source.left l.input) (g.I.Source.left c.read_chunk.new.source) state new
          c.read_chunk.new.chunk c.split_at-in-loop-most.result.0.now l.most _ c.in-Ok.count l.invariant.0 c.in-Ok.ensures.bytes c.in-Ok.ensures.within
          c.split_at-in-loop-most.ensures.front (omega (arith, c.in-Ok.ensures.most)) c.in-Ok-feed_whole-2.ensures.ok,
      c.in-Ok-feed_whole-2.ensures.written,
      omega (arith, l.invariant.2, c.feed_whole-in-loop-most.ensures.capacity),
      omega (arith, l.invariant.3, c.read_chunk.auto.chunk),
      omega arith,
      c.in-Ok-feed_whole-2.ensures.quiet ∙ l.invariant.5,
      c.in-Ok.ensures.quiet ∙ l.invariant.6,
    )

pub returns-in-Err-feed_whole-2-clause-outcome : goal.returns-in-Err-feed_whole-2-clause-outcome
returns-in-Err-feed_whole-2-clause-outcome g c =
    let l = c.loop-most in
    let start = moment_of c.args.office.now (g.K.Sink.held c.args.out.now) in
    let state = state_of l.office (g.K.Sink.held l.out) l.line l.pending.items in
    let now = moment_of c.feed_whole-in-loop-most.new.office (g.K.Sink.held c.feed_whole-in-loop-most.new.sink) in
    ends_unwritten g.O.Office.answers g.O.Office.accepted start now (g.I.Source.left c.args.input.now) (g.I.Source.left l.input) (g.I.Source.left c.read_chunk.new.source) state
    c.read_chunk.new.chunk c.split_at-in-loop-most.result.0.now [] l.most c.in-Ok.count l.invariant.0 c.in-Ok.ensures.bytes
    (all_read c.read_chunk.new.chunk c.split_at-in-loop-most.result.0.now c.in-Ok.count c.split_at-in-loop-most.ensures.front) c.in-Err-feed_whole-2.ensures.err

pub returns-in-Ok-feed_whole-clause-outcome : goal.returns-in-Ok-feed_whole-clause-outcome
returns-in-Ok-feed_whole-clause-outcome g c =
    let l = c.loop-most in
    let start = moment_of c.args.office.now (g.K.Sink.held c.args.out.now) in
    let state = state_of l.office (g.K.Sink.held l.out) l.line l.pending.items in
    let new = state_of c.feed_whole.new.office (g.K.Sink.held c.feed_whole.new.sink) c.feed_whole.new.line c.feed_whole.new.pending.items in
    ends_limited g.O.Office.answers g.O.Office.accepted start (g.I.Source.left c.args.input.now) (g.I.Source.left l.input) (g.I.Source.left c.read_chunk.new.source) state new
    c.read_chunk.new.chunk c.split_at.result.0.now (slice_index c.read_chunk.new.chunk (c.in-Ok.count - 1)) l.most c.in-Ok.count l.invariant.0 c.in-Ok.ensures.bytes c.in-Ok.ensures.within
    (but_one c.read_chunk.new.chunk c.split_at.result.0.now c.in-Ok.count (omega (arith, c.if-count-eq0.false)) c.in-Ok.ensures.within c.split_at.ensures.front)
    (omega (arith, c.in-Ok.ensures.most)) c.in-Ok-feed_whole.ensures.written c.in-Ok-feed_whole.ensures.ok

pub returns-in-Err-feed_whole-clause-outcome : goal.returns-in-Err-feed_whole-clause-outcome
returns-in-Err-feed_whole-clause-outcome g c =
    let l = c.loop-most in
    let start = moment_of c.args.office.now (g.K.Sink.held c.args.out.now) in
    let state = state_of l.office (g.K.Sink.held l.out) l.line l.pending.items in
    let now = moment_of c.feed_whole.new.office (g.K.Sink.held c.feed_whole.new.sink) in
    ends_unwritten g.O.Office.answers g.O.Office.accepted start now (g.I.Source.left c.args.input.now) (g.I.Source.left l.input) (g.I.Source.left c.read_chunk.new.source) state
    c.read_chunk.new.chunk c.split_at.result.0.now (slice_index c.read_chunk.new.chunk (c.in-Ok.count - 1) ∷ []) l.most c.in-Ok.count l.invariant.0 c.in-Ok.ensures.bytes
    (but_one c.read_chunk.new.chunk c.split_at.result.0.now c.in-Ok.count (omega (arith, c.if-count-eq0.false)) c.in-Ok.ensures.within c.split_at.ensures.front)
    c.in-Err-feed_whole.ensures.err
