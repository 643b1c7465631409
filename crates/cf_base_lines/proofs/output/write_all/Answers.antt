use Rattle.std.proofs.Common.{◌∙◌}
use Rattle.cf_base_lines.proofs.Talking.{wrote_more}
use Rattle.cf_base_lines.proofs.output.write_all.Goals as goal

pub loop-rest-preserved : goal.loop-rest-preserved
loop-rest-preserved g c = (
  wrote_more (g.K.Sink.held c.args.sink.now) (g.K.Sink.held c.loop-rest.sink) (g.K.Sink.held c.write.new.self) c.args.bytes.now c.loop-rest.rest.now c.in_ok-count.count
      c.loop-rest.invariant.0 c.in_ok-count.ensures.bytes c.split_at.result.1.now c.split_at.ensures.back,
  c.in_ok-count.ensures.quiet ∙ c.loop-rest.invariant.1,
)
