use Rattle.std.proofs.Common.{◌%◌, ap, ◌∙◌, arith}
use Rattle.cf_chart.specs.Common.{Plan}
use Rattle.cf_model.specs.Common.{call_touches}
use Rattle.cf_hall.proofs.shared.Shared.post.Goals as goal

pub settle-answer-requires-clause-lent : goal.settle-answer-requires-clause-lent
settle-answer-requires-clause-lent g c = λ line touched.
    c.take-taken.ensures.exact (line % 8) (omega arith) ∙ ap (λ (p : Plan). call_touches p (line % 8) c.args.call) c.self.invariant.1 ∙ touched
