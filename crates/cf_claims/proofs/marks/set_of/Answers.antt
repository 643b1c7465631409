use Rattle.std.proofs.Common.{arith}
use Rattle.cf_base.proofs.Common.{common_steps, list_any_more}
use Rattle.cf_claims.proofs.marks.set_of.Goals as goal

pub loop-number-preserved : goal.loop-number-preserved
loop-number-preserved c = λ q. grind (arith, common_steps, list_any_more, c.loop-number.invariant q)
