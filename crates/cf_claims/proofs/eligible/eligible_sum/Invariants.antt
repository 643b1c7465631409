use Rattle.std.proofs.Common.{◌≡◌, take, sum_by}
use Rattle.cf_claims.specs.Claims.{eligible_item}
use Rattle.cf_claims.proofs.eligible.eligible_sum.Given as goal

abbrev pub invariant-loop-item : goal.invariant-loop-item
invariant-loop-item l = l.sum ≡ sum_by (eligible_item l.chart l.lines l.year) (take l.item-index l.items)
