use Rattle.std.proofs.Common.{◌≡◌, ◌+◌, take, sum}
use Rattle.cf_base.specs.Common.{AreFair}
use Rattle.cf_base.proofs.shares.share_out.Given as goal

abbrev pub invariant-loop-weight : goal.invariant-loop-weight
invariant-loop-weight l = l.all ≡ sum (take l.weight-index l.weights)

abbrev pub invariant-loop-given : goal.invariant-loop-given
invariant-loop-given l = record {
  fair : AreFair l.total l.all l.weights l.out;
  sum : sum l.out + l.left ≡ l.total + l.given;
}
