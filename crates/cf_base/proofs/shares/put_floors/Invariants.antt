use Rattle.std.proofs.Common.{◌≡◌, ◌+◌, take, map, sum_by}
use Rattle.cf_base.specs.Common.{floor_of}
use Rattle.cf_base.proofs.shares.put_floors.Given as goal

abbrev pub invariant-loop-i : goal.invariant-loop-i
invariant-loop-i l = record {
  floors : take l.i l.out ≡ map (floor_of l.total l.all) (take l.i l.weights);
  left : l.left + sum_by (floor_of l.total l.all) (take l.i l.weights) ≡ l.total;
}
