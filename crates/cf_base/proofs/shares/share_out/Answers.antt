use Rattle.std.proofs.Common.{◌∙◌, ◌+◌, ap, sum, arith, refl, slice_index}
use Rattle.std.proofs.lemmas.List.Sums.{sum-map, sum_by-set}
use Rattle.cf_base.specs.Common.{floor_of}
use Rattle.cf_base.proofs.Floors.{fair_more, none_left}
use Rattle.cf_base.proofs.shares.share_out.Goals as goal

pub loop-given-preserved : goal.loop-given-preserved
loop-given-preserved c =
    let out = c.loop-given.out in
    let place = c.in-Some.place in
    let e = c.in-Some.ensures in
    let added = sum_by-set (λ x. x) out place (slice_index out place + 1) 0 (omega (arith, e.place, c.loop-given.invariant.fair.count)) in
    record {
      fair = fair_more c.args.total c.loop-weight.all c.args.weights.now out place c.loop-given.invariant.fair e.place e.floor e.first;
      sum = omega (arith, added, c.loop-given.invariant.sum);
    }

pub returns-in-None : goal.returns-in-None
returns-in-None c =
    let floor = floor_of c.args.total c.loop-weight.all in
    let ws = c.args.weights.now in
    let out = c.loop-given.out in
    let full = none_left c.args.total c.loop-weight.all ws out c.loop-given.invariant.fair (c.in-None.ensures.none refl) in
    let floors = ap sum c.put_floors-left.ensures.floors ∙ sum-map floor ws in
    absurd (omega (arith, full, floors, c.put_floors-left.ensures.left, c.put_floors-left.ensures.few, c.loop-given.invariant.sum, c.loop-given-test.true))
