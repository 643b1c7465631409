use Rattle.std.proofs.Common.{◌≡◌, ◌∙◌, ◌+◌, ◌++◌, ◌∷◌, [], ap, take, map, sum_by, arith, sym, get_or}
use Rattle.std.proofs.lemmas.List.{map-append, take_more, take_more_set, take_all}
use Rattle.std.proofs.lemmas.List.Sums.{sum_by_more, sum_by_more_le}
use Rattle.cf_base.specs.Common.{floor_of}
use Rattle.cf_base.proofs.Floors.{floors_fit, left_few}
use Rattle.cf_base.proofs.shares.put_floors.Goals as goal

pub overflow_sub-left : goal.overflow_sub-left
overflow_sub-left c =
    let floor = floor_of c.args.total c.args.all in
    let ws = c.args.weights.now in
    let fit = floors_fit c.args.total c.args.all c.requires.some ws (sym c.requires.all) in
    let more = sum_by_more_le floor ws c.loop-i.i 0 (omega arith) in
    omega (arith, fit, more, c.loop-i.invariant.left, c.floor_share-share.ensures)

pub loop-i-preserved : goal.loop-i-preserved
loop-i-preserved c =
    let floor = floor_of c.args.total c.args.all in
    let ws = c.args.weights.now in
    let i = c.loop-i.i in
    let share = c.floor_share-share.result in
    let fit = floors_fit c.args.total c.args.all c.requires.some ws (sym c.requires.all) in
    let more = sum_by_more_le floor ws i 0 (omega arith) in
    let next = sum_by_more floor ws i 0 (omega arith) in
    record {
      floors = take_more_set c.loop-i.out i share (omega (arith, c.loop-i.auto.out, c.requires.lengths)) ∙ ap (λ l. l ++ share ∷ []) c.loop-i.invariant.floors
          ∙ ap (λ n. map floor (take i ws) ++ n ∷ []) c.floor_share-share.ensures
          ∙ sym (ap (map floor) (take_more ws i 0 (omega arith)) ∙ map-append floor (take i ws) (get_or ws i 0 ∷ []));
      left = omega (arith, fit, more, next, c.loop-i.invariant.left, c.floor_share-share.ensures);
    }

pub returns-clause-few : goal.returns-clause-few
returns-clause-few c =
    let floor = floor_of c.args.total c.args.all in
    let ws = c.args.weights.now in
    let whole : take c.loop-i.i ws ≡ ws = take_all c.loop-i.i ws (omega arith) in
    left_few c.args.total c.args.all c.requires.some ws c.loop-i.left (sym c.requires.all) (ap (λ l. c.loop-i.left + sum_by floor l) (sym whole) ∙ c.loop-i.invariant.left)
