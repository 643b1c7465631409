use Rattle.std.proofs.Common.{true, false, refl, get_or, arith}
use Rattle.cf_assets.proofs.InService.{within, few}
use Rattle.cf_assets.proofs.Charged.{one_function, all_of_function, zeros}
use Rattle.cf_assets.proofs.charges.function_charges.Goals as goal

pub loop-at-init : goal.loop-at-init
loop-at-init c = record {
  owned = λ k d l. rw c.no_sums.ensures (zeros 64 k);
  leased = λ k d l. rw c.no_sums-2.ensures (zeros 64 k);
  small = λ k. rw c.no_sums.ensures (omega (arith, zeros 64 k));
  less = λ k. rw c.no_sums-2.ensures (omega (arith, zeros 64 k));
}

pub bounds-rows-at : goal.bounds-rows-at
bounds-rows-at c = omega (arith, within c.args.closed 0 c.args.rows.now c.args.serving.now c.requires.serving c.loop-at.at-index c.loop-at-test.true)

pub charge_row-requires-clause-owned_fits : goal.charge_row-requires-clause-owned_fits
charge_row-requires-clause-owned_fits c k = omega (arith, c.loop-at.invariant.small k, few c.args.closed 0 c.args.rows.now c.args.serving.now c.requires.serving, c.requires.count, c.loop-at-test.true)

pub charge_row-requires-clause-leased_fits : goal.charge_row-requires-clause-leased_fits
charge_row-requires-clause-leased_fits c k = omega (arith, c.loop-at.invariant.less k, few c.args.closed 0 c.args.rows.now c.args.serving.now c.requires.serving, c.requires.count, c.loop-at-test.true)

pub loop-at-preserved : goal.loop-at-preserved
loop-at-preserved c = record {
  owned = λ k d l.
      one_function false c.args.closed (get_or c.args.functions.now k d).id c.args.rows.now c.args.serving.now c.loop-at.at-index _ (get_or c.loop-at.charges.owned k 0) (get_or c.charge_row.new.charges.owned k 0) _ c.loop-at-test.true
      (omega (arith, within c.args.closed 0 c.args.rows.now c.args.serving.now c.requires.serving c.loop-at.at-index c.loop-at-test.true)) refl (c.charge_row.ensures.owned k d l) (c.loop-at.invariant.owned k d l);
  leased = λ k d l.
      one_function true c.args.closed (get_or c.args.functions.now k d).id c.args.rows.now c.args.serving.now c.loop-at.at-index _ (get_or c.loop-at.charges.leased k 0) (get_or c.charge_row.new.charges.leased k 0) _ c.loop-at-test.true
      (omega (arith, within c.args.closed 0 c.args.rows.now c.args.serving.now c.requires.serving c.loop-at.at-index c.loop-at-test.true)) refl (c.charge_row.ensures.leased k d l) (c.loop-at.invariant.leased k d l);
  small = λ k. omega (arith, c.loop-at.invariant.small k, c.charge_row.ensures.most_owned k);
  less = λ k. omega (arith, c.loop-at.invariant.less k, c.charge_row.ensures.most_leased k);
}

pub returns-clause-owned : goal.returns-clause-owned
returns-clause-owned c k d l = all_of_function false c.args.closed (get_or c.args.functions.now k d).id c.args.rows.now c.args.serving.now c.loop-at.at-index (get_or c.loop-at.charges.owned k 0) c.requires.rows c.requires.serving c.loop-at-test.false (c.loop-at.invariant.owned k d l)

pub returns-clause-leased : goal.returns-clause-leased
returns-clause-leased c k d l = all_of_function true c.args.closed (get_or c.args.functions.now k d).id c.args.rows.now c.args.serving.now c.loop-at.at-index (get_or c.loop-at.charges.leased k 0) c.requires.rows c.requires.serving c.loop-at-test.false (c.loop-at.invariant.leased k d l)

pub returns-clause-most_owned : goal.returns-clause-most_owned
returns-clause-most_owned c k = omega (arith, c.loop-at.invariant.small k, few c.args.closed 0 c.args.rows.now c.args.serving.now c.requires.serving, c.requires.count, c.loop-at.auto.at-index-end)

pub returns-clause-most_leased : goal.returns-clause-most_leased
returns-clause-most_leased c k = omega (arith, c.loop-at.invariant.less k, few c.args.closed 0 c.args.rows.now c.args.serving.now c.requires.serving, c.requires.count, c.loop-at.auto.at-index-end)
