use Rattle.std.proofs.Common.{true, ◌∙◌, arith}
use Rattle.cf_assets.specs.Rows.{view_asset}
use Rattle.cf_assets.proofs.InService.{within, few}
use Rattle.cf_assets.proofs.Charged.{one_more, all_charged, all_leased}
use Rattle.cf_assets.specs.Charges.{charge_in}
use Rattle.cf_model.specs.Common.{charge}
use Rattle.cf_assets.proofs.charges.total_charges.Goals as goal

pub bounds-rows-at : goal.bounds-rows-at
bounds-rows-at c = omega (arith, within c.args.closed 0 c.args.rows.now c.args.serving.now c.requires.serving c.loop-at.at-index c.loop-at-test.true)

pub overflow_add-all : goal.overflow_add-all
overflow_add-all c = omega (arith, c.loop-at.invariant.small, c.from-all.ensures, c.charge_of.ensures.small, few c.args.closed 0 c.args.rows.now c.args.serving.now c.requires.serving, c.requires.count, c.loop-at-test.true)

pub overflow_add-leased : goal.overflow_add-leased
overflow_add-leased c = omega (arith, c.loop-at.invariant.less, c.from-leased.ensures, c.leased_charge_of.ensures.small, few c.args.closed 0 c.args.rows.now c.args.serving.now c.requires.serving, c.requires.count, c.loop-at-test.true)

pub loop-at-preserved : goal.loop-at-preserved
loop-at-preserved c =
    record {
      all = one_more (λ r. charge c.args.closed (view_asset r)) c.args.rows.now c.args.serving.now c.loop-at.at-index c.from-all.result c.loop-at.all _ c.loop-at-test.true
          (omega (arith, within c.args.closed 0 c.args.rows.now c.args.serving.now c.requires.serving c.loop-at.at-index c.loop-at-test.true)) (c.from-all.ensures ∙ c.charge_of.ensures.value) c.loop-at.invariant.all;
      leased = one_more (λ r. charge_in true c.args.closed (view_asset r)) c.args.rows.now c.args.serving.now c.loop-at.at-index c.from-leased.result c.loop-at.leased _ c.loop-at-test.true
          (omega (arith, within c.args.closed 0 c.args.rows.now c.args.serving.now c.requires.serving c.loop-at.at-index c.loop-at-test.true)) (c.from-leased.ensures ∙ c.leased_charge_of.ensures.value) c.loop-at.invariant.leased;
      small = omega (arith, c.loop-at.invariant.small, c.from-all.ensures, c.charge_of.ensures.small);
      less = omega (arith, c.loop-at.invariant.less, c.from-leased.ensures, c.leased_charge_of.ensures.small);
    }

pub returns-clause-all : goal.returns-clause-all
returns-clause-all c = all_charged c.args.closed c.args.rows.now c.args.serving.now c.loop-at.at-index c.loop-at.all c.requires.rows c.requires.serving c.loop-at-test.false c.loop-at.invariant.all

pub returns-clause-leased : goal.returns-clause-leased
returns-clause-leased c = all_leased c.args.closed c.args.rows.now c.args.serving.now c.loop-at.at-index c.loop-at.leased c.requires.rows c.requires.serving c.loop-at-test.false c.loop-at.invariant.leased

pub returns-clause-most : goal.returns-clause-most
returns-clause-most c = omega (arith, c.loop-at.invariant.less, few c.args.closed 0 c.args.rows.now c.args.serving.now c.requires.serving, c.requires.count, c.loop-at.auto.at-index-end)
