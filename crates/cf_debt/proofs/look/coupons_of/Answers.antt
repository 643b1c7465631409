use Rattle.std.proofs.Common.{◌+◌, ◌∙◌, arith, sym}
use Rattle.cf_debt.specs.Charges.{bond_of}
use Rattle.cf_debt.proofs.Payments.{small_at, sum_all, sum_step}
use Rattle.cf_model.specs.Common.{coupon}
use Rattle.cf_debt.proofs.look.coupons_of.Goals as goal

pub coupon-requires-clause-owed : goal.coupon-requires-clause-owed
coupon-requires-clause-owed c = (small_at c.args.payments.now c.loop-payment.payment-index _ c.requires.small c.loop-payment-test.true).owed

pub loop-payment-preserved : goal.loop-payment-preserved
loop-payment-preserved c =
    let was = c.loop-payment.invariant in
    let more = c.from-coupons.ensures ∙ c.coupon.ensures.value in
    record {
      is = (λ i. was.is i + more i) ∙ sym (sum_step (coupon (bond_of c.args.terms)) c.args.payments.now c.loop-payment.payment-index _ c.loop-payment-test.true);
      most = omega (arith, was.most, c.from-coupons.ensures, c.coupon.ensures.small);
    }

pub returns-clause-value : goal.returns-clause-value
returns-clause-value c = c.loop-payment.invariant.is ∙ sum_all (coupon (bond_of c.args.terms)) c.args.payments.now c.loop-payment.payment-index c.loop-payment-test.false

pub returns-clause-small : goal.returns-clause-small
returns-clause-small c = omega (arith, c.loop-payment.invariant.most, c.loop-payment.auto.payment-index-end, c.requires.few)
