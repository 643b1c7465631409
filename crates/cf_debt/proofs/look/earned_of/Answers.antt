use Rattle.std.proofs.Common.{◌+◌, ◌∙◌, arith, sym}
use Rattle.cf_debt.specs.Charges.{bond_of}
use Rattle.cf_debt.proofs.Payments.{small_at, sum_all, sum_step}
use Rattle.cf_model.specs.Common.{Due, days_by, interest_for}
use Rattle.cf_debt.proofs.look.earned_of.Goals as goal

pub earned_by-requires-clause-owed : goal.earned_by-requires-clause-owed
earned_by-requires-clause-owed c = (small_at c.args.payments.now c.loop-payment.payment-index _ c.requires.small c.loop-payment-test.true).owed

pub loop-payment-preserved : goal.loop-payment-preserved
loop-payment-preserved c =
    let was = c.loop-payment.invariant in
    let more = c.from-earned.ensures ∙ c.earned_by.ensures.value in
    record {
      is = (λ i. was.is i + more i) ∙ sym (sum_step (λ (p : Due). interest_for (bond_of c.args.terms) p (days_by c.args.closed (bond_of c.args.terms) p)) c.args.payments.now c.loop-payment.payment-index _ c.loop-payment-test.true);
      most = omega (arith, was.most, c.from-earned.ensures, c.earned_by.ensures.small);
    }

pub returns-clause-value : goal.returns-clause-value
returns-clause-value c = c.loop-payment.invariant.is ∙ sum_all (λ (p : Due). interest_for (bond_of c.args.terms) p (days_by c.args.closed (bond_of c.args.terms) p)) c.args.payments.now c.loop-payment.payment-index c.loop-payment-test.false

pub returns-clause-small : goal.returns-clause-small
returns-clause-small c = omega (arith, c.loop-payment.invariant.most, c.loop-payment.auto.payment-index-end, c.requires.few)
