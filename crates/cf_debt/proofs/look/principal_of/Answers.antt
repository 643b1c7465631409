use Rattle.std.proofs.Common.{◌+◌, ◌∙◌, arith, sym, slice_index_or}
use Rattle.cf_debt.proofs.Payments.{small_at, sum_all, sum_step}
use Rattle.cf_model.specs.Common.{Due}
use Rattle.cf_debt.proofs.look.principal_of.Goals as goal

pub overflow_add-principal : goal.overflow_add-principal
overflow_add-principal c =
    omega (
      arith,
      c.loop-payment.invariant.most,
      c.loop-payment.auto.payment-index-end,
      c.requires.few,
      (small_at c.args.payments.now c.loop-payment.payment-index (record { from = 0; month = 0; owed = 0; principal = 0 }) c.requires.small c.loop-payment-test.true).principal,
    )

pub loop-payment-preserved : goal.loop-payment-preserved
loop-payment-preserved c =
    let was = c.loop-payment.invariant in
    let l = c.loop-payment-test.true in
    record {
      is = (λ i. was.is i + (slice_index_or c.args.payments.now c.loop-payment.payment-index (record { from = 0; month = 0; owed = 0; principal = 0 })).principal)
          ∙ sym (sum_step (λ (p : Due). p.principal) c.args.payments.now c.loop-payment.payment-index (record { from = 0; month = 0; owed = 0; principal = 0 }) l);
      most = omega (arith, was.most, (small_at c.args.payments.now c.loop-payment.payment-index (record { from = 0; month = 0; owed = 0; principal = 0 }) c.requires.small l).principal);
    }

pub returns : goal.returns
returns c = c.loop-payment.invariant.is ∙ sum_all (λ (p : Due). p.principal) c.args.payments.now c.loop-payment.payment-index c.loop-payment-test.false
