use Rattle.std.proofs.Common.{sym, ◌∙◌, ap}
use Rattle.cf_chart.specs.Common.{Plan}
use Rattle.cf_registers.proofs.Paying.{fund_next}
use Rattle.cf_office_rules.proofs.cash.paid_refusal.Goals as goal

pub returns-in-Some : goal.returns-in-Some
returns-in-Some c =
    sym (fund_next c.args.history.now.plan c.args.history.now.entries c.args.vouchers.now c.funds-fund-items.result.now c.loop-fund.fund-index c.fund-item.result _ _ _
    (c.funds-fund-items.ensures.value ∙ ap (λ (p : Plan). p.funds) c.chart.ensures.value) c.loop-fund-test.true c.fund-item.is c.orders.ensures c.paid_of-taken.ensures.value (sym c.in-Some.is ∙ c.fund_cash_refusal.ensures))
    ∙ c.loop-fund.invariant

pub loop-fund-preserved : goal.loop-fund-preserved
loop-fund-preserved c =
    sym (fund_next c.args.history.now.plan c.args.history.now.entries c.args.vouchers.now c.funds-fund-items.result.now c.loop-fund.fund-index c.fund-item.result _ _ _
    (c.funds-fund-items.ensures.value ∙ ap (λ (p : Plan). p.funds) c.chart.ensures.value) c.loop-fund-test.true c.fund-item.is c.orders.ensures c.paid_of-taken.ensures.value (sym c.in_default.is ∙ c.fund_cash_refusal.ensures))
    ∙ c.loop-fund.invariant
