use Rattle.std.proofs.Common.{◌≡◌, drop}
use Rattle.cf_model.specs.Common.{Act, Pay, cash_refusal, first_refusal}
use Rattle.cf_registers.proofs.Paying.{fund_short}
use Rattle.cf_office_rules.proofs.cash.paid_refusal.Given as goal

abbrev pub invariant-loop-fund : goal.invariant-loop-fund
invariant-loop-fund l =
    let plan = l.history.plan in
    let h = l.history.entries in
    let act : Act = Pay (record { vouchers = l.vouchers }) in
    first_refusal (fund_short plan h act) (drop l.fund-index plan.funds) ≡ cash_refusal plan h act
