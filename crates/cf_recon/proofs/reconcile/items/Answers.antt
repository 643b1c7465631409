use Rattle.std.proofs.Common.{rules, ◌∙◌, pos, ◌-ℤ◌, sym, ap}
use Rattle.cf_base.proofs.Common.{to_z-of_z}
use mir.Val.{SFits}
use mir.Syntax.{w128}
use Rattle.cf_debt.specs.Register.{registers_with}
use Rattle.cf_model.specs.Common.{leased, net, owned, int_sum, bonds, leases, accrued, absences, unavailable}
use Rattle.cf_recon.proofs.reconcile.items.Goals as goal

pub returns : goal.returns
returns c s are =
    let plan = c.args.chart.now in
    let year = c.args.year in
    let total_fits : SFits w128 c.total.result = search rules in
    let net_fits : SFits w128 c.net.result = search rules in
    let unavailable_fits : SFits w128 c.unavailable.result = search rules in
    let bonds_fits : SFits w128 c.negative.result = search rules in
    let leases_fits : SFits w128 c.negative-2.result = search rules in
    let right_fits : SFits w128 c.right_to_use.result = search rules in
    let leased_fits : SFits w128 c.leases_left.result = search rules in
    let accrued_fits : SFits w128 c.negative-3.result = search rules in
    let leave_fits : SFits w128 c.negative-4.result = search rules in
    let position_fits : SFits w128 c.total-2.result = search rules in
    let owed_fits : SFits w128 c.principal_left.result = search rules in
    let interest_fits : SFits w128 c.accrued.result = search rules in
    let left_fits : SFits w128 c.leave_left.result = search rules in
    let fund = to_z-of_z w128 c.total.result total_fits ∙ c.total.ensures in
    let closed = sym are.assets.closed in
    let assets = sym are.assets.assets in
    let capital = to_z-of_z w128 c.net.result net_fits ∙ c.net.ensures ∙ (λ i. int_sum (net plan (closed i) year) (owned (assets i))) in
    let right = to_z-of_z w128 c.right_to_use.result right_fits ∙ c.right_to_use.ensures ∙ (λ i. int_sum (net plan (closed i) year) (leased (assets i))) in
    let deferred = to_z-of_z w128 c.unavailable.result unavailable_fits ∙ c.unavailable.ensures ∙ ap (λ r. unavailable r year) (sym are.receivables) in
    let owed = to_z-of_z w128 c.negative.result bonds_fits ∙ c.negative.ensures ∙ ap (λ z. pos 0 -ℤ z) (to_z-of_z w128 c.principal_left.result owed_fits ∙ c.principal_left.ensures.value ∙ ap (λ d. bonds plan year (registers_with d)) (sym are.debts)) in
    let lent = to_z-of_z w128 c.negative-2.result leases_fits ∙ c.negative-2.ensures ∙ ap (λ z. pos 0 -ℤ z) (to_z-of_z w128 c.leases_left.result leased_fits ∙ c.leases_left.ensures.value ∙ ap (λ d. leases plan year (registers_with d)) (sym are.debts)) in
    let interest = to_z-of_z w128 c.negative-3.result accrued_fits ∙ c.negative-3.ensures ∙ ap (λ z. pos 0 -ℤ z) (to_z-of_z w128 c.accrued.result interest_fits ∙ c.accrued.ensures.value ∙ ap (λ d. accrued plan year (registers_with d)) (sym are.debts)) in
    let leave = to_z-of_z w128 c.negative-4.result leave_fits ∙ c.negative-4.ensures ∙ ap (λ z. pos 0 -ℤ z) (to_z-of_z w128 c.leave_left.result left_fits ∙ c.leave_left.ensures.value ∙ ap (λ d. absences year (registers_with d)) (sym are.debts)) in
    let position = to_z-of_z w128 c.total-2.result position_fits ∙ c.total-2.ensures in
    λ i. record {
      fund_balances = fund i;
      capital_assets = capital i;
      right_to_use = right i;
      unavailable = deferred i;
      bonds = owed i;
      leases = lent i;
      accrued_interest = interest i;
      leave = leave i;
      net_position = position i;
    }
