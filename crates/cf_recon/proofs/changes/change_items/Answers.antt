use Rattle.std.proofs.Common.{rules, ◌∙◌, ◌-◌, ◌≤◌, ◌-ℤ◌, sym, ap, arith}
use Rattle.cf_base.proofs.Common.{to_z-of_z}
use mir.Val.{SFits}
use mir.Syntax.{w128}
use Rattle.cf_assets.specs.declared.changes.AssetChanges.{AssetChanges}
use Rattle.cf_assets.specs.Changes.{asset_changes}
use Rattle.cf_debt.specs.declared.sums.DebtChanges.{DebtChanges}
use Rattle.cf_debt.specs.Register.{registers_with, debt_changes}
use Rattle.cf_model.specs.Common.{deferred_in, accrued, absences}
use Rattle.cf_recon.proofs.LeaveChange.{leave_change}
use Rattle.cf_recon.proofs.changes.change_items.Goals as goal

pub returns : goal.returns
returns c s are =
    let plan = c.args.chart.now in
    let year = c.args.year in
    let first : 1 ≤ year = omega (arith, c.requires.from) in
    let fund_fits : SFits w128 c.change.result = search rules in
    let outlay_fits : SFits w128 c.year_changes-capital.result.outlay = search rules in
    let donated_fits : SFits w128 c.year_changes-capital.result.donated = search rules in
    let right_fits : SFits w128 c.year_changes-capital.result.right_to_use = search rules in
    let amortization_fits : SFits w128 c.year_changes-capital.result.amortization = search rules in
    let depreciation_fits : SFits w128 c.year_changes-capital.result.depreciation = search rules in
    let disposals_fits : SFits w128 c.year_changes-capital.result.disposals = search rules in
    let unavailable_fits : SFits w128 c.unavailable_change.result = search rules in
    let proceeds_fits : SFits w128 c.year_changes-bonds.result.proceeds = search rules in
    let leases_fits : SFits w128 c.year_changes-bonds.result.leases_issued = search rules in
    let principal_fits : SFits w128 c.year_changes-bonds.result.principal_paid = search rules in
    let interest_fits : SFits w128 c.less.result = search rules in
    let leave_fits : SFits w128 c.less-2.result = search rules in
    let position_fits : SFits w128 c.change-2.result = search rules in
    let closed = sym are.assets.closed in
    let assets = sym are.assets.assets in
    let capital = c.year_changes-capital.ensures ∙ (λ i. asset_changes plan (closed i) year (assets i)) in
    let bonds = c.year_changes-bonds.ensures ∙ ap (λ d. debt_changes plan year (registers_with d)) (sym are.debts) in
    let fund = to_z-of_z w128 c.change.result fund_fits ∙ c.change.ensures in
    let outlay = to_z-of_z w128 c.year_changes-capital.result.outlay outlay_fits ∙ ap (λ (r : AssetChanges). r.outlay) capital in
    let donated = to_z-of_z w128 c.year_changes-capital.result.donated donated_fits ∙ ap (λ (r : AssetChanges). r.donated) capital in
    let depreciation = to_z-of_z w128 c.year_changes-capital.result.depreciation depreciation_fits ∙ ap (λ (r : AssetChanges). r.depreciation) capital in
    let right = to_z-of_z w128 c.year_changes-capital.result.right_to_use right_fits ∙ ap (λ (r : AssetChanges). r.right_to_use) capital in
    let amortization = to_z-of_z w128 c.year_changes-capital.result.amortization amortization_fits ∙ ap (λ (r : AssetChanges). r.amortization) capital in
    let disposals = to_z-of_z w128 c.year_changes-capital.result.disposals disposals_fits ∙ ap (λ (r : AssetChanges). r.disposals) capital in
    let unavailable = to_z-of_z w128 c.unavailable_change.result unavailable_fits ∙ c.unavailable_change.ensures ∙ ap (deferred_in year) (sym are.receivables) in
    let proceeds = to_z-of_z w128 c.year_changes-bonds.result.proceeds proceeds_fits ∙ ap (λ (r : DebtChanges). r.proceeds) bonds in
    let leases = to_z-of_z w128 c.year_changes-bonds.result.leases_issued leases_fits ∙ ap (λ (r : DebtChanges). r.leases_issued) bonds in
    let principal = to_z-of_z w128 c.year_changes-bonds.result.principal_paid principal_fits ∙ ap (λ (r : DebtChanges). r.principal_paid) bonds in
    let was_fits : SFits w128 c.accrued.result = search rules in
    let was = to_z-of_z w128 c.accrued.result was_fits ∙ c.accrued.ensures.value ∙ ap (λ d. accrued plan (year - 1) (registers_with d)) (sym are.debts) in
    let is_fits : SFits w128 c.accrued-2.result = search rules in
    let is = to_z-of_z w128 c.accrued-2.result is_fits ∙ c.accrued-2.ensures.value ∙ ap (λ d. accrued plan year (registers_with d)) (sym are.debts) in
    let interest = to_z-of_z w128 c.less.result interest_fits ∙ c.less.ensures ∙ (λ i. was i -ℤ is i) in
    let left_was_fits : SFits w128 c.leave_left.result = search rules in
    let left_was = to_z-of_z w128 c.leave_left.result left_was_fits ∙ c.leave_left.ensures.value ∙ ap (λ d. absences (year - 1) (registers_with d)) (sym are.debts) in
    let left_is_fits : SFits w128 c.leave_left-2.result = search rules in
    let left_is = to_z-of_z w128 c.leave_left-2.result left_is_fits ∙ c.leave_left-2.ensures.value ∙ ap (λ d. absences year (registers_with d)) (sym are.debts) in
    let leave = to_z-of_z w128 c.less-2.result leave_fits ∙ c.less-2.ensures ∙ (λ i. left_was i -ℤ left_is i) ∙ leave_change year s.leave first in
    let position = to_z-of_z w128 c.change-2.result position_fits ∙ c.change-2.ensures in
    λ i. record {
      fund_balances = fund i;
      capital_outlay = outlay i;
      donated = donated i;
      right_to_use = right i;
      depreciation = depreciation i;
      amortization = amortization i;
      disposals = disposals i;
      unavailable = unavailable i;
      proceeds = proceeds i;
      leases_issued = leases i;
      principal_paid = principal i;
      accrued_interest = interest i;
      leave = leave i;
      net_position = position i;
    }
