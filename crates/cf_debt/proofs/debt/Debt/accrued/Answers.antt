use Rattle.std.proofs.Common.{◌∙◌, ◌-ℤ◌, pos, rules, ap}
use Rattle.cf_base.proofs.Common.{to_z-of_z}
use mir.Val.{SFits}
use mir.Syntax.{w128}
use Rattle.cf_debt.specs.Register.{Register, registers_with}
use Rattle.cf_debt.specs.Rows.{view_bonds, view_payments}
use Rattle.cf_register_parts.specs.Years.{sum_of}
use Rattle.cf_debt.proofs.RunningSums.{accrued_is}
use Rattle.cf_model.specs.Items as items
use Rattle.cf_debt.proofs.debt.Debt.accrued.Goals as goal

pub returns-clause-value : goal.returns-clause-value
returns-clause-value c =
    let f : SFits w128 c.difference.result = search rules in
    let charged = c.total_of-charged.ensures ∙ ap (λ n. sum_of n c.self.inside.charged) c.years_to.ensures in
    let coupons = c.total_of-coupons.ensures ∙ ap (λ n. sum_of n c.self.inside.coupons) c.years_to-2.ensures in
    to_z-of_z w128 c.difference.result f
    ∙ c.difference.ensures.value
    ∙ (λ i. pos (charged i) -ℤ pos (coupons i))
    ∙ accrued_is c.args.chart.now c.self.inside.closed c.args.year (view_bonds (view_payments c.self.inside.payments.items) c.self.inside.bonds.items) _ _ c.self.invariant.sums.charges c.self.invariant.sums.interests
    ∙ ap (λ (r : Register). items.accrued c.args.chart.now c.args.year (registers_with r.debts)) c.self.view_is
