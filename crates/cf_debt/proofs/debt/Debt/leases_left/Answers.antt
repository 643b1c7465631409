use Rattle.std.proofs.Common.{◌∙◌, ◌-ℤ◌, pos, rules, ap}
use Rattle.cf_base.proofs.Common.{to_z-of_z}
use mir.Val.{SFits}
use mir.Syntax.{w128}
use Rattle.cf_debt.specs.Register.{Register, registers_with}
use Rattle.cf_debt.specs.Rows.{view_bonds, view_payments}
use Rattle.cf_register_parts.specs.Years.{sum_of}
use Rattle.cf_debt.proofs.RunningSums.{leases_is}
use Rattle.cf_model.specs.Items as items
use Rattle.cf_debt.proofs.debt.Debt.leases_left.Goals as goal

pub returns-clause-value : goal.returns-clause-value
returns-clause-value c =
    let f : SFits w128 c.difference.result = search rules in
    let leases_repaid = c.total_of-leases_repaid.ensures ∙ ap (λ n. sum_of n c.self.inside.leases_repaid) c.years_to.ensures in
    to_z-of_z w128 c.difference.result f
    ∙ c.difference.ensures.value
    ∙ (λ i. pos (c.total_through-leased.ensures i) -ℤ pos (leases_repaid i))
    ∙ leases_is c.args.chart.now c.args.year (view_bonds (view_payments c.self.inside.payments.items) c.self.inside.bonds.items) _ _ c.self.invariant.sums.leases c.self.invariant.sums.lease_principals
    ∙ ap (λ (r : Register). items.leases c.args.chart.now c.args.year (registers_with r.debts)) c.self.view_is
