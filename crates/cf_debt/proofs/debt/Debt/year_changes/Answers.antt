use Rattle.std.proofs.Common.{◌+◌, ◌-◌, ◌∙◌, ◌-ℤ◌, pos, arith, rules, ap}
use Rattle.cf_base.proofs.Common.{to_z-of_z}
use mir.Val.{SFits}
use mir.Syntax.{w128}
use Rattle.cf_debt.specs.Register.{Register, debt_changes, registers_with}
use Rattle.cf_debt.specs.Rows.{view_bonds, view_payments}
use Rattle.cf_register_parts.specs.Years.{sum_of}
use Rattle.cf_debt.proofs.RunningSums.{leases_issued_is, principal_is, proceeds_is}
use Rattle.cf_debt.proofs.debt.Debt.year_changes.Goals as goal

pub returns : goal.returns
returns c =
    let f : SFits w128 c.difference.result = search rules in
    let g : SFits w128 c.difference-2.result = search rules in
    let h : SFits w128 c.difference-3.result = search rules in
    let bonds = view_bonds (view_payments c.self.inside.payments.items) c.self.inside.bonds.items in
    let repaid = c.total_of-repaid.ensures ∙ ap (λ n. sum_of n c.self.inside.repaid) c.years_to.ensures in
    let repaid_before = c.total_of-repaid_before.ensures ∙ ap (λ n. sum_of n c.self.inside.repaid) (c.saturating_sub.ensures ∙ ap (λ n. n - 1) c.years_to-2.ensures) in
    let proceeds = to_z-of_z w128 c.difference.result f ∙ c.difference.ensures.value ∙ (λ i. pos (c.total_through-issued_before.ensures i + c.total_through-leased.ensures i) -ℤ pos (c.total_through-issued.ensures i + c.total_through-leased_before.ensures i))
    ∙ proceeds_is c.args.year bonds c.self.inside.issued c.self.inside.leased (omega (arith, c.requires.from)) c.self.invariant.sums.issues c.self.invariant.sums.leases in
    let leases = to_z-of_z w128 c.difference-2.result g ∙ c.difference-2.ensures.value ∙ (λ i. pos (c.total_through-leased_before.ensures i) -ℤ pos (c.total_through-leased.ensures i))
    ∙ leases_issued_is c.args.year bonds c.self.inside.leased (omega (arith, c.requires.from)) c.self.invariant.sums.leases in
    let paid = to_z-of_z w128 c.difference-3.result h ∙ c.difference-3.ensures.value ∙ (λ i. pos (repaid i) -ℤ pos (repaid_before i))
    ∙ principal_is c.args.chart.now c.args.year bonds c.self.inside.repaid c.self.invariant.sums.principals in
    (λ i. record { proceeds = proceeds i; leases_issued = leases i; principal_paid = paid i })
    ∙ ap (λ (r : Register). debt_changes c.args.chart.now c.args.year (registers_with r.debts)) c.self.view_is
