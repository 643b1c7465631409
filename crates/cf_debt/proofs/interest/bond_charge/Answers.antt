use Rattle.std.proofs.Common.{◌≡◌, ◌+◌, ◌-◌, ◌/◌, ℕ, min, ap, take, drop, subst, ◌∙◌}
use Rattle.cf_debt.specs.Charges.{bond_of, running_charge}
use Rattle.cf_debt.specs.Rows.{view_payments}
use Rattle.cf_debt.proofs.Payments.{charge_from, small_part}
use Rattle.cf_debt.proofs.interest.bond_charge.Goals as goal

pub charge_of-requires-clause-small : goal.charge_of-requires-clause-small
charge_of-requires-clause-small c = small_part c.args.payments.now _ _ c.requires.small

pub returns-clause-value : goal.returns-clause-value
returns-clause-value c =
    let r = c.args.bond.now in
    charge_from c.args.payments.now r c.args.closed c.from-begun.result c.charge_of.result c.requires.bond
    (c.from-begun.ensures ∙ c.min.ensures ∙ ap (λ n. min (n / r.terms.every) r.count) c.saturating_sub.ensures)
    (subst (λ (n : ℕ). c.charge_of.result ≡ running_charge (bond_of r.terms) c.args.closed (view_payments (take (r.start + n - (r.start + c.from-begun.result)) (drop (r.start + c.from-begun.result) c.args.payments.now))))
    c.from.ensures c.charge_of.ensures.value)
