use Rattle.std.proofs.Common.{◌≡◌, Some, None, sym, ◌∙◌, ap}
use Rattle.cf_debt.specs.Register.{due_now}
use Rattle.cf_model.specs.Common.{Bond, next_due, payment_refusal, unadopted_due, registers_of, bond_at, first_refusal}
use Rattle.cf_model.proofs.Common.{bonds_named}
use Rattle.cf_office_rules.proofs.Dues.{due_over, no_unadopted, paid_unadopted}
use Rattle.cf_office_rules.proofs.budgets.payment_refusal.Goals as goal

pub returns-in-Some : goal.returns-in-Some
returns-in-Some c =
    let plan = c.args.history.now.plan in
    let h = c.args.history.now.entries in
    let s = registers_of plan h in
    let p = c.in-PayDue.payment in
    let due : due_now plan (bond_at p.bond s.bonds) ≡ Some c.in-Some.due = due_over plan h _ _ p.bond _ c.chart.ensures.value c.debt.ensures c.due.ensures ∙ c.in-Some.is in
    c.unadopted_fund_refusal.ensures
    ∙ sym (ap (first_refusal (λ (b : Bond). unadopted_due plan h p.fund (next_due b))) (bonds_named plan h c.chart.ensures.legal p.bond) ∙ paid_unadopted plan h p.fund (bond_at p.bond s.bonds) c.in-Some.due due)
    ∙ ap (payment_refusal plan h s) (sym c.in-PayDue.is)

pub returns-in-None : goal.returns-in-None
returns-in-None c =
    let plan = c.args.history.now.plan in
    let h = c.args.history.now.entries in
    let s = registers_of plan h in
    let p = c.in-PayDue.payment in
    let due : due_now plan (bond_at p.bond s.bonds) ≡ None = due_over plan h _ _ p.bond _ c.chart.ensures.value c.debt.ensures c.due.ensures ∙ c.in-None.is in
    sym (ap (first_refusal (λ (b : Bond). unadopted_due plan h p.fund (next_due b))) (bonds_named plan h c.chart.ensures.legal p.bond) ∙ no_unadopted plan h p.fund (bond_at p.bond s.bonds) due)
    ∙ ap (payment_refusal plan h s) (sym c.in-PayDue.is)
