use Rattle.std.proofs.Common.{◌≡◌, None, sym, subst, ◌∙◌}
use Rattle.cf_model.specs.Common.{Act, debt_refusal}
use Rattle.cf_debt.specs.Register.{IsThere, registers_with}
use Rattle.cf_debt.proofs.Refusing.{all_paid, can_pay, in_order}
use Rattle.cf_debt.proofs.Stepping.{close_step, issue_step, lease_step, leave_step, pay_step, quiet_step}
use Rattle.cf_debt.proofs.debt.Debt.apply.Goals as goal

pub pay-requires-clause-left : goal.pay-requires-clause-left
pay-requires-clause-left c =
    let d = c.args.self.now.debts in
    can_pay c.args.chart.now d c.args.entry.now.change.on c.in-PayDue.payment (subst (λ (a : Act). IsThere d.bonds a) c.in-PayDue.is c.requires.there)
    (subst (λ (a : Act). debt_refusal c.args.chart.now (registers_with d) c.args.entry.now.change.on a ≡ None) c.in-PayDue.is c.requires.allowed)

pub close-requires-clause-next : goal.close-requires-clause-next
close-requires-clause-next c =
    let d = c.args.self.now.debts in
    in_order c.args.chart.now d c.args.entry.now.change.on c.in-Close.period (subst (λ (a : Act). debt_refusal c.args.chart.now (registers_with d) c.args.entry.now.change.on a ≡ None) c.in-Close.is c.requires.allowed)

pub close-requires-clause-paid : goal.close-requires-clause-paid
close-requires-clause-paid c =
    let d = c.args.self.now.debts in
    all_paid c.args.chart.now d c.args.entry.now.change.on c.in-Close.period (subst (λ (a : Act). debt_refusal c.args.chart.now (registers_with d) c.args.entry.now.change.on a ≡ None) c.in-Close.is c.requires.allowed)

pub returns-in-Issue-clause-debts : goal.returns-in-Issue-clause-debts
returns-in-Issue-clause-debts c = c.enter_issue.ensures.debts ∙ sym (issue_step c.args.chart.now c.args.self.now.debts c.args.entry.now c.in-Issue.issue c.in-Issue.is)

pub returns-in-Lease-clause-debts : goal.returns-in-Lease-clause-debts
returns-in-Lease-clause-debts c = c.enter_lease.ensures.debts ∙ sym (lease_step c.args.chart.now c.args.self.now.debts c.args.entry.now c.in-Lease.lease c.in-Lease.is)

pub returns-in-PayDue-clause-debts : goal.returns-in-PayDue-clause-debts
returns-in-PayDue-clause-debts c = c.pay.ensures.debts ∙ sym (pay_step c.args.chart.now c.args.self.now.debts c.args.entry.now c.in-PayDue.payment c.in-PayDue.is)

pub returns-in-Leave-clause-debts : goal.returns-in-Leave-clause-debts
returns-in-Leave-clause-debts c = c.change_leave.ensures.debts ∙ sym (leave_step c.args.chart.now c.args.self.now.debts c.args.entry.now c.in-Leave.leave c.in-Leave.is)

pub returns-in-Close-clause-debts : goal.returns-in-Close-clause-debts
returns-in-Close-clause-debts c = c.close.ensures.debts ∙ sym (close_step c.args.chart.now c.args.self.now.debts c.args.entry.now c.in-Close.period c.in-Close.is)

pub returns-in-Adopt-clause-debts : goal.returns-in-Adopt-clause-debts
returns-in-Adopt-clause-debts c = c.count_act.ensures.debts ∙ sym (quiet_step c.args.chart.now c.args.self.now.debts c.args.entry.now c.in-Adopt.is)
