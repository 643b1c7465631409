use Rattle.std.proofs.Common.{◌≡◌, None, subst}
use Rattle.cf_calls.specs.declared.acts.Act.TheVariants as act
use Rattle.cf_model.specs.Common.{Period, order_refusal, unpaid_refusal}
use Rattle.cf_debt.specs.Register.{registers_with}
use Rattle.cf_debt.proofs.Refusing.{next_month}
use Rattle.cf_debt.proofs.debt.Debt.close.Goals as goal

pub close_month-requires-clause-next : goal.close_month-requires-clause-next
close_month-requires-clause-next c =
    let d = c.args.self.now.debts in
    next_month c.args.chart.now d c.in-Month.month (subst (λ (p : Period). order_refusal c.args.chart.now (registers_with d) (act.Close p) ≡ None) c.in-Month.is c.requires.next)

pub close_month-requires-clause-paid : goal.close_month-requires-clause-paid
close_month-requires-clause-paid c =
    let d = c.args.self.now.debts in
    subst (λ (p : Period). unpaid_refusal c.args.chart.now (registers_with d) (act.Close p) ≡ None) c.in-Month.is c.requires.paid
