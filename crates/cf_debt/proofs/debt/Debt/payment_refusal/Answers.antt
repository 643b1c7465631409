use Rattle.cf_debt.proofs.Refusing.{without_bond, payment_refusal}
use Rattle.cf_debt.proofs.debt.Debt.payment_refusal.Goals as goal

pub returns-in-None : goal.returns-in-None
returns-in-None c = without_bond c.args.chart.now c.args.self.now.debts c.args.on c.args.payment.now c.in-None.ensures

pub returns-in-Some-next : goal.returns-in-Some-next
returns-in-Some-next c = payment_refusal c.args.chart.now c.args.self.now.debts c.args.on c.args.payment.now c.in-Some.bond c.in-Some-next.next c.not_due.result c.in-Some.ensures c.in-Some-next.is c.not_due.ensures
