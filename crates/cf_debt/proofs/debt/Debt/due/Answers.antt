use Rattle.cf_debt.proofs.Refusing.{due_is}
use Rattle.cf_debt.proofs.debt.Debt.due.Goals as goal

pub returns-in-Some-next : goal.returns-in-Some-next
returns-in-Some-next c = due_is c.args.chart.now c.args.bond c.args.self.now.debts c.in-Some.bond c.in-Some-next.payment c.due_of.result c.in-Some.ensures c.in-Some-next.is c.due_of.ensures
