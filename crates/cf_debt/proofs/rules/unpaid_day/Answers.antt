use Rattle.cf_debt.specs.Rows.{view_bond, view_payment, view_payments}
use Rattle.cf_debt.proofs.Refusing.{unpaid_then}
use Rattle.cf_debt.proofs.rules.unpaid_day.Goals as goal

pub returns-then-payment-closed : goal.returns-then-payment-closed
returns-then-payment-closed c =
    unpaid_then c.args.chart.now c.args.closed (view_bond (view_payments c.args.payments.now) c.args.bond.now) (view_payment c.in-Some.payment) c.due_day.result
    c.in-Some.ensures.value c.if-payment-closed.true (c.due_day.ensures (view_payments c.args.payments.now))
