use Rattle.std.proofs.Common.{◌+◌, ◌<◌, length, ap, sym, arith}
use Rattle.cf_base.proofs.Common.{length-map}
use Rattle.cf_debt.specs.Rows.{view_payment, view_payments}
use Rattle.cf_debt.proofs.Payments.{next_value, next_month, small_at}
use Rattle.cf_debt.proofs.Schedules.{next_none}
use Rattle.cf_debt.proofs.schedule.next_of.Goals as goal

pub returns-then-bond-clause-value : goal.returns-then-bond-clause-value
returns-then-bond-clause-value c = next_value c.args.payments.now c.args.bond.now _ _ c.requires.bond c.if-bond.true (ap (λ n. c.args.bond.now.start + n) c.from.ensures)

pub returns-then-bond-clause-small : goal.returns-then-bond-clause-small
returns-then-bond-clause-small c =
    let l : c.args.bond.now.start + c.from.result < length c.args.payments.now = omega (arith, c.requires.bond.range, c.from.ensures, c.if-bond.true, length-map c.args.payments.now view_payment) in
    small_at c.args.payments.now _ _ c.requires.small l

pub returns-then-bond-clause-month : goal.returns-then-bond-clause-month
returns-then-bond-clause-month c = next_month c.args.payments.now c.args.bond.now _ _ c.requires.bond c.if-bond.true (ap (λ n. c.args.bond.now.start + n) c.from.ensures)

pub returns-else-bond-clause-value : goal.returns-else-bond-clause-value
returns-else-bond-clause-value c = sym (next_none (view_payments c.args.payments.now) c.args.bond.now c.requires.bond c.if-bond.false)
