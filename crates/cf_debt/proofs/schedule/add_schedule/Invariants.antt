use Rattle.std.proofs.Common.{◌≡◌, ◌+◌, ◌*◌, ◌-◌, ◌≤◌, ◌++◌, length, drop, vec_capacity}
use Rattle.cf_debt.specs.Rows.{view_payments}
use Rattle.cf_model.specs.Common.{dues_from}
use Rattle.cf_debt.proofs.schedule.add_schedule.Given as goal

abbrev pub invariant-loop-principal : goal.invariant-loop-principal
invariant-loop-principal l = record {
  from_is : l.from ≡ l.month + l.every * l.principal-index;
  room : length l.payments.items + (length l.principals - l.principal-index) ≤ vec_capacity l.payments;
  built : view_payments l.payments.items ++ dues_from l.every l.from l.owed (drop l.principal-index l.principals) ≡ view_payments l.fn.payments.items ++ dues_from l.every l.month l.amount l.principals;
}
