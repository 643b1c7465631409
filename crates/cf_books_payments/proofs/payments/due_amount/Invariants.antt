use Rattle.std.proofs.Common.{◌≡◌, ◌≤◌, ◌-◌, ℕ, drop, slice_get}
use Rattle.cf_model.specs.Common.{dues, dues_from}
use Rattle.cf_books_payments.specs.Payments.{bond_of}
use Rattle.cf_books_payments.specs.Tables.{issue_of}
use Rattle.cf_books_payments.proofs.payments.due_amount.Given as goal

-- the payment that is looked for stands behind those that were passed
abbrev pub invariant-loop-nth : goal.invariant-loop-nth
invariant-loop-nth l = record {
  from : ℕ;
  before : l.nth ≤ l.number - 1;
  behind : slice_get (dues_from l.schedule.terms.now.every from l.owed (drop l.nth l.schedule.terms.now.principals)) (l.number - 1 - l.nth) ≡ slice_get (dues (bond_of (issue_of l.schedule))) (l.number - 1);
}
