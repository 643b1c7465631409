-- The rows of both statements.
use Rattle.std.specs.Prelude.{ℕ, List, ℤ}
use Rattle.std.specs.Borrow.{Bor}
use Rattle.cf_model.specs.Common.{Row}
use Rattle.cf_model.specs.Changes as model
use Rattle.cf_model.specs.Report as report
use Rattle.cf_recon.specs.declared.changes.Changes.{Changes}
use Rattle.cf_statements.specs.Sums.{single}

-- the row of a label and an amount
abbrev pub row_of : Bor (List ℕ) × ℤ → Row
row_of x = single (x.0).now x.1

-- what stands between the change in fund balances and the change in net position
abbrev pub items_of : Changes → model.Changes
items_of c = record {
  outlay = c.capital_outlay;
  donated = c.donated;
  right_to_use = c.right_to_use;
  depreciation = c.depreciation;
  amortization = c.amortization;
  disposals = c.disposals;
  deferred = c.unavailable;
  proceeds = c.proceeds;
  leases_issued = c.leases_issued;
  principal = c.principal_paid;
  accrued = c.accrued_interest;
  absences = c.leave;
}

abbrev pub change_rows : Changes → List Row
change_rows c = report.change_rows c.fund_balances (items_of c) c.net_position
