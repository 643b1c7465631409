-- The items between the change in fund balances and the change in net position.
use Rattle.std.specs.Prelude.{ℕ, ◌-◌, ℤ, ◌-ℤ◌, List}
use Rattle.cf_model.specs.Common.{Entry, fund_balances, net_position, Registers, registers_of}
use Rattle.cf_chart.specs.Common.{Plan}
use Rattle.cf_model.specs.Changes as model
use Rattle.cf_recon.specs.declared.changes.Changes.{Changes}

-- the changes of a year, given that in fund balances and that in net position
abbrev pub changes_between : Plan → ℕ → Registers → ℤ → ℤ → Changes
changes_between plan year s fund gov =
    let c = model.changes_of plan year s in
    record {
      fund_balances = fund;
      capital_outlay = c.outlay;
      donated = c.donated;
      right_to_use = c.right_to_use;
      depreciation = c.depreciation;
      amortization = c.amortization;
      disposals = c.disposals;
      unavailable = c.deferred;
      proceeds = c.proceeds;
      leases_issued = c.leases_issued;
      principal_paid = c.principal;
      accrued_interest = c.accrued;
      leave = c.absences;
      net_position = gov;
    }

-- those of a history
abbrev pub changes_shown : Plan → ℕ → List Entry → Changes
changes_shown plan year history =
    changes_between plan year (registers_of plan history)
    (fund_balances plan year history -ℤ fund_balances plan (year - 1) history)
    (net_position plan year history -ℤ net_position plan (year - 1) history)
