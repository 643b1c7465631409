-- What a look at the reconciliation of a fiscal year shows (GASB Statement 34: the summary
-- reconciliation).
use Rattle.std.specs.Prelude.{ℕ, List, ℤ, pos, ◌-ℤ◌}
use Rattle.cf_calls.specs.declared.entry.Entry.{Entry}
use Rattle.cf_calls.specs.declared.shown.ReconShown.{ReconShown}
use Rattle.cf_chart.specs.Common.{Plan}
use Rattle.cf_model.specs.Items.{capital, right_to_use, deferred, bonds, leases, accrued, absences, fund_balances, net_position}
use Rattle.cf_model.specs.Registers.{Registers, registers_of}

-- the items of registers between fund balances and net position, each as it is added
abbrev pub recon_between : Plan → ℕ → Registers → ℤ → ℤ → ReconShown
recon_between plan year s fund gov = record {
  fund_balances = fund;
  capital_assets = capital plan year s;
  right_to_use = right_to_use plan year s;
  unavailable = deferred year s;
  bonds = pos 0 -ℤ bonds plan year s;
  leases = pos 0 -ℤ leases plan year s;
  accrued_interest = pos 0 -ℤ accrued plan year s;
  leave = pos 0 -ℤ absences year s;
  net_position = gov;
}

abbrev pub recon_shown : Plan → ℕ → List Entry → ReconShown
recon_shown plan year history =
    recon_between plan year (registers_of plan history) (fund_balances plan year history)
    (net_position plan year history)
