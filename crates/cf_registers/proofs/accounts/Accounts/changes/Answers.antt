use Rattle.std.proofs.Common.{◌∙◌, ◌-◌, ◌-ℤ◌, sym, ap}
use Rattle.cf_ledger.specs.Posts.{total}
use Rattle.cf_recon.specs.ChangeItems.{changes_between}
use Rattle.cf_registers.specs.AccountsState.{AccountsState}
use Rattle.cf_registers.proofs.accounts.Accounts.changes.Goals as goal

pub returns : goal.returns
returns c =
    let s = c.args.registers.now.registers in
    let year = c.args.year in
    c.change_items.ensures s (record { assets = c.assets-assets.ensures; receivables = sym c.revenue.ensures; debts = sym c.debt.ensures })
    ∙ ap (λ (a : AccountsState). changes_between c.args.chart.now year s (total a.fund year -ℤ total a.fund (year - 1)) (total a.gov year -ℤ total a.gov (year - 1))) c.self.view_is
