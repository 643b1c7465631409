use Rattle.std.proofs.Common.{◌∙◌, sym, ap, subst}
use Rattle.cf_base.proofs.Common.{AllByRecursion}
use Rattle.cf_ledger.specs.Posts.{total}
use Rattle.cf_model.proofs.Common.{IsSoundAsset}
use Rattle.cf_model.specs.Common.{recon_between}
use Rattle.cf_registers.specs.AccountsState.{AccountsState}
use Rattle.cf_registers.proofs.accounts.Accounts.recon.Goals as goal

pub items-requires-clause-sound : goal.items-requires-clause-sound
items-requires-clause-sound c =
    let plan = c.args.chart.now in
    subst (λ closed. AllByRecursion (IsSoundAsset plan closed) c.assets-assets.result.now.assets) c.assets-assets.ensures.closed
    (subst (λ assets. AllByRecursion (IsSoundAsset plan c.args.registers.now.registers.closed) assets) c.assets-assets.ensures.assets c.requires.sound)

pub returns : goal.returns
returns c =
    let s = c.args.registers.now.registers in
    c.items.ensures s (record { assets = c.assets-assets.ensures; receivables = sym c.revenue.ensures; debts = sym c.debt.ensures })
    ∙ ap (λ (a : AccountsState). recon_between c.args.chart.now c.args.year s (total a.fund c.args.year) (total a.gov c.args.year)) c.self.view_is
