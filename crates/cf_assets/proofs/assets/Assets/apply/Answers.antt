use Rattle.std.proofs.Common.{◌≡◌, ◌∙◌, None, sym, subst, ap}
use Rattle.cf_assets.proofs.Applying.{void_allowed, adds_only, voucher_step, lease_step, close_step, quiet, items_most}
use Rattle.cf_model.specs.Common.{assets_by, asset_refusal, amount_refusal}
use Rattle.cf_assets.proofs.assets.Assets.apply.Goals as goal

pub enter_voucher-requires-clause-amounts : goal.enter_voucher-requires-clause-amounts
enter_voucher-requires-clause-amounts c = items_most c.in-Voucher.voucher.items (subst (λ a. amount_refusal a ≡ None) c.in-Voucher.is c.requires.amounts)

pub void_voucher-requires-clause-allowed : goal.void_voucher-requires-clause-allowed
void_voucher-requires-clause-allowed c =
    let change = c.args.entry.now.change in
    void_allowed c.args.self.now change.on change.act c.in-VoidVoucher.voucher c.in-VoidVoucher.is c.requires.allowed

pub take_asset-requires-clause-allowed : goal.take_asset-requires-clause-allowed
take_asset-requires-clause-allowed c s h = subst (λ a. asset_refusal s c.args.entry.now.change.on a ≡ None) c.in-Asset.is (c.requires.allowed s h)

pub returns-in-Voucher-clause-assets : goal.returns-in-Voucher-clause-assets
returns-in-Voucher-clause-assets c =
    let plan = c.args.chart.now in
    let entry = c.args.entry.now in
    let on = entry.change.on in
    let old = c.args.self.now in
    c.enter_voucher.ensures.assets
    ∙ adds_only plan old.closed on entry.change.act entry.drawn old.assets _ (voucher_step plan old.closed on entry.change.act c.in-Voucher.voucher old.assets c.in-Voucher.is) (sym (ap (λ a. assets_by plan on a entry.drawn) c.in-Voucher.is))

pub returns-in-Lease-clause-assets : goal.returns-in-Lease-clause-assets
returns-in-Lease-clause-assets c =
    let plan = c.args.chart.now in
    let entry = c.args.entry.now in
    let on = entry.change.on in
    let old = c.args.self.now in
    c.accept_lease.ensures.assets
    ∙ adds_only plan old.closed on entry.change.act entry.drawn old.assets _ (lease_step plan old.closed on entry.change.act c.in-Lease.lease old.assets c.in-Lease.is) (sym (ap (λ a. assets_by plan on a entry.drawn) c.in-Lease.is))

pub returns-in-Close-clause-assets : goal.returns-in-Close-clause-assets
returns-in-Close-clause-assets c =
    let entry = c.args.entry.now in
    c.close.ensures.assets ∙ close_step c.args.chart.now c.args.self.now.closed entry.change.on entry.change.act c.in-Close.period entry.drawn c.args.self.now.assets c.in-Close.is

pub returns-in-Adopt-clause-assets : goal.returns-in-Adopt-clause-assets
returns-in-Adopt-clause-assets c =
    let entry = c.args.entry.now in
    c.count_act.ensures.assets ∙ quiet c.args.chart.now c.args.self.now.closed entry.change.on entry.change.act entry.drawn c.args.self.now.assets c.in-Adopt.is
