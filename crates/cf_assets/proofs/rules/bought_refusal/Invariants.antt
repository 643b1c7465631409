use Rattle.std.proofs.Common.{◌≡◌, filter}
use Rattle.cf_assets.proofs.Finding.{rest}
use Rattle.cf_assets.proofs.Standing.{of_voucher}
use Rattle.cf_model.specs.Common.{voided_asset, first_refusal}
use Rattle.cf_assets.proofs.rules.bought_refusal.Given as goal

abbrev pub invariant-loop-at : goal.invariant-loop-at
invariant-loop-at l =
    first_refusal (voided_asset l.inventory.closed) (filter (of_voucher l.voucher) l.inventory.assets) ≡ first_refusal (voided_asset l.inventory.closed) (rest (of_voucher l.voucher) l.at l.inventory.assets)
