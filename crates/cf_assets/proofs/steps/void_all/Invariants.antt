use Rattle.std.proofs.Common.{◌≡◌}
use Rattle.cf_assets.specs.Steps.{voids}
use Rattle.cf_assets.proofs.Standing.{step_first}
use Rattle.cf_assets.proofs.steps.void_all.Given as goal

abbrev pub invariant-loop-at : goal.invariant-loop-at
invariant-loop-at l = record {
  assets : l.inventory.assets ≡ step_first l.at (voids l.voucher) l.fn.inventory.assets;
  closed : l.inventory.closed ≡ l.fn.inventory.closed;
}
