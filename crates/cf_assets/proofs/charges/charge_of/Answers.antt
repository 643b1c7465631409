use Rattle.std.proofs.Common.{◌+◌, arith}
use Rattle.cf_assets.specs.Rows.{view_asset}
use Rattle.cf_assets.proofs.Charging.{never_falls, depreciation_most}
use Rattle.cf_assets.proofs.charges.charge_of.Goals as goal

pub overflow_sub-result : goal.overflow_sub-result
overflow_sub-result c = omega (arith, c.depreciation_of.ensures, c.depreciation_of-2.ensures, never_falls c.args.closed (c.args.closed + 1) (view_asset c.args.row.now) (omega arith))

pub returns-clause-small : goal.returns-clause-small
returns-clause-small c = omega (arith, c.depreciation_of.ensures, c.requires.cost, depreciation_most (c.args.closed + 1) (view_asset c.args.row.now))
