use Rattle.std.proofs.Common.{◌≡◌, subst, sum_by, arith}
use Rattle.cf_assets.specs.Register.{Register}
use Rattle.cf_assets.proofs.Leases.{depreciated_parts}
use Rattle.cf_model.specs.Common.{depreciation}
use Rattle.cf_assets.proofs.assets.Assets.depreciated_to.Goals as goal

pub returns-clause-value : goal.returns-clause-value
returns-clause-value c =
    let assets = c.args.self.now.assets in
    let months = c.args.months in
    let all : c.accumulated_to.result ≡ sum_by (depreciation months) assets = subst (λ (r : Register). c.accumulated_to.result ≡ sum_by (depreciation months) r.assets) c.self.view_is c.accumulated_to.ensures.value in
    omega (arith, all, c.amortized_to.ensures.value, depreciated_parts months assets)
