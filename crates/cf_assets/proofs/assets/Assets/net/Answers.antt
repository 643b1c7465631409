use Rattle.std.proofs.Common.{◌≡◌, ◌+◌, ◌-◌, ◌-ℤ◌, pos, rules, sym, subst, ap, ◌∙◌, sum_by, arith}
use Rattle.cf_base.proofs.Common.{AllByRecursion, to_z-of_z}
use mir.Val.{SFits}
use mir.Syntax.{w128}
use Rattle.cf_assets.specs.Register.{Register}
use Rattle.cf_assets.proofs.Netting.{owned_net}
use Rattle.cf_model.specs.Common.{depreciation, net, owned, closed_to, int_sum}
use Rattle.cf_model.proofs.Common.{IsSoundAsset}
use Rattle.cf_assets.proofs.assets.Assets.net.Goals as goal

pub returns : goal.returns
returns c =
    let plan = c.args.chart.now in
    let inventory = c.self.inside.inventory in
    let year = c.args.year in
    let n = year - 1969 in
    let fits : SFits w128 c.difference.result = search rules in
    let back : n + 1969 ≡ year = omega (arith, c.requires.year.from) in
    let sound : AllByRecursion (IsSoundAsset plan inventory.closed) inventory.assets = subst (λ (r : Register). AllByRecursion (IsSoundAsset plan r.closed) r.assets) (sym c.self.view_is) c.requires.sound in
    let closed : c.closed.result ≡ inventory.closed = c.closed.ensures.value ∙ ap (λ (r : Register). r.closed) (sym c.self.view_is) in
    let months : c.closed_through-months.result ≡ closed_to plan inventory.closed year = c.closed_through-months.ensures.value ∙ ap (λ m. closed_to plan m year) closed in
    let depreciated : c.depreciated_to.result ≡ sum_by (depreciation (closed_to plan inventory.closed (n + 1969))) (owned inventory.assets) =
    c.depreciated_to.ensures.value
    ∙ ap (λ (r : Register). sum_by (depreciation c.closed_through-months.result) (owned r.assets)) (sym c.self.view_is)
    ∙ ap (λ m. sum_by (depreciation m) (owned inventory.assets)) months
    ∙ ap (λ y. sum_by (depreciation (closed_to plan inventory.closed y)) (owned inventory.assets)) (sym back) in
    rw (← c.self.view_is)
    (to_z-of_z w128 c.difference.result fits
    ∙ c.difference.ensures.value
    ∙ (λ i. pos (c.acquired_through-acquired.ensures.value i) -ℤ pos (c.gone_through-gone.ensures.value i + depreciated i))
    ∙ sym (owned_net plan inventory.closed inventory.assets c.closed_through-months.ensures.first c.acquired_through-acquired.ensures.first sound n)
    ∙ ap (λ y. int_sum (net plan inventory.closed y) (owned inventory.assets)) back)
