use Rattle.std.proofs.Common.{◌≡◌, ◌+◌, ◌-◌, ◌-ℤ◌, pos, rules, sym, subst, ap, ◌∙◌, sum_by, arith}
use Rattle.cf_base.proofs.Common.{to_z-of_z}
use mir.Val.{SFits}
use mir.Syntax.{w128}
use Rattle.cf_assets.specs.Inventory.{AreKept}
use Rattle.cf_assets.specs.Register.{Register}
use Rattle.cf_assets.specs.Years.{let_in}
use Rattle.cf_assets.proofs.Netting.{leased_net}
use Rattle.cf_register_parts.specs.Years.{sum_to}
use Rattle.cf_model.specs.Common.{depreciation, leased, net, closed_to, int_sum}
use Rattle.cf_assets.proofs.assets.Assets.right_to_use.Goals as goal

pub returns : goal.returns
returns c =
    let plan = c.args.chart.now in
    let register = c.args.self.now in
    let year = c.args.year in
    let n = year - 1969 in
    let fits : SFits w128 c.difference.result = search rules in
    let back : n + 1969 ≡ year = omega (arith, c.requires.year.from) in
    let months : c.closed_through-months.result ≡ closed_to plan register.closed year = c.closed_through-months.ensures.value ∙ ap (λ m. closed_to plan m year) c.closed.ensures.value in
    let amortized : c.amortized_to.result ≡ sum_by (depreciation (closed_to plan register.closed (n + 1969))) (leased register.assets) =
    c.amortized_to.ensures.value
    ∙ ap (λ m. sum_by (depreciation m) (leased register.assets)) months
    ∙ ap (λ y. sum_by (depreciation (closed_to plan register.closed y)) (leased register.assets)) (sym back) in
    let first : AreKept register.assets = subst (λ (r : Register). AreKept r.assets) c.self.view_is c.leased_through.ensures.first in
    let acquired = c.leased_through.ensures.value ∙ ap (λ (r : Register). sum_to (λ y. sum_by (let_in y) r.assets) n) c.self.view_is in
    to_z-of_z w128 c.difference.result fits
    ∙ c.difference.ensures.value
    ∙ (λ i. pos (acquired i) -ℤ pos (amortized i))
    ∙ sym (leased_net plan register.closed register.assets c.closed_through-months.ensures.first first c.requires.sound n)
    ∙ ap (λ y. int_sum (net plan register.closed y) (leased register.assets)) back
