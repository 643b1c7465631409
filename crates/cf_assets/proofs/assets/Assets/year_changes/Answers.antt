use Rattle.std.proofs.Common.{◌≡◌, ◌-◌, ℤ, ℕ, pos, ◌-ℤ◌, rules, sym, ap, ◌∙◌, sum_by, to_z, of_z, arith}
use Rattle.cf_base.proofs.Common.{to_z-of_z, ints}
use mir.Val.{SFits}
use mir.Syntax.{w128}
use Rattle.cf_assets.specs.Register.{Register}
use Rattle.cf_assets.specs.Years.{bought_in, given_in, let_in, book_in}
use Rattle.cf_assets.proofs.Netting.{outlay_sum, donated_sum, let_sum, book_sum, accumulated_sum}
use Rattle.cf_model.specs.Common.{depreciation, leased, owned, outlay, donated, leased_in, depreciated_in, book_value, closed_to, int_sum}
use Rattle.cf_assets.proofs.assets.Assets.year_changes.Goals as goal

none_less : (n : ℕ) → pos n -ℤ pos 0 ≡ pos n
none_less n = omega (arith, ints)

turned : (a b : ℕ) → pos b -ℤ pos a ≡ pos 0 -ℤ (pos a -ℤ pos b)
turned a b = omega (arith, ints)

pub returns : goal.returns
returns c =
    let plan = c.args.chart.now in
    let register = c.args.self.now in
    let assets = register.assets in
    let year = c.args.year in
    let sums = c.year_sums-sums in
    let view = c.self.view_is in
    let now : c.closed_through-months.result ≡ closed_to plan register.closed year = c.closed_through-months.ensures.value ∙ ap (λ m. closed_to plan m year) c.closed-closed.ensures.value in
    let before : c.closed_through-months_before.result ≡ closed_to plan register.closed (year - 1) = c.closed_through-months_before.ensures.value ∙ ap (λ m. closed_to plan m (year - 1)) c.closed-closed.ensures.value in
    let f1 : SFits w128 c.difference.result = search rules in
    let f2 : SFits w128 c.difference-2.result = search rules in
    let f3 : SFits w128 c.difference-3.result = search rules in
    let f4 : SFits w128 c.difference-4.result = search rules in
    let f5 : SFits w128 c.difference-5.result = search rules in
    let f6 : SFits w128 c.difference-6.result = search rules in
    let a : to_z w128 (of_z w128 c.difference.result) ≡ int_sum (outlay year) assets =
    to_z-of_z w128 c.difference.result f1 ∙ c.difference.ensures.value ∙ none_less sums.result.bought ∙ ap pos (sums.ensures.bought ∙ ap (λ (r : Register). sum_by (bought_in year) r.assets) view) ∙ sym (outlay_sum year assets) in
    let b : to_z w128 (of_z w128 c.difference-2.result) ≡ int_sum (donated year) assets =
    to_z-of_z w128 c.difference-2.result f2 ∙ c.difference-2.ensures.value ∙ none_less sums.result.given ∙ ap pos (sums.ensures.given ∙ ap (λ (r : Register). sum_by (given_in year) r.assets) view) ∙ sym (donated_sum year assets) in
    let r : to_z w128 (of_z w128 c.difference-3.result) ≡ int_sum (leased_in year) assets =
    to_z-of_z w128 c.difference-3.result f3 ∙ c.difference-3.ensures.value ∙ none_less sums.result.leased ∙ ap pos (sums.ensures.leased ∙ ap (λ (r : Register). sum_by (let_in year) r.assets) view) ∙ sym (let_sum year assets) in
    let d : to_z w128 (of_z w128 c.difference-4.result) ≡ pos 0 -ℤ int_sum (depreciated_in plan register.closed year) (owned assets) =
    to_z-of_z w128 c.difference-4.result f4
    ∙ c.difference-4.ensures.value
    ∙ (λ i. pos ((c.depreciated_to.ensures.value ∙ ap (λ m. sum_by (depreciation m) (owned assets)) before) i) -ℤ pos ((c.depreciated_to-depreciated.ensures.value ∙ ap (λ m. sum_by (depreciation m) (owned assets)) now) i))
    ∙ turned (sum_by (depreciation (closed_to plan register.closed year)) (owned assets)) (sum_by (depreciation (closed_to plan register.closed (year - 1))) (owned assets))
    ∙ ap (λ (z : ℤ). pos 0 -ℤ z) (sym (accumulated_sum plan register.closed year (owned assets))) in
    let m : to_z w128 (of_z w128 c.difference-5.result) ≡ pos 0 -ℤ int_sum (depreciated_in plan register.closed year) (leased assets) =
    to_z-of_z w128 c.difference-5.result f5
    ∙ c.difference-5.ensures.value
    ∙ (λ i. pos ((c.amortized_to.ensures.value ∙ ap (λ m. sum_by (depreciation m) (leased assets)) before) i) -ℤ pos ((c.amortized_to-amortized.ensures.value ∙ ap (λ m. sum_by (depreciation m) (leased assets)) now) i))
    ∙ turned (sum_by (depreciation (closed_to plan register.closed year)) (leased assets)) (sum_by (depreciation (closed_to plan register.closed (year - 1))) (leased assets))
    ∙ ap (λ (z : ℤ). pos 0 -ℤ z) (sym (accumulated_sum plan register.closed year (leased assets))) in
    let e : to_z w128 (of_z w128 c.difference-6.result) ≡ pos 0 -ℤ int_sum (book_value register.closed year) assets =
    to_z-of_z w128 c.difference-6.result f6
    ∙ c.difference-6.ensures.value
    ∙ ap (λ n. pos 0 -ℤ pos n) (sums.ensures.gone ∙ ap (λ (r : Register). sum_by (book_in r.closed year) r.assets) view)
    ∙ ap (λ (z : ℤ). pos 0 -ℤ z) (sym (book_sum register.closed year assets)) in
    λ i. record { outlay = a i; donated = b i; right_to_use = r i; depreciation = d i; amortization = m i; disposals = e i }
