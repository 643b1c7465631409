use Rattle.std.proofs.Common.{◌≡◌, ℕ, ℤ, List, [], ◌∷◌, ◌++◌, map, take, get_or, is_some, if◌then◌else◌, FitsSigned, sym, ap, subst, ◌∙◌}
use Rattle.cf_base.proofs.Common.{w128, to_z-of_z, get_or-map, map_more}
use Rattle.cf_chart.specs.declared.rows.Fund.{Fund}
use Rattle.cf_chart.specs.declared.rows.RevenueSource.{RevenueSource}
use Rattle.cf_pool.specs.Balances.{day_sum}
use Rattle.cf_pool.specs.Shares.{above_zero, interest_source, weight_of}
use Rattle.cf_pool.proofs.Tables.{day_sum_fits}
use Rattle.cf_pool.proofs.weights.weights_of.Goals as goal

pub loop-i-preserved : goal.loop-i-preserved
loop-i-preserved c =
    let funds = c.args.funds.now in
    let i = c.loop-i.i in
    let fund = get_or funds i c.index-funds-i.result in
    let of_fund = λ (f : Fund). weight_of c.args.chart.now c.args.moves.now c.args.month f.id in
    let sum : c.index.result.now ≡ day_sum c.args.moves.now c.args.month fund.id =
    c.index.ensures ∙ ap (λ (xs : List ℤ). get_or xs i c.index.result.now) c.in_ok-sums.ensures
    ∙ get_or-map (λ (f : Fund). day_sum c.args.moves.now c.args.month f.id) funds i c.index-funds-i.result c.index.result.now c.loop-i-test.true in
    let fits : FitsSigned w128 c.index.result.now =
    subst (λ (z : ℤ). FitsSigned w128 z) (sym sum) (day_sum_fits c.args.moves.now c.args.month fund.id c.requires.few) in
    let one : c.weight.result ≡ of_fund fund =
    c.weight.ensures ∙ ap (λ (z : ℤ). if is_some (interest_source c.sources-sources.result.now fund.id) then above_zero z else 0) (to_z-of_z w128 c.index.result.now fits ∙ sum)
    ∙ ap (λ (ss : List RevenueSource). if is_some (interest_source ss fund.id) then above_zero (day_sum c.args.moves.now c.args.month fund.id) else 0) c.sources-sources.ensures.value in
    c.in_ok-push.ensures.items ∙ ap (λ (ws : List ℕ). ws ++ c.weight.result ∷ []) c.loop-i.invariant
    ∙ ap (λ (w : ℕ). map of_fund (take i funds) ++ w ∷ []) one ∙ sym (map_more of_fund funds i c.index-funds-i.result c.loop-i-test.true)
