use Rattle.std.proofs.Common.{rules, ◌≡◌, ◌∙◌, ap, decimal}
use Rattle.cf_base.proofs.Common.{to_z-of_z}
use mir.Val.{SFits}
use mir.Syntax.{w128}
use Rattle.cf_base.specs.Common.{money_of}
use Rattle.cf_chart.specs.Common.{fund_at}
use Rattle.cf_books_lists.specs.Names.{basis_word, fund_name}
use Rattle.cf_books_year.specs.YearBalances.{opening_name}
use Rattle.cf_books_year.proofs.balances.put_opening.Goals as goal

pub returns : goal.returns
returns c =
    let plan = c.args.chart.now in
    let fits : SFits w128 c.args.amount = search rules in
    let basis : c.as_slice.result.now ≡ basis_word c.args.basis = c.as_slice.ensures.value ∙ c.in_ok-word.ensures.items ∙ c.as_bytes.ensures.value ∙ c.basis_word.ensures in
    let id : c.as_slice-2.result.now ≡ decimal c.args.fund = c.as_slice-2.ensures.value ∙ c.in_ok-id.ensures in
    let fund : c.as_bytes-3.result.now ≡ fund_name (fund_at plan c.args.fund) = c.as_bytes-3.ensures.value ∙ c.fund_name.ensures ∙ ap fund_name c.fund.ensures in
    let code : c.as_slice-3.result.now ≡ decimal 300000 = c.as_slice-3.ensures.value ∙ c.in_ok-code.ensures in
    let name : c.as_slice-4.result.now ≡ opening_name c.args.basis = c.as_slice-4.ensures.value ∙ c.in_ok-name.ensures.items ∙ c.as_bytes-2.ensures.value ∙ c.opening_name.ensures in
    let amount : c.as_bytes-4.result.now ≡ money_of c.args.amount = c.as_bytes-4.ensures.value ∙ c.as_str.ensures.value ∙ c.in_ok-text.ensures ∙ ap money_of (to_z-of_z w128 c.args.amount fits) in
    rw (← basis, ← id, ← fund, ← code, ← name, ← amount) (rw c.as_slice-5.ensures at c.put.ensures)
