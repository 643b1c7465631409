use Rattle.std.proofs.Common.{rules, ◌≡◌, ◌∙◌, ap, Bool, ℕ, List, ◌++◌}
use Rattle.cf_base.proofs.Common.{IfOk-weaker}
use Rattle.cf_model_articulation.specs.TrialBalances.{gov_accounts}
use Rattle.cf_model.specs.Common.{Gov as GovBasis}
use Rattle.cf_books_lists.specs.Balances.{accounts_text, funds_text, head}
use Rattle.cf_books_lists.specs.Records.{head_text}
use Rattle.cf_books_lists.specs.Rows.{Written, added, none_written}
use Rattle.cf_books_lists.proofs.Adding.{added_two}
use Rattle.cf_books_lists.proofs.balances.trial_balance_text.Goals as goal

pub returns : goal.returns
returns g c =
    let plan = g.B.AccountBalances.plan c.args.books.now in
    let balances = g.B.AccountBalances.balances c.args.books.now in
    let csv = c.args.layout.csv in
    let names : Bool → List ℕ = λ b. head_text b head in
    let funds : Bool → List ℕ = λ b. funds_text b plan balances c.args.year plan.funds in
    let city : Bool → List ℕ = λ b. accounts_text b plan balances GovBasis c.args.year 0 (gov_accounts plan) in
    let empty = c.new-out.result in
    let named = c.put_balance_head.new.out in
    let funded = c.put_funds.new.out in
    let all = c.put_accounts.new.out in
    let first : named ≡ added empty (names empty.csv) = search rules in
    let second : funded ≡ added named (funds named.csv) = search rules in
    let third : all ≡ added funded (city funded.csv) = search rules in
    let wrote : all ≡ added empty (names empty.csv ++ (funds empty.csv ++ city empty.csv)) =
    added_two names (λ b. funds b ++ city b) empty named all first (added_two funds city named funded all second third) in
    let from : empty ≡ none_written csv = c.new-out.ensures in
    IfOk-weaker c.into_text.result _ _ (λ bytes is. is ∙ ap (λ (w : Written). w.text) (wrote ∙ ap (λ (w : Written). added w (names w.csv ++ (funds w.csv ++ city w.csv))) from)) c.into_text.ensures
