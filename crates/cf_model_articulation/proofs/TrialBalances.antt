-- The trial balance of each legal history balances, under any chart whose accounts are its own.
use Rattle.std.proofs.Common.{◌≡◌, ℕ, List, ℤ, pos, ◌+ℤ◌, ◌∙◌, arith}
use Rattle.cf_base.proofs.Common.{ints}
use Rattle.cf_model.specs.Common.{Entry, Gov as GovBasis, balance_of, posts_in, fund_balance, IsLegal, int_sum}
use Rattle.cf_calls.specs.declared.read.Basis.TheVariants.{Fund as FundBasis}
use Rattle.cf_chart.specs.Common.{Plan}
use Rattle.cf_ledger.specs.Posts.{is_in_total}
use Rattle.cf_model.proofs.Common.{fund_balance_is, all_so, sum_append}
use Rattle.cf_model_articulation.specs.OwnAccounts.{HasOwnAccounts}
use Rattle.cf_model_articulation.specs.TrialBalances.{Balances, fund_accounts, gov_accounts}
use Rattle.cf_model_articulation.proofs.Closing.{is_change, parts_close}
use Rattle.cf_model_articulation.proofs.FundPosts.{operating_accounts}
use Rattle.cf_model_articulation.proofs.GovPosts.{IsGovPost, activity_accounts, gov_posts, position_accounts}
use Rattle.cf_model_articulation.proofs.NetChange.{turned}
use Rattle.cf_model_articulation.proofs.RowSums.{IsCounted, balances_sum}

fund_zero : (plan : Plan) (year fund : ℕ) (h : List Entry) → HasOwnAccounts plan → IsLegal plan h → int_sum (λ a. balance_of FundBasis plan year fund a h) (fund_accounts plan fund) ≡ pos 0
fund_zero plan year fund h own legal =
    let of : ℕ → ℤ = λ a. balance_of FundBasis plan year fund a h in
    adds (of 100000) (of 110000) (of 120000) (of 200000) (of 210000) (of 220000) (of 290000) (fund_balance plan year fund h) (int_sum of (operating_accounts plan fund))
    (fund_balance_is plan year fund h) (turned plan year fund h own legal)
  where
    adds : (a b c d e f g t r : ℤ) → ((a +ℤ b) +ℤ c) +ℤ (((d +ℤ e) +ℤ f) +ℤ g) ≡ t → t +ℤ r ≡ pos 0 →
        a +ℤ (b +ℤ (c +ℤ (d +ℤ (e +ℤ (f +ℤ (g +ℤ r)))))) ≡ pos 0
    adds a b c d e f g t r is none = omega (arith, ints, is, none)

whole_zero : (plan : Plan) (year : ℕ) (h : List Entry) → HasOwnAccounts plan → IsLegal plan h → int_sum (λ a. balance_of GovBasis plan year 0 a h) (gov_accounts plan) ≡ pos 0
whole_zero plan year h own legal =
    let posts = posts_in GovBasis plan h in
    sum_append (λ a. balance_of GovBasis plan year 0 a h) position_accounts (activity_accounts plan)
    ∙ (λ i. balances_sum position_accounts is_in_total year 0 posts (all_so (IsGovPost plan) (IsCounted position_accounts is_in_total 0) (λ p is same. is.balance) posts (gov_posts plan h own legal)) i
    +ℤ balances_sum (activity_accounts plan) is_change year 0 posts (all_so (IsGovPost plan) (IsCounted (activity_accounts plan) is_change 0) (λ p is same. is.change) posts (gov_posts plan h own legal)) i)
    ∙ parts_close GovBasis plan year 0 h

pub balances : (plan : Plan) (h : List Entry) (year : ℕ) → HasOwnAccounts plan → IsLegal plan h → Balances plan h year
balances plan h year own legal = record { funds = λ fund. fund_zero plan year fund h own legal; whole = whole_zero plan year h own legal }
