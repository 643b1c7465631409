-- The statements of each legal history articulate, in each fiscal year.
use Rattle.std.proofs.Common.{◌≡◌, ℕ, ◌-◌, ◌≤◌, List, [], ◌∷◌, ◌++◌, flat_map, take, ℤ, pos, neg_ℤ, ◌+ℤ◌, ◌-ℤ◌, codes, Ok, refl, sym, ap, ◌∙◌, arith}
use Rattle.cf_base.proofs.Common.{ints}
use Rattle.cf_base.specs.declared.statement.Kind.TheVariants as kind
use Rattle.cf_model.specs.Common.{Entry, Gov as GovBasis, Row, ChangesAddUp, changes_of, Reconciles, absences, accrued, bonds, capital, deferred, fund_balances, leases, net_position, right_to_use, balance_of, posts_in, registers_of, fund_balance, report_rows, sums_of, IsLegal, int_sum}
use Rattle.cf_calls.specs.declared.read.Basis.TheVariants.{Fund as FundBasis}
use Rattle.cf_chart.specs.declared.rows.Fund.{Fund}
use Rattle.cf_chart.specs.Common.{Plan, chart_of}
use Rattle.cf_ledger.specs.Posts.{is_in_total}
use Rattle.cf_model.proofs.Common.{fund_balance_is, IsWhole, legal_take, changes_always, reconciles_always, all_so, sum_same}
use Rattle.cf_statements.specs.Activities.{activity_row, change, function_rows as activity_rows, general_rows, gains, interest_of, total_activity}
use Rattle.cf_statements.specs.Balance as balance
use Rattle.cf_statements.specs.Operating.{financing_rows, function_rows, net_change, outlay_rows, revenue_rows, total_expenditures, total_revenues}
use Rattle.cf_statements.specs.Sums.{heading, single}
use Rattle.cf_model_articulation.specs.Articulates.{AddUp, AllArticulate, Articulates, amount_of, balance_part, bottom_line, city_assets, city_liabilities, fund_assets, fund_liabilities, last_row, operating_part, rows_sum}
use Rattle.cf_model_articulation.specs.OwnAccounts.{HasOwnAccounts}
use Rattle.cf_model_articulation.proofs.Comparison.{compares}
use Rattle.cf_model_articulation.proofs.FundPosts.{IsFundPost, fund_posts}
use Rattle.cf_model_articulation.proofs.GovPosts.{IsGovPost, gov_posts, position_accounts}
use Rattle.cf_model_articulation.proofs.ItemAccounts.{items_are}
use Rattle.cf_model_articulation.proofs.NetChange.{net_change_is}
use Rattle.cf_model_articulation.proofs.OpenBills.{bills_are}
use Rattle.cf_model_articulation.proofs.OpenVouchers.{vouchers_are}
use Rattle.cf_model_articulation.proofs.PositionChange.{no_fund_posts, of_no_fund, position_change}
use Rattle.cf_model_articulation.proofs.ReadCharts.{read_chart}
use Rattle.cf_model_articulation.proofs.RowSums.{IsCounted, balances_sum, debit_change, funds_sum}

-- ---- what rows end with

last_after : (xs : List Row) (y : Row) (ys : List Row) → last_row (xs ++ y ∷ ys) ≡ last_row (y ∷ ys)
last_after [] y ys = refl
last_after (x ∷ []) y ys = refl
last_after (x ∷ w ∷ xs) y ys = last_after (w ∷ xs) y ys

balance_ends : (plan : Plan) (h : List Entry) (year : ℕ) → last_row (report_rows plan h year kind.Balance) ≡ single (codes "Total fund balances") (fund_balances plan year h)
balance_ends plan h year = last_after (flat_map (balance.fund_rows (sums_of plan h) year) plan.funds) (balance.total_row (sums_of plan h) year (codes "Total fund balances")) []

operating_ends : (plan : Plan) (h : List Entry) (year : ℕ) (fund : Fund) → bottom_line (operating_part plan h year fund) ≡ net_change plan (sums_of plan h) year fund.id
operating_ends plan h year fund =
    let sums = sums_of plan h in
    let end : List Row = single (codes "Net change in fund balance") (net_change plan sums year fund.id) ∷ [] in
    let spent : Row = single (codes "Total expenditures") (total_expenditures sums year fund.id plan.functions) in
    let earned : Row = single (codes "Total revenues") (total_revenues sums year fund.id plan.sources) in
    let after_functions : List Row = outlay_rows sums year fund.id ++ (spent ∷ (financing_rows sums year fund.id ++ end)) in
    ap amount_of
    (last_after (heading fund.name ∷ revenue_rows sums year fund.id plan.sources) earned (function_rows sums year fund.id plan.functions ++ after_functions)
    ∙ last_after (earned ∷ function_rows sums year fund.id plan.functions) _ _)

activities_end : (plan : Plan) (h : List Entry) (year : ℕ) → last_row (report_rows plan h year kind.Activities) ≡ single (codes "Change in net position") (change plan (sums_of plan h) year)
activities_end plan h year =
    let sums = sums_of plan h in
    let interest : Row = activity_row (codes "Interest on debt") (interest_of sums year) in
    let whole : Row = activity_row (codes "Total") (total_activity plan sums year) in
    let gain : Row = single (codes "Gain on sales") (gains sums year) in
    let end : List Row = single (codes "Change in net position") (change plan sums year) ∷ [] in
    last_after (activity_rows sums year plan.sources plan.functions) interest (whole ∷ (general_rows sums year plan.sources ++ (gain ∷ end)))
    ∙ last_after (interest ∷ whole ∷ general_rows sums year plan.sources) gain end

-- ---- the funds

balance_sheet : (plan : Plan) (h : List Entry) (year : ℕ) (fund : Fund) →
    rows_sum (fund_assets plan h year fund) ≡ rows_sum (fund_liabilities plan h year fund) +ℤ bottom_line (balance_part plan h year fund)
balance_sheet plan h year fund =
    let of : ℕ → ℤ = λ a. balance_of FundBasis plan year fund.id a h in
    adds (of 100000) (of 110000) (of 120000) (of 200000) (of 210000) (of 220000) (of 290000) (fund_balance plan year fund.id h) (fund_balance_is plan year fund.id h)
  where
    adds : (a b c d e f g t : ℤ) → ((a +ℤ b) +ℤ c) +ℤ (((d +ℤ e) +ℤ f) +ℤ g) ≡ t →
        a +ℤ (b +ℤ (c +ℤ pos 0)) ≡ (neg_ℤ d +ℤ (neg_ℤ e +ℤ (neg_ℤ f +ℤ (neg_ℤ g +ℤ pos 0)))) +ℤ t
    adds a b c d e f g t is = omega (arith, ints, is)

of_funds : (plan : Plan) (h : List Entry) (year : ℕ) → HasOwnAccounts plan → IsLegal plan h → int_sum (λ (f : Fund). fund_balance plan year f.id h) plan.funds ≡ fund_balances plan year h
of_funds plan h year own legal =
    funds_sum plan.funds is_in_total year (posts_in FundBasis plan h)
    (all_so (IsFundPost plan) _ (λ p is. is.of_chart) (posts_in FundBasis plan h) (fund_posts plan h own legal))

net_changes : (plan : Plan) (h : List Entry) (year : ℕ) → HasOwnAccounts plan → IsLegal plan h →
    fund_balances plan year h -ℤ fund_balances plan (year - 1) h ≡ int_sum (λ f. bottom_line (operating_part plan h year f)) plan.funds
net_changes plan h year own legal =
    (λ i. sym (of_funds plan h year own legal) i -ℤ sym (of_funds plan h (year - 1) own legal) i)
    ∙ sym (debit_change (λ (f : Fund). fund_balance plan year f.id h) (λ f. fund_balance plan (year - 1) f.id h) plan.funds)
    ∙ sum_same (λ (f : Fund). fund_balance plan year f.id h -ℤ fund_balance plan (year - 1) f.id h) (λ f. bottom_line (operating_part plan h year f))
    (λ f. sym (operating_ends plan h year f ∙ net_change_is plan year f.id h own legal)) plan.funds

-- ---- the government as a whole

city_sheet : (plan : Plan) (h : List Entry) (year : ℕ) → HasOwnAccounts plan → IsLegal plan h →
    rows_sum (city_assets plan h year) ≡ rows_sum (city_liabilities plan h year) +ℤ net_position plan year h
city_sheet plan h year own legal =
    let of : ℕ → ℤ = λ a. balance_of GovBasis plan year 0 a h in
    adds (of 100000) (of 110000) (of 150000) (of 159000) (of 151000) (of 159100) (of 200000) (of 210000) (of 250000) (of 251000) (of 260000) (of 270000) (net_position plan year h)
    (balances_sum position_accounts is_in_total year 0 (posts_in GovBasis plan h)
    (all_so (IsGovPost plan) (IsCounted position_accounts is_in_total 0) (λ p is same. is.balance) (posts_in GovBasis plan h) (gov_posts plan h own legal))
    ∙ of_no_fund is_in_total year (posts_in GovBasis plan h) (no_fund_posts plan h own legal))
  where
    adds : (a b c d u v e f g k i j t : ℤ) → a +ℤ (b +ℤ (c +ℤ (d +ℤ (u +ℤ (v +ℤ (e +ℤ (f +ℤ (g +ℤ (k +ℤ (i +ℤ (j +ℤ pos 0))))))))))) ≡ t →
        a +ℤ (b +ℤ (c +ℤ (d +ℤ (u +ℤ (v +ℤ pos 0))))) ≡ (neg_ℤ e +ℤ (neg_ℤ f +ℤ (neg_ℤ g +ℤ (neg_ℤ k +ℤ (neg_ℤ i +ℤ (neg_ℤ j +ℤ pos 0)))))) +ℤ t
    adds a b c d u v e f g k i j t is = omega (arith, ints, is)

-- ---- the two reconciliations

reconcile_rows : (plan : Plan) (h : List Entry) (year : ℕ) → Reconciles plan h → AddUp (report_rows plan h year kind.Reconcile)
reconcile_rows plan h year is =
    let s = registers_of plan h in
    adds (fund_balances plan year h) (capital plan year s) (right_to_use plan year s) (deferred year s) (bonds plan year s) (leases plan year s) (accrued plan year s) (absences year s) (net_position plan year h) (is year)
  where
    adds : (f c u d b k a l n : ℤ) → n ≡ f +ℤ ((((c +ℤ u) +ℤ d) -ℤ ((b +ℤ k) +ℤ a)) -ℤ l) →
        f +ℤ (c +ℤ (u +ℤ (d +ℤ ((pos 0 -ℤ b) +ℤ ((pos 0 -ℤ k) +ℤ ((pos 0 -ℤ a) +ℤ ((pos 0 -ℤ l) +ℤ pos 0))))))) ≡ n
    adds f c u d b k a l n is = omega (arith, ints, is)

change_rows : (plan : Plan) (h : List Entry) (year : ℕ) → 1 ≤ year → ChangesAddUp plan h → AddUp (report_rows plan h year kind.Changes)
change_rows plan h year from is =
    let c = changes_of plan year (registers_of plan h) in
    adds (fund_balances plan year h -ℤ fund_balances plan (year - 1) h) c.outlay c.donated c.right_to_use c.depreciation c.amortization c.disposals c.deferred c.proceeds c.leases_issued c.principal c.accrued c.absences
    (net_position plan year h -ℤ net_position plan (year - 1) h) (is year from)
  where
    adds : (f o d r w m b u p k q a l n : ℤ) → n ≡ f +ℤ (((((((((((o +ℤ d) +ℤ r) +ℤ w) +ℤ m) +ℤ b) +ℤ u) +ℤ p) +ℤ k) +ℤ q) +ℤ a) +ℤ l) →
        f +ℤ (o +ℤ (d +ℤ (r +ℤ (w +ℤ (m +ℤ (b +ℤ (u +ℤ (p +ℤ (k +ℤ (q +ℤ (a +ℤ (l +ℤ pos 0)))))))))))) ≡ n
    adds f o d r w m b u p k q a l n is = omega (arith, ints, is)

-- ---- the theorem

pub articulates : (plan : Plan) (history : List Entry) (year : ℕ) → IsWhole plan → HasOwnAccounts plan → IsLegal plan history → Articulates plan history year
articulates plan history year whole own legal = record {
  balance_sheet = balance_sheet plan history year;
  bills = bills_are plan history whole legal;
  vouchers = vouchers_are plan history legal;
  total_balances = ap amount_of (balance_ends plan history year) ∙ sym (of_funds plan history year own legal);
  net_change = λ fund. operating_ends plan history year fund ∙ net_change_is plan year fund.id history own legal;
  comparison = compares plan history year own legal;
  net_position = city_sheet plan history year own legal;
  activities = ap amount_of (activities_end plan history year) ∙ position_change plan year history own legal;
  reconcile_first = sym (balance_ends plan history year);
  reconcile_last = refl;
  reconcile = reconcile_rows plan history year (reconciles_always plan history whole legal);
  items = items_are plan history year whole own legal;
  changes_first = net_changes plan history year own legal;
  changes_last = sym (activities_end plan history year ∙ ap (single (codes "Change in net position")) (position_change plan year history own legal));
  changes = λ from. change_rows plan history year from (changes_always plan history whole legal);
}

-- .. and under each chart that was read
pub articulates_always : (bytes : List ℕ) (plan : Plan) (history : List Entry) → chart_of bytes ≡ Ok plan → IsLegal plan history → AllArticulate plan history
articulates_always bytes plan history read legal =
    let is = read_chart bytes plan read in λ n year. articulates plan (take n history) year is.whole is.own (legal_take plan history n legal)
