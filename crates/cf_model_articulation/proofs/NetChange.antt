-- A fund's net change in fund balance, as the operating statement has it, is the change of its fund
-- balance.
use Rattle.std.proofs.Common.{◌≡◌, ℕ, ◌+◌, ◌-◌, Bool, true, false, if◌then◌else◌, ◌==◌, List, ◌++◌, ℤ, pos, neg_ℤ, ◌+ℤ◌, ◌-ℤ◌, refl, sym, ap, subst, ◌∙◌, arith, filter}
use Rattle.cf_base.proofs.Common.{ints}
use Rattle.cf_model.specs.Common.{Entry, Function, RevenueSource, balance_of, posts_in, fund_balance, sums_of, IsLegal, int_sum}
use Rattle.cf_calls.specs.declared.read.Basis.TheVariants.{Fund as FundBasis}
use Rattle.cf_chart.specs.Common.{Plan}
use Rattle.cf_ledger.specs.declared.post.Post.{Post}
use Rattle.cf_model.proofs.Common.{all_so, sum_append, sum_filter, sum_map, sum_same}
use Rattle.cf_statements.specs.Operating.{net_change}
use Rattle.cf_statements.specs.Sums as statement
use Rattle.cf_model_articulation.specs.OwnAccounts.{HasOwnAccounts}
use Rattle.cf_model_articulation.proofs.Closing.{is_change, parts_close}
use Rattle.cf_model_articulation.proofs.Counts.{number_is}
use Rattle.cf_model_articulation.proofs.FundPosts.{IsFundPost, fund_posts, operating_accounts, other_accounts, source_accounts}
use Rattle.cf_model_articulation.proofs.Rows.{function_accounts, times}
use Rattle.cf_model_articulation.proofs.RowSums.{IsCounted, balances_sum, credit_change, debit_change, where_is}

-- ---- the rows' accounts come to the fund balance, turned

counted : (plan : Plan) (fund : ℕ) (p : Post) → IsFundPost plan p → IsCounted (operating_accounts plan fund) is_change fund p
counted plan fund p is same = subst (λ f. times p.account (operating_accounts plan f) ≡ (if is_change p then 1 else 0)) (number_is p.fund fund same) is.row

-- what the accounts of the rows come to through a year
abbrev pub through : Plan → ℕ → ℕ → List Entry → ℤ
through plan year fund h = int_sum (λ a. balance_of FundBasis plan year fund a h) (operating_accounts plan fund)

pub turned : (plan : Plan) (year fund : ℕ) (h : List Entry) → HasOwnAccounts plan → IsLegal plan h → fund_balance plan year fund h +ℤ through plan year fund h ≡ pos 0
turned plan year fund h own legal =
    ap (λ z. fund_balance plan year fund h +ℤ z)
    (balances_sum (operating_accounts plan fund) is_change year fund (posts_in FundBasis plan h)
    (all_so (IsFundPost plan) (IsCounted (operating_accounts plan fund) is_change fund) (counted plan fund) (posts_in FundBasis plan h) (fund_posts plan h own legal)))
    ∙ parts_close FundBasis plan year fund h

-- ---- the rows

-- revenues are credits
revenue_change : (a b : ℕ → ℕ → ℤ) (plan : Plan) (fund : ℕ) →
    statement.sum_where (λ s. s.fund == fund) (λ s. neg_ℤ (a s.fund (400000 + s.id) -ℤ b s.fund (400000 + s.id))) plan.sources
    ≡ int_sum (b fund) (source_accounts plan fund) -ℤ int_sum (a fund) (source_accounts plan fund)
revenue_change a b plan fund =
    let test : RevenueSource → Bool = λ s. s.fund == fund in
    let account : RevenueSource → ℕ = λ s. 400000 + s.id in
    where_is test (λ s. neg_ℤ (a s.fund (account s) -ℤ b s.fund (account s))) plan.sources
    ∙ sum_same (λ s. if s.fund == fund then neg_ℤ (a s.fund (400000 + s.id) -ℤ b s.fund (400000 + s.id)) else pos 0)
    (λ s. if s.fund == fund then neg_ℤ (a fund (400000 + s.id) -ℤ b fund (400000 + s.id)) else pos 0) (λ s. by_test (s.fund == fund) s.fund (400000 + s.id) (number_is s.fund fund)) plan.sources
    ∙ sym (sum_filter (λ s. neg_ℤ (a fund (400000 + s.id) -ℤ b fund (400000 + s.id))) test plan.sources)
    ∙ credit_change (λ s. a fund (account s)) (λ s. b fund (account s)) (filter test plan.sources)
    ∙ (λ i. sym (sum_map (b fund) account (filter test plan.sources)) i -ℤ sym (sum_map (a fund) account (filter test plan.sources)) i)
  where
    by_test : (t : Bool) (f n : ℕ) → (t ≡ true → f ≡ fund) → (if t then neg_ℤ (a f n -ℤ b f n) else pos 0) ≡ (if t then neg_ℤ (a fund n -ℤ b fund n) else pos 0)
    by_test true f n same = ap (λ g. neg_ℤ (a g n -ℤ b g n)) (same refl)
    by_test false f n same = refl

pub function_change : (a b : ℕ → ℤ) (plan : Plan) →
    statement.sum_where (λ f. true) (λ f. a (500000 + f.id) -ℤ b (500000 + f.id)) plan.functions ≡ int_sum a (function_accounts plan) -ℤ int_sum b (function_accounts plan)
function_change a b plan =
    let account : Function → ℕ = λ f. 500000 + f.id in
    where_is (λ f. true) (λ f. a (account f) -ℤ b (account f)) plan.functions
    ∙ debit_change (λ f. a (account f)) (λ f. b (account f)) plan.functions
    ∙ (λ i. sym (sum_map a account plan.functions) i -ℤ sym (sum_map b account plan.functions) i)

three : (b : ℕ → ℤ) (xs ys zs : List ℕ) → int_sum b (xs ++ (ys ++ zs)) ≡ int_sum b xs +ℤ (int_sum b ys +ℤ int_sum b zs)
three b xs ys zs = sum_append b xs (ys ++ zs) ∙ ap (λ z. int_sum b xs +ℤ z) (sum_append b ys zs)

-- the net change is what the rows' accounts came to through the year before, less what they come to
-- through this one
rows_change : (plan : Plan) (year fund : ℕ) (h : List Entry) → net_change plan (sums_of plan h) year fund ≡ through plan (year - 1) fund h -ℤ through plan year fund h
rows_change plan year fund h =
    let a : ℕ → ℕ → ℤ = λ f n. balance_of FundBasis plan year f n h in
    let b : ℕ → ℕ → ℤ = λ f n. balance_of FundBasis plan (year - 1) f n h in
    adds (statement.sum_where (λ s. s.fund == fund) (λ s. neg_ℤ (a s.fund (400000 + s.id) -ℤ b s.fund (400000 + s.id))) plan.sources)
    (statement.sum_where (λ f. true) (λ f. a fund (500000 + f.id) -ℤ b fund (500000 + f.id)) plan.functions)
    (int_sum (a fund) (source_accounts plan fund)) (int_sum (b fund) (source_accounts plan fund)) (int_sum (a fund) (function_accounts plan)) (int_sum (b fund) (function_accounts plan))
    (a fund 510000) (b fund 510000) (a fund 520000) (b fund 520000) (a fund 530000) (b fund 530000) (a fund 600001) (b fund 600001) (a fund 610001) (b fund 610001) (a fund 600002) (b fund 600002)
    (a fund 600003) (b fund 600003) (a fund 600004) (b fund 600004) (through plan year fund h) (through plan (year - 1) fund h) (revenue_change a b plan fund) (function_change (a fund) (b fund) plan)
    (three (a fund) (source_accounts plan fund) (function_accounts plan) other_accounts) (three (b fund) (source_accounts plan fund) (function_accounts plan) other_accounts)
  where
    adds : (r f s1 s0 f1 f0 o1 o0 p1 p0 i1 i0 t1 t0 u1 u0 d1 d0 g1 g0 l1 l0 w1 w0 : ℤ) → r ≡ s0 -ℤ s1 → f ≡ f1 -ℤ f0 →
        w1 ≡ s1 +ℤ (f1 +ℤ (o1 +ℤ (p1 +ℤ (i1 +ℤ (t1 +ℤ (u1 +ℤ (d1 +ℤ (g1 +ℤ (l1 +ℤ pos 0))))))))) →
        w0 ≡ s0 +ℤ (f0 +ℤ (o0 +ℤ (p0 +ℤ (i0 +ℤ (t0 +ℤ (u0 +ℤ (d0 +ℤ (g0 +ℤ (l0 +ℤ pos 0))))))))) →
        (r -ℤ (f +ℤ ((o1 -ℤ o0) +ℤ ((p1 -ℤ p0) +ℤ (i1 -ℤ i0))))) +ℤ ((neg_ℤ (t1 -ℤ t0) -ℤ (u1 -ℤ u0)) +ℤ ((neg_ℤ (d1 -ℤ d0) +ℤ neg_ℤ (g1 -ℤ g0)) +ℤ neg_ℤ (l1 -ℤ l0))) ≡ w0 -ℤ w1
    adds r f s1 s0 f1 f0 o1 o0 p1 p0 i1 i0 t1 t0 u1 u0 d1 d0 g1 g0 l1 l0 w1 w0 e1 e2 e3 e4 = omega (arith, ints, e1, e2, e3, e4)

pub net_change_is : (plan : Plan) (year fund : ℕ) (h : List Entry) → HasOwnAccounts plan → IsLegal plan h →
    net_change plan (sums_of plan h) year fund ≡ fund_balance plan year fund h -ℤ fund_balance plan (year - 1) fund h
net_change_is plan year fund h own legal =
    rows_change plan year fund h
    ∙ turns (fund_balance plan year fund h) (fund_balance plan (year - 1) fund h) (through plan year fund h) (through plan (year - 1) fund h) (turned plan year fund h own legal) (turned plan (year - 1) fund h own legal)
  where
    turns : (f1 f0 w1 w0 : ℤ) → f1 +ℤ w1 ≡ pos 0 → f0 +ℤ w0 ≡ pos 0 → w0 -ℤ w1 ≡ f1 -ℤ f0
    turns f1 f0 w1 w0 a b = omega (arith, ints, a, b)
