-- What each deed spends of a fund in a year, and that the total expenditures of a fund's operating
-- statement come to that.
use Rattle.std.proofs.Common.{◌≡◌, ◌⊎◌, inl, inr, ℕ, suc, ◌+◌, ◌-◌, ◌<◌, ◌≤◌, Bool, true, false, not, if◌then◌else◌, ◌==◌, ◌&&◌, nat_lt, nat_le, List, [], ◌∷◌, ◌++◌, ℤ, pos, ◌+ℤ◌, ◌-ℤ◌, refl, sym, ap, subst, ◌∙◌, arith}
use Rattle.cf_base.proofs.Common.{AllByRecursion, leb_tells, common_steps, ints}
use Rattle.cf_model.specs.Common.{Entry, deeds_of, documents_of, balance_of, posts_in, registers_of, sums_of, Adds, IsLegal, int_sum}
use Rattle.cf_calls.specs.declared.read.Basis.TheVariants.{Fund as FundBasis}
use Rattle.cf_chart.specs.Common.{Plan}
use Rattle.cf_ledger.specs.declared.post.Post.{Post}
use Rattle.cf_ledger.specs.Posts.{sum_where}
use Rattle.cf_ledger.proofs.Sums.{next_year}
use Rattle.cf_model.proofs.Common.{accepted, legal_induction, legal_push, all_append, both, all_so, none_first, none_last, same_all, sum_append}
use Rattle.cf_post.specs.declared.deed.Deed.{Deed}
use Rattle.cf_post.specs.declared.deed.Deed.TheVariants as deed
use Rattle.cf_post.specs.declared.deed.Spent.{Spent}
use Rattle.cf_post.specs.declared.deed.Spent.TheVariants as spent
use Rattle.cf_post.specs.Table.{expenditure, fund_rows}
use Rattle.cf_statements.specs.Operating.{total_expenditures}
use Rattle.cf_model_articulation.specs.OwnAccounts.{HasOwnAccounts}
use Rattle.cf_model_articulation.proofs.Closing.{same_sum}
use Rattle.cf_model_articulation.proofs.Counts.{less_is, passing_append}
use Rattle.cf_model_articulation.proofs.DeedSums.{deeds_in, posted, pushed_deeds}
use Rattle.cf_model_articulation.proofs.FundPosts.{IsFundPost, fund_posts, no_source, operating_accounts, other_accounts, source_accounts}
use Rattle.cf_model_articulation.proofs.Named.{are_named}
use Rattle.cf_model_articulation.proofs.NamedDeeds.{IsNamed, IsSpent, deeds_named}
use Rattle.cf_model_articulation.proofs.NetChange.{function_change}
use Rattle.cf_model_articulation.proofs.Rows.{function_accounts, no_function, none_where, one_function, one_source, times}
use Rattle.cf_model_articulation.proofs.RowSums.{IsCounted, balances_sum}

-- ---- what a deed spends

abbrev pub of_fund : ℕ → ℕ → ℕ → ℕ → ℤ → ℤ
of_fund year fund of by amount = if (of == year) && (by == fund) then amount else pos 0

abbrev pub to_spent : ℕ → ℕ → Deed → ℤ
to_spent year fund (deed.Voucher i) = of_fund year fund i.voucher_year i.fund (pos i.amount)
to_spent year fund (deed.VoidVoucher i) = of_fund year fund i.voucher_year i.fund (pos 0 -ℤ pos i.amount)
to_spent year fund (deed.PayDue p) = of_fund year fund p.due_year p.fund (pos p.principal) +ℤ of_fund year fund p.due_year p.fund (pos p.interest)
to_spent year fund (deed.MatureLeave m) = of_fund year fund m.year m.fund (pos m.amount)
to_spent year fund (deed.Lease a) = of_fund year fund a.year a.fund (pos a.amount)
to_spent year fund _ = pos 0

-- ---- its posts on expenditures

abbrev pub is_expenditure : ℕ → Bool
is_expenditure n = nat_le 500000 n && nat_lt n 600000

abbrev spends_in : ℕ → ℕ → Post → Bool
spends_in year fund p = is_expenditure p.account && ((p.year == year) && (p.fund == fund))

function_is : (f : ℕ) → f ≤ 999 → is_expenditure (500000 + f) ≡ true
function_is f l = grind (arith, common_steps)

revenue_is : (s : ℕ) → s ≤ 9999 → is_expenditure (400000 + s) ≡ false
revenue_is s l = grind (arith, common_steps)

on : (b q : Bool) (x z : ℤ) → b ≡ true → (if b && q then x else pos 0) +ℤ z ≡ (if q then x else pos 0) +ℤ z
on b q x z e = ap (λ t. (if t && q then x else pos 0) +ℤ z) e

off : (b q : Bool) (x z : ℤ) → b ≡ false → (if b && q then x else pos 0) +ℤ z ≡ z
off b q x z e = ap (λ t. (if t && q then x else pos 0) +ℤ z) e ∙ none_first z

spent_is : (plan : Plan) → HasOwnAccounts plan → (s : Spent) → IsSpent plan s → is_expenditure (expenditure s) ≡ true
spent_is plan own (spent.Current f) is = function_is f (one_function plan f own is).low
spent_is plan own spent.Capital is = refl

pub spent_on : (plan : Plan) (year fund : ℕ) → HasOwnAccounts plan → (d : Deed) → IsNamed plan d → sum_where (spends_in year fund) (fund_rows d) ≡ to_spent year fund d
spent_on plan year fund own (deed.Voucher i) is =
    on (is_expenditure (expenditure i.spent)) ((i.voucher_year == year) && (i.fund == fund)) (pos i.amount) (pos 0) (spent_is plan own i.spent is.1) ∙ none_last _
spent_on plan year fund own (deed.VoidVoucher i) is =
    on (is_expenditure (expenditure i.spent)) ((i.voucher_year == year) && (i.fund == fund)) (pos 0 -ℤ pos i.amount) (pos 0) (spent_is plan own i.spent is.1) ∙ none_last _
spent_on plan year fund own (deed.Collect c) is =
    ap (λ z. pos 0 +ℤ (pos 0 +ℤ (pos 0 +ℤ z)))
    (off (is_expenditure (400000 + c.source)) ((c.recognised_year == year) && (c.fund == fund)) (pos 0 -ℤ pos c.amount) (pos 0) (revenue_is c.source (one_source plan c.fund c.source own is).low))
spent_on plan year fund own (deed.Receive s) is =
    ap (λ z. pos 0 +ℤ z)
    (off (is_expenditure (400000 + s.source)) ((s.year == year) && (s.fund == fund)) (pos 0 -ℤ pos s.amount) (pos 0) (revenue_is s.source (one_source plan s.fund s.source own is).low))
spent_on plan year fund own (deed.PayDue p) is = ap (λ z. of_fund year fund p.due_year p.fund (pos p.principal) +ℤ z) (none_last _)
spent_on plan year fund own (deed.MatureLeave m) is =
    on (is_expenditure (500000 + m.function)) ((m.year == year) && (m.fund == fund)) (pos m.amount) (pos 0) (function_is m.function (one_function plan m.function own is.1).low) ∙ none_last _
spent_on plan year fund own (deed.Lease a) is = none_last _
spent_on plan year fund own _ is = refl

-- ---- the deeds of a legal history are of the chart

named_step : (plan : Plan) → HasOwnAccounts plan → (h : List Entry) (e : Entry) → IsLegal plan h → AllByRecursion (IsNamed plan) (deeds_in plan h) → Adds plan h e →
    AllByRecursion (IsNamed plan) (deeds_in plan (h ++ e ∷ []))
named_step plan own h e legal named adds =
    let a = accepted plan h e adds in
    let s = registers_of plan h in
    subst (AllByRecursion (IsNamed plan)) (sym (pushed_deeds plan h e))
    (all_append (IsNamed plan) (deeds_in plan h) (deeds_of plan s e.change.on e.change.act) named
    (deeds_named plan s (documents_of plan h) e.change.on e.change.act own (are_named plan h own legal) a.names a.register_names))

pub all_named : (plan : Plan) (h : List Entry) → HasOwnAccounts plan → IsLegal plan h → AllByRecursion (IsNamed plan) (deeds_in plan h)
all_named plan h own legal =
    (legal_induction plan (λ h. IsLegal plan h × AllByRecursion (IsNamed plan) (deeds_in plan h)) (tt, tt)
    (λ h e has adds. (legal_push plan h e has.0 adds, named_step plan own h e has.0 has.1 adds)) h legal).1

-- ---- the accounts of total expenditures

abbrev outlays : List ℕ
outlays = 510000 ∷ 520000 ∷ 530000 ∷ []

abbrev financing : List ℕ
financing = 600001 ∷ 610001 ∷ 600002 ∷ 600003 ∷ 600004 ∷ []

abbrev spent_accounts : Plan → List ℕ
spent_accounts plan = function_accounts plan ++ outlays

abbrev spends : Post → Bool
spends p = is_expenditure p.account

low_or_high : (n : ℕ) → is_expenditure n ≡ false → (n < 500000) ⊎ (600000 ≤ n)
low_or_high n e = by (nat_le 500000 n) (nat_lt n 600000) (leb_tells 500000 n) (leb_tells (suc n) 600000) e
  where
    by : (p q : Bool) → ((p ≡ true) × (500000 ≤ n)) ⊎ ((p ≡ false) × (n < 500000)) → ((q ≡ true) × (suc n ≤ 600000)) ⊎ ((q ≡ false) × (600000 < suc n)) → (p && q) ≡ false → (n < 500000) ⊎ (600000 ≤ n)
    by p q (inr h) k e = inl h.1
    by p q (inl h) (inr k) e = inr (omega (arith, k.1))
    by true true (inl h) (inl k) e = cc
    by true false (inl h) (inl k) e = cc
    by false q (inl h) (inl k) e = cc

bounds : (n : ℕ) → is_expenditure n ≡ true → (500000 ≤ n) × (n < 600000)
bounds n e = let two = both (nat_le 500000 n) (nat_lt n 600000) e in (grind (arith, common_steps), less_is n 600000 two.1)

-- each expenditure that is posted has one of these accounts
counted : (plan : Plan) (fund : ℕ) → HasOwnAccounts plan → (p : Post) → IsFundPost plan p → times p.account (spent_accounts plan) ≡ (if spends p then 1 else 0)
counted plan fund own p is = by (spends p) refl
  where
    n : ℕ
    n = p.account

    split : times n (spent_accounts plan) ≡ times n (function_accounts plan) + times n outlays
    split = passing_append (λ m. n == m) (function_accounts plan) outlays

    far : (n < 500000) ⊎ (600000 ≤ n) → times n (function_accounts plan) + times n outlays ≡ 0
    far (inl l) = λ i. no_function plan n own (inl l) i + none_where n (λ a. nat_le 500000 a) (λ a high e. absurd (omega (arith, l, e, (bound a high)))) outlays refl i
      where
        bound : (a : ℕ) → nat_le 500000 a ≡ true → 500000 ≤ a
        bound a e = grind (arith, common_steps)
    far (inr l) = λ i. no_function plan n own (inr (omega (arith, l))) i + none_where n (λ a. nat_lt a 600000) (λ a low e. absurd (omega (arith, l, e, less_is a 600000 low))) outlays refl i

    changes : (a : ℕ) → 500000 ≤ a → (if not (nat_lt a 300000) then 1 else 0) ≡ ◌+◌ 0 1
    changes a l = grind (arith, common_steps)

    among : (500000 ≤ n) × (n < 600000) → times n (function_accounts plan) + times n outlays ≡ 1
    among l =
        let whole : times n (operating_accounts plan p.fund) ≡ times n (source_accounts plan p.fund) + (times n (function_accounts plan) + times n other_accounts) =
        passing_append (λ m. n == m) (source_accounts plan p.fund) (function_accounts plan ++ other_accounts)
        ∙ ap (λ k. times n (source_accounts plan p.fund) + k) (passing_append (λ m. n == m) (function_accounts plan) other_accounts) in
        let no : times n (source_accounts plan p.fund) ≡ 0 = no_source plan p.fund n own (inr (omega (arith, l.0))) in
        let last : times n other_accounts ≡ times n outlays + times n financing = passing_append (λ m. n == m) outlays financing in
        let none : times n financing ≡ 0 = none_where n (λ a. nat_le 600000 a) (λ a high e. absurd (omega (arith, l.1, e, bound a high))) financing refl in
        omega (arith, whole, no, last, none, is.row, changes n l.0)
      where
        bound : (a : ℕ) → nat_le 600000 a ≡ true → 600000 ≤ a
        bound a e = grind (arith, common_steps)

    by : (b : Bool) → spends p ≡ b → times n (spent_accounts plan) ≡ (if b then 1 else 0)
    by true e = split ∙ among (bounds n e)
    by false e = split ∙ far (low_or_high n e)

-- what these accounts come to through a year
abbrev through : Plan → ℕ → ℕ → List Entry → ℤ
through plan year fund h = int_sum (λ a. balance_of FundBasis plan year fund a h) (spent_accounts plan)

through_is : (plan : Plan) (year fund : ℕ) (h : List Entry) → HasOwnAccounts plan → IsLegal plan h →
    through plan year fund h ≡ sum_where (λ p. ((p.fund == fund) && spends p) && nat_le p.year year) (posts_in FundBasis plan h)
through_is plan year fund h own legal =
    balances_sum (spent_accounts plan) spends year fund (posts_in FundBasis plan h)
    (all_so (IsFundPost plan) (IsCounted (spent_accounts plan) spends fund) (λ p is same. counted plan fund own p is) (posts_in FundBasis plan h) (fund_posts plan h own legal))

rows_change : (plan : Plan) (year fund : ℕ) (h : List Entry) → total_expenditures (sums_of plan h) year fund plan.functions ≡ through plan year fund h -ℤ through plan (year - 1) fund h
rows_change plan year fund h =
    let a : ℕ → ℤ = λ n. balance_of FundBasis plan year fund n h in
    let b : ℕ → ℤ = λ n. balance_of FundBasis plan (year - 1) fund n h in
    adds _ (int_sum a (function_accounts plan)) (int_sum b (function_accounts plan)) (a 510000) (b 510000) (a 520000) (b 520000) (a 530000) (b 530000) (through plan year fund h) (through plan (year - 1) fund h)
    (function_change a b plan) (sum_append a (function_accounts plan) outlays) (sum_append b (function_accounts plan) outlays)
  where
    adds : (f f1 f0 o1 o0 p1 p0 i1 i0 w1 w0 : ℤ) → f ≡ f1 -ℤ f0 → w1 ≡ f1 +ℤ (o1 +ℤ (p1 +ℤ (i1 +ℤ pos 0))) → w0 ≡ f0 +ℤ (o0 +ℤ (p0 +ℤ (i0 +ℤ pos 0))) →
        f +ℤ ((o1 -ℤ o0) +ℤ ((p1 -ℤ p0) +ℤ (i1 -ℤ i0))) ≡ w1 -ℤ w0
    adds f f1 f0 o1 o0 p1 p0 i1 i0 w1 w0 e1 e2 e3 = omega (arith, ints, e1, e2, e3)

-- a fund's total expenditures of a year are what the deeds of the history spent of it
pub expenditures_are : (plan : Plan) (year fund : ℕ) (h : List Entry) → HasOwnAccounts plan → IsLegal plan h → 1 ≤ year →
    total_expenditures (sums_of plan h) year fund plan.functions ≡ int_sum (to_spent year fund) (deeds_in plan h)
expenditures_are plan year fund h own legal first =
    let posts = posts_in FundBasis plan h in
    let next : (year - 1) + 1 ≡ year = omega (arith, first) in
    let test : Post → Bool = λ p. (p.fund == fund) && spends p in
    rows_change plan year fund h
    ∙ rest (through plan year fund h) (through plan (year - 1) fund h) (sum_where (λ p. test p && nat_le p.year (year - 1)) posts) (sum_where (λ p. test p && (p.year == year)) posts)
    (through_is plan (year - 1) fund h own legal)
    (through_is plan year fund h own legal
    ∙ subst (λ y. sum_where (λ p. test p && nat_le p.year y) posts ≡ sum_where (λ p. test p && nat_le p.year (year - 1)) posts +ℤ sum_where (λ p. test p && (p.year == y)) posts) next (next_year test posts (year - 1)))
    ∙ same_sum (λ p. test p && (p.year == year)) (spends_in year fund) (λ p. turned (p.fund == fund) (spends p) (p.year == year)) posts
    ∙ posted FundBasis (spends_in year fund) plan h
    ∙ same_all (λ d. sum_where (spends_in year fund) (fund_rows d)) (to_spent year fund) (deeds_in plan h)
    (all_so (IsNamed plan) (λ d. sum_where (spends_in year fund) (fund_rows d) ≡ to_spent year fund d) (spent_on plan year fund own) (deeds_in plan h) (all_named plan h own legal))
  where
    rest : (w1 w0 s0 s : ℤ) → w0 ≡ s0 → w1 ≡ s0 +ℤ s → w1 -ℤ w0 ≡ s
    rest w1 w0 s0 s a b = omega (arith, ints, a, b)

    turned : (f a y : Bool) → ((f && a) && y) ≡ (a && (y && f))
    turned true true true = refl
    turned true true false = refl
    turned true false y = refl
    turned false true true = refl
    turned false true false = refl
    turned false false y = refl
