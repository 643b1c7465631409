-- The change in net position, as the statement of activities has it, is the change of net position.
use Rattle.std.proofs.Common.{◌≡◌, ℕ, ◌+◌, ◌-◌, Bool, true, if◌then◌else◌, ◌==◌, ◌&&◌, nat_le, List, [], ◌∷◌, ◌++◌, ℤ, pos, neg_ℤ, ◌+ℤ◌, ◌-ℤ◌, refl, sym, ap, ◌∙◌, arith}
use Rattle.cf_base.proofs.Common.{AllByRecursion, ints}
use Rattle.cf_model.specs.Common.{Entry, Gov as GovBasis, Function, RevenueKind, RevenueSource, net_position, balance_of, posts_in, sums_of, IsLegal, int_sum}
use Rattle.cf_chart.specs.declared.rows.RevenueKind.TheVariants as kind
use Rattle.cf_chart.specs.Common.{Plan}
use Rattle.cf_ledger.specs.declared.post.Post.{Post}
use Rattle.cf_ledger.specs.Posts.{is_in_total, sum_where}
use Rattle.cf_model.proofs.Common.{all_so, exchange, none_first, none_last, one_passes, passing, same_all, sum_append, sum_map, sum_none, sum_plus, sum_same}
use Rattle.cf_statements.specs.declared.activity.RevenueClass.{RevenueClass}
use Rattle.cf_statements.specs.declared.activity.RevenueClass.TheVariants as class
use Rattle.cf_statements.specs.Activities.{change, is_in, of_functions, program_revenues, revenue, revenues}
use Rattle.cf_statements.specs.Sums.{Sums, gov_in}
use Rattle.cf_model_articulation.specs.OwnAccounts.{HasOwnAccounts, is_of_function}
use Rattle.cf_model_articulation.proofs.Closing.{is_change, parts_close}
use Rattle.cf_model_articulation.proofs.Counts.{all_of, same_numbers}
use Rattle.cf_model_articulation.proofs.GovPosts.{IsGovPost, activity_accounts, city_accounts, donation_accounts, gov_posts, revenue_accounts}
use Rattle.cf_model_articulation.proofs.Rows.{function_accounts, one_function}
use Rattle.cf_model_articulation.proofs.RowSums.{IsCounted, balances_sum, credit_change, debit_change, where_is}

-- ---- the rows' accounts come to net position, turned

-- posts of no fund
pub of_no_fund : (test : Post → Bool) (year : ℕ) (posts : List Post) → AllByRecursion (λ (p : Post). p.fund ≡ 0) posts →
    sum_where (λ p. ((p.fund == 0) && test p) && nat_le p.year year) posts ≡ sum_where (λ p. test p && nat_le p.year year) posts
of_no_fund test year [] all = refl
of_no_fund test year (p ∷ posts) all =
    λ i. (if (same_numbers p.fund 0 all.0 i && test p) && nat_le p.year year then p.amount else pos 0) +ℤ of_no_fund test year posts all.1 i

pub no_fund_posts : (plan : Plan) (h : List Entry) → HasOwnAccounts plan → IsLegal plan h → AllByRecursion (λ (p : Post). p.fund ≡ 0) (posts_in GovBasis plan h)
no_fund_posts plan h own legal = all_so (IsGovPost plan) (λ (p : Post). p.fund ≡ 0) (λ p is. is.no_fund) (posts_in GovBasis plan h) (gov_posts plan h own legal)

abbrev through : Plan → ℕ → List Entry → ℤ
through plan year h = int_sum (λ a. balance_of GovBasis plan year 0 a h) (activity_accounts plan)

turned : (plan : Plan) (year : ℕ) (h : List Entry) → HasOwnAccounts plan → IsLegal plan h → net_position plan year h +ℤ through plan year h ≡ pos 0
turned plan year h own legal =
    (λ i. sym (of_no_fund is_in_total year (posts_in GovBasis plan h) (no_fund_posts plan h own legal)) i
    +ℤ balances_sum (activity_accounts plan) is_change year 0 (posts_in GovBasis plan h)
    (all_so (IsGovPost plan) (IsCounted (activity_accounts plan) is_change 0) (λ p is same. is.change) (posts_in GovBasis plan h) (gov_posts plan h own legal)) i)
    ∙ parts_close GovBasis plan year 0 h

-- ---- each source is a program revenue of one function, or a general one

abbrev part : RevenueClass → RevenueKind → ℤ → ℤ
part class kind x = if is_in class kind then x else pos 0

-- what a source brings a program
abbrev to_program : ℕ → RevenueKind → ℤ → ℤ
to_program function kind x = part (class.Charges function) kind x +ℤ (part (class.OperatingGrants function) kind x +ℤ part (class.CapitalGrants function) kind x)

first_of : (z : ℤ) → z +ℤ (pos 0 +ℤ pos 0) ≡ z
first_of z = omega (arith, ints)

second_of : (z : ℤ) → pos 0 +ℤ (z +ℤ pos 0) ≡ z
second_of z = omega (arith, ints)

third_of : (z : ℤ) → pos 0 +ℤ (pos 0 +ℤ z) ≡ z
third_of z = omega (arith, ints)

one_way : (functions : List Function) (k : RevenueKind) (x : ℤ) → ((n : ℕ) → is_of_function functions (kind.Charges n) ≡ true → passing (λ (f : Function). n == f.id) functions ≡ 1) →
    is_of_function functions k ≡ true → int_sum (λ (f : Function). to_program f.id k x) functions +ℤ part class.General k x ≡ x
one_way functions kind.PropertyTax x once known = ap (λ z. z +ℤ x) (sum_none (λ (f : Function). to_program f.id kind.PropertyTax x) (λ f. refl) functions) ∙ none_first x
one_way functions kind.Tax x once known = ap (λ z. z +ℤ x) (sum_none (λ (f : Function). to_program f.id kind.Tax x) (λ f. refl) functions) ∙ none_first x
one_way functions kind.General x once known = ap (λ z. z +ℤ x) (sum_none (λ (f : Function). to_program f.id kind.General x) (λ f. refl) functions) ∙ none_first x
one_way functions (kind.Charges n) x once known =
    none_last _ ∙ sum_same (λ (f : Function). to_program f.id (kind.Charges n) x) (λ (f : Function). if n == f.id then x else pos 0) (λ f. first_of (if n == f.id then x else pos 0)) functions
    ∙ one_passes (λ (f : Function). n == f.id) x functions (once n known)
one_way functions (kind.OperatingGrant n) x once known =
    none_last _ ∙ sum_same (λ (f : Function). to_program f.id (kind.OperatingGrant n) x) (λ (f : Function). if n == f.id then x else pos 0) (λ f. second_of (if n == f.id then x else pos 0)) functions
    ∙ one_passes (λ (f : Function). n == f.id) x functions (once n known)
one_way functions (kind.CapitalGrant n) x once known =
    none_last _ ∙ sum_same (λ (f : Function). to_program f.id (kind.CapitalGrant n) x) (λ (f : Function). if n == f.id then x else pos 0) (λ f. third_of (if n == f.id then x else pos 0)) functions
    ∙ one_passes (λ (f : Function). n == f.id) x functions (once n known)

-- what the sources bring a program
abbrev brought : Sums → ℕ → List RevenueSource → ℕ → ℤ
brought sums year sources function = int_sum (λ s. to_program function s.kind (revenue sums year s)) sources

brought_is : (sums : Sums) (year function : ℕ) (sources : List RevenueSource) →
    revenues sums year (class.Charges function) sources +ℤ (revenues sums year (class.OperatingGrants function) sources +ℤ revenues sums year (class.CapitalGrants function) sources)
    ≡ brought sums year sources function
brought_is sums year function sources =
    let of : RevenueClass → RevenueSource → ℤ = λ c s. part c s.kind (revenue sums year s) in
    (λ i. where_is (λ s. is_in (class.Charges function) s.kind) (revenue sums year) sources i
    +ℤ (where_is (λ s. is_in (class.OperatingGrants function) s.kind) (revenue sums year) sources i +ℤ where_is (λ s. is_in (class.CapitalGrants function) s.kind) (revenue sums year) sources i))
    ∙ ap (λ z. int_sum (of (class.Charges function)) sources +ℤ z) (sym (sum_plus (of (class.OperatingGrants function)) (of (class.CapitalGrants function)) sources))
    ∙ sym (sum_plus (of (class.Charges function)) (λ s. of (class.OperatingGrants function) s +ℤ of (class.CapitalGrants function) s) sources)

-- program revenues and general ones are all revenues
all_revenues : (plan : Plan) (sums : Sums) (year : ℕ) → HasOwnAccounts plan →
    int_sum (λ (f : Function). brought sums year plan.sources f.id) plan.functions +ℤ revenues sums year class.General plan.sources ≡ int_sum (revenue sums year) plan.sources
all_revenues plan sums year own =
    (λ i. exchange (λ (f : Function) (s : RevenueSource). to_program f.id s.kind (revenue sums year s)) plan.functions plan.sources i
    +ℤ where_is (λ s. is_in class.General s.kind) (revenue sums year) plan.sources i)
    ∙ sym (sum_plus (λ s. int_sum (λ (f : Function). to_program f.id s.kind (revenue sums year s)) plan.functions) (λ s. part class.General s.kind (revenue sums year s)) plan.sources)
    ∙ same_all (λ s. int_sum (λ (f : Function). to_program f.id s.kind (revenue sums year s)) plan.functions +ℤ part class.General s.kind (revenue sums year s)) (revenue sums year) plan.sources
    (all_of (λ (s : RevenueSource). int_sum (λ (f : Function). to_program f.id s.kind (revenue sums year s)) plan.functions +ℤ part class.General s.kind (revenue sums year s) ≡ revenue sums year s)
    (λ s. is_of_function plan.functions s.kind) (λ s e. one_way plan.functions s.kind (revenue sums year s) (λ n there. (one_function plan n own there).once) e) plan.sources own.source_functions)

-- ---- the functions

expenses_are : (sums : Sums) (year : ℕ) (sources : List RevenueSource) (functions : List Function) →
    (of_functions sums year sources functions).expenses ≡ int_sum (λ (f : Function). gov_in sums year (500000 + f.id)) functions
expenses_are sums year sources [] = refl
expenses_are sums year sources (f ∷ functions) = ap (λ z. gov_in sums year (500000 + f.id) +ℤ z) (expenses_are sums year sources functions)

-- less donated assets, which are credits
programs_are : (sums : Sums) (year : ℕ) (sources : List RevenueSource) (functions : List Function) →
    program_revenues (of_functions sums year sources functions)
    ≡ int_sum (λ (f : Function). brought sums year sources f.id) functions -ℤ int_sum (λ (f : Function). gov_in sums year (450000 + f.id)) functions
programs_are sums year sources [] = refl
programs_are sums year sources (f ∷ functions) =
    let rest = of_functions sums year sources functions in
    more (revenues sums year (class.Charges f.id) sources) (revenues sums year (class.OperatingGrants f.id) sources) (revenues sums year (class.CapitalGrants f.id) sources)
    (gov_in sums year (450000 + f.id)) rest.charges rest.operating_grants rest.capital_grants (brought sums year sources f.id) (int_sum (λ (f : Function). brought sums year sources f.id) functions)
    (int_sum (λ (f : Function). gov_in sums year (450000 + f.id)) functions) (brought_is sums year f.id sources) (programs_are sums year sources functions)
  where
    more : (c o k d rc ro rk b bs ds : ℤ) → c +ℤ (o +ℤ k) ≡ b → rc +ℤ (ro +ℤ rk) ≡ bs -ℤ ds → (c +ℤ rc) +ℤ ((o +ℤ ro) +ℤ ((k +ℤ neg_ℤ d) +ℤ rk)) ≡ (b +ℤ bs) -ℤ (d +ℤ ds)
    more c o k d rc ro rk b bs ds e1 e2 = omega (arith, ints, e1, e2)

-- ---- the statement

four : (plan : Plan) (g : ℕ → ℤ) →
    int_sum g (activity_accounts plan)
    ≡ int_sum (λ (s : RevenueSource). g (400000 + s.id)) plan.sources
    +ℤ (int_sum (λ (f : Function). g (500000 + f.id)) plan.functions +ℤ (int_sum (λ (f : Function). g (450000 + f.id)) plan.functions +ℤ (g 530000 +ℤ (g 460000 +ℤ pos 0))))
four plan g =
    sum_append g (revenue_accounts plan) (function_accounts plan ++ (donation_accounts plan ++ city_accounts))
    ∙ (λ i. sum_map g (λ (s : RevenueSource). 400000 + s.id) plan.sources i
    +ℤ (sum_append g (function_accounts plan) (donation_accounts plan ++ city_accounts)
    ∙ (λ j. sum_map g (λ (f : Function). 500000 + f.id) plan.functions j
    +ℤ (sum_append g (donation_accounts plan) city_accounts ∙ ap (λ z. z +ℤ int_sum g city_accounts) (sum_map g (λ (f : Function). 450000 + f.id) plan.functions)) j)) i)

rows_change : (plan : Plan) (year : ℕ) (h : List Entry) → HasOwnAccounts plan → change plan (sums_of plan h) year ≡ through plan (year - 1) h -ℤ through plan year h
rows_change plan year h own =
    let a : ℕ → ℤ = λ n. balance_of GovBasis plan year 0 n h in
    let b : ℕ → ℤ = λ n. balance_of GovBasis plan (year - 1) 0 n h in
    let sums = sums_of plan h in
    let programs = of_functions sums year plan.sources plan.functions in
    adds (revenues sums year class.General plan.sources) programs.expenses programs.charges programs.operating_grants programs.capital_grants
    (int_sum (λ (f : Function). brought sums year plan.sources f.id) plan.functions) (int_sum (λ (f : Function). gov_in sums year (450000 + f.id)) plan.functions)
    (int_sum (revenue sums year) plan.sources)
    (int_sum (λ (s : RevenueSource). a (400000 + s.id)) plan.sources) (int_sum (λ (s : RevenueSource). b (400000 + s.id)) plan.sources)
    (int_sum (λ (f : Function). a (500000 + f.id)) plan.functions) (int_sum (λ (f : Function). b (500000 + f.id)) plan.functions)
    (int_sum (λ (f : Function). a (450000 + f.id)) plan.functions) (int_sum (λ (f : Function). b (450000 + f.id)) plan.functions)
    (a 530000) (b 530000) (a 460000) (b 460000) (through plan year h) (through plan (year - 1) h)
    (programs_are sums year plan.sources plan.functions) (all_revenues plan sums year own)
    (credit_change (λ (s : RevenueSource). a (400000 + s.id)) (λ s. b (400000 + s.id)) plan.sources)
    (expenses_are sums year plan.sources plan.functions ∙ debit_change (λ (f : Function). a (500000 + f.id)) (λ f. b (500000 + f.id)) plan.functions)
    (debit_change (λ (f : Function). a (450000 + f.id)) (λ f. b (450000 + f.id)) plan.functions) (four plan a) (four plan b)
  where
    adds : (n e c o k bs ds r r1 r0 f1 f0 d1 d0 i1 i0 g1 g0 w1 w0 : ℤ) → c +ℤ (o +ℤ k) ≡ bs -ℤ ds → bs +ℤ n ≡ r → r ≡ r0 -ℤ r1 → e ≡ f1 -ℤ f0 → ds ≡ d1 -ℤ d0 →
        w1 ≡ r1 +ℤ (f1 +ℤ (d1 +ℤ (i1 +ℤ (g1 +ℤ pos 0)))) → w0 ≡ r0 +ℤ (f0 +ℤ (d0 +ℤ (i0 +ℤ (g0 +ℤ pos 0)))) →
        (n +ℤ neg_ℤ (g1 -ℤ g0)) -ℤ ((e +ℤ (i1 -ℤ i0)) -ℤ ((c +ℤ pos 0) +ℤ ((o +ℤ pos 0) +ℤ (k +ℤ pos 0)))) ≡ w0 -ℤ w1
    adds n e c o k bs ds r r1 r0 f1 f0 d1 d0 i1 i0 g1 g0 w1 w0 x1 x2 x3 x4 x5 x6 x7 = omega (arith, ints, x1, x2, x3, x4, x5, x6, x7)

pub position_change : (plan : Plan) (year : ℕ) (h : List Entry) → HasOwnAccounts plan → IsLegal plan h →
    change plan (sums_of plan h) year ≡ net_position plan year h -ℤ net_position plan (year - 1) h
position_change plan year h own legal =
    rows_change plan year h own
    ∙ turns (net_position plan year h) (net_position plan (year - 1) h) (through plan year h) (through plan (year - 1) h) (turned plan year h own legal) (turned plan (year - 1) h own legal)
  where
    turns : (n1 n0 w1 w0 : ℤ) → n1 +ℤ w1 ≡ pos 0 → n0 +ℤ w0 ≡ pos 0 → w0 -ℤ w1 ≡ n1 -ℤ n0
    turns n1 n0 w1 w0 a b = omega (arith, ints, a, b)
