-- What a legal history posts in the funds is of funds of the chart, on accounts below 300000 and on
-- those of the operating statement's rows.
use Rattle.std.proofs.Common.{◌≡◌, ◌⊎◌, inl, inr, ℕ, ◌+◌, ◌<◌, ◌≤◌, true, not, if◌then◌else◌, ◌==◌, nat_lt, nat_le, ℤ, List, [], ◌∷◌, ◌++◌, map, refl, sym, ap, subst, ◌∙◌, arith, filter}
use Rattle.cf_base.proofs.Common.{AllByRecursion}
use Rattle.cf_model.specs.Common.{Entry, Function, RevenueSource, fund_if, deeds_of, documents_of, act_posts, posts_in, registers_of, Adds, IsLegal}
use Rattle.cf_calls.specs.declared.read.Basis.TheVariants.{Fund as FundBasis}
use Rattle.cf_chart.specs.declared.rows.Fund.{Fund}
use Rattle.cf_chart.specs.Common.{Plan, fund_at, source_at}
use Rattle.cf_ledger.specs.declared.post.Post.{Post}
use Rattle.cf_model.proofs.Common.{accepted, IsFund, legal_induction, legal_push, all_filter, all_posts, posts_push, all_append, le_true, passing}
use Rattle.cf_post.specs.declared.deed.Deed.{Deed}
use Rattle.cf_post.specs.declared.deed.Deed.TheVariants as deed
use Rattle.cf_post.specs.declared.deed.Spent.{Spent}
use Rattle.cf_post.specs.declared.deed.Spent.TheVariants as spent
use Rattle.cf_post.specs.Accounts.{asset_sales, capital_outlay, cash, debt_due, due_from_funds, due_to_funds, interest, leases_issued, payables, principal, proceeds, receivables, revenue_of, transfers_in, transfers_out, unavailable}
use Rattle.cf_post.specs.Rows.{debit, double, post}
use Rattle.cf_post.specs.Table.{expenditure, fund_rows}
use Rattle.cf_model_articulation.specs.OwnAccounts.{HasOwnAccounts, is_of_fund}
use Rattle.cf_model_articulation.proofs.Closing.{is_change}
use Rattle.cf_model_articulation.proofs.Counts.{all_of, found_has, found_row, less_is, one_passes, passing_append, some_is}
use Rattle.cf_model_articulation.proofs.Named.{IsFunction, are_named}
use Rattle.cf_model_articulation.proofs.NamedDeeds.{IsNamed, IsSourceOf, IsSpent, deeds_named}
use Rattle.cf_model_articulation.proofs.Rows.{at_change, function_accounts, is_none, is_one, no_function, none_by_id, none_where, once_by_id, one_function, one_source, source_low, times}

-- ---- the accounts of the operating statement

abbrev pub source_accounts : Plan → ℕ → List ℕ
source_accounts plan fund = map (λ s. 400000 + s.id) (filter (λ s. s.fund == fund) plan.sources)

-- outlay and debt service, and other financing sources and uses
abbrev pub other_accounts : List ℕ
other_accounts = 510000 ∷ 520000 ∷ 530000 ∷ 600001 ∷ 610001 ∷ 600002 ∷ 600003 ∷ 600004 ∷ []

abbrev pub operating_accounts : Plan → ℕ → List ℕ
operating_accounts plan fund = source_accounts plan fund ++ (function_accounts plan ++ other_accounts)

-- an account from 300000 on has one row of the fund's part, and one below has none
abbrev HasRow : Plan → ℕ → ℕ → Type 0
HasRow plan fund n = times n (operating_accounts plan fund) ≡ (if not (nat_lt n 300000) then 1 else 0)

pub record IsFundPost (plan : Plan) (p : Post) : Type 0 where
  pub of_chart : passing (λ (f : Fund). p.fund == f.id) plan.funds ≡ 1
  pub row : times p.account (operating_accounts plan p.fund) ≡ (if is_change p then 1 else 0)

-- ---- how often each account has a row

three : (plan : Plan) (fund n a b c : ℕ) → times n (source_accounts plan fund) ≡ a → times n (function_accounts plan) ≡ b → times n other_accounts ≡ c → times n (operating_accounts plan fund) ≡ a + (b + c)
three plan fund n a b c in_sources in_functions in_others =
    passing_append (λ m. n == m) (source_accounts plan fund) (function_accounts plan ++ other_accounts)
    ∙ (λ i. in_sources i + (passing_append (λ m. n == m) (function_accounts plan) other_accounts ∙ (λ j. in_functions j + in_others j)) i)

pub no_source : (plan : Plan) (fund n : ℕ) → HasOwnAccounts plan → (n < 400000) ⊎ (400000 + 9999 < n) → times n (source_accounts plan fund) ≡ 0
no_source plan fund n own far =
    none_by_id (λ (s : RevenueSource). s.id) 400000 9999 n (filter (λ s. s.fund == fund) plan.sources) (all_filter (λ (s : RevenueSource). s.id ≤ 9999) (λ s. s.fund == fund) plan.sources (source_low plan own)) far

no_other : (n : ℕ) → n < 510000 → times n other_accounts ≡ 0
no_other n l = none_where n (λ a. nat_le 510000 a) (λ a high e. omega (arith, le_true 510000 a high, l, e)) other_accounts refl

balance_row : (plan : Plan) → HasOwnAccounts plan → (fund n : ℕ) → nat_lt n 300000 ≡ true → HasRow plan fund n
balance_row plan own fund n low =
    let l : n < 300000 = less_is n 300000 low in
    three plan fund n 0 0 0 (no_source plan fund n own (inl (omega (arith, l)))) (no_function plan n own (inl (omega (arith, l)))) (no_other n (omega (arith, l))) ∙ is_none (not (nat_lt n 300000)) (ap not low)

revenue_row : (plan : Plan) → HasOwnAccounts plan → (fund source : ℕ) → IsSourceOf plan fund source → HasRow plan fund (400000 + source)
revenue_row plan own fund source is =
    let one = one_source plan fund source own is in
    three plan fund (400000 + source) 1 0 0 (once_by_id (λ (s : RevenueSource). s.id) 400000 source (filter (λ s. s.fund == fund) plan.sources) one.of_fund)
    (no_function plan (400000 + source) own (inl (omega (arith, one.low)))) (no_other (400000 + source) (omega (arith, one.low)))
    ∙ is_one _ (at_change (400000 + source) (omega arith))

current_row : (plan : Plan) → HasOwnAccounts plan → (fund function : ℕ) → IsFunction plan function → HasRow plan fund (500000 + function)
current_row plan own fund function is =
    let one = one_function plan function own is in
    three plan fund (500000 + function) 0 1 0 (no_source plan fund (500000 + function) own (inr (omega arith)))
    (once_by_id (λ (f : Function). f.id) 500000 function plan.functions one.once) (no_other (500000 + function) (omega (arith, one.low)))
    ∙ is_one _ (at_change (500000 + function) (omega arith))

other_row : (plan : Plan) → HasOwnAccounts plan → (fund n : ℕ) → nat_le 510000 n ≡ true → times n other_accounts ≡ 1 → HasRow plan fund n
other_row plan own fund n high once =
    let l : 510000 ≤ n = le_true 510000 n high in
    three plan fund n 0 0 1 (no_source plan fund n own (inr (omega (arith, l)))) (no_function plan n own (inr (omega (arith, l)))) once ∙ is_one _ (at_change n (omega (arith, l)))

spent_row : (plan : Plan) → HasOwnAccounts plan → (fund : ℕ) (s : Spent) → IsSpent plan s → HasRow plan fund (expenditure s)
spent_row plan own fund (spent.Current f) is = current_row plan own fund f is
spent_row plan own fund spent.Capital is = other_row plan own fund capital_outlay refl refl

-- ---- each deed

abbrev IsOneFund : Plan → ℕ → Type 0
IsOneFund plan fund = passing (λ (f : Fund). fund == f.id) plan.funds ≡ 1

one_fund : (plan : Plan) → HasOwnAccounts plan → (fund : ℕ) → IsFund plan fund → IsOneFund plan fund
one_fund plan own fund is = let row = some_is (fund_at plan fund) is in one_passes (λ (f : Fund). f.id) (λ f. true) fund row.0 plan.funds own.funds row.1 refl

-- each source is of a fund of the chart
source_fund : (plan : Plan) → HasOwnAccounts plan → (fund source : ℕ) → IsSourceOf plan fund source → IsOneFund plan fund
source_fund plan own fund source is =
    let row = some_is (source_at plan source) is.known in
    let known : is_of_fund plan.funds row.0 ≡ true =
    found_has (λ (s : RevenueSource). is_of_fund plan.funds s ≡ true) (λ s. s.id == source) row.0 plan.sources row.1
    (all_of (λ (s : RevenueSource). is_of_fund plan.funds s ≡ true) (is_of_fund plan.funds) (λ s e. e) plan.sources own.source_funds) in
    let of = found_row (λ (f : Fund). f.id == row.0.fund) plan.funds known in
    let same : fund ≡ row.0.fund = is.of_fund ∙ ap fund_if row.1 in
    subst (IsOneFund plan) (sym same) (one_passes (λ (f : Fund). f.id) (λ f. true) row.0.fund of.0 plan.funds own.funds of.1 refl)

one : (plan : Plan) (year fund account : ℕ) (amount : ℤ) → IsOneFund plan fund → HasRow plan fund account → IsFundPost plan (post year fund account amount)
one plan year fund account amount of_chart row = record { of_chart = of_chart; row = row }

two : (plan : Plan) (year fund a b : ℕ) (x y : ℤ) → IsOneFund plan fund → HasRow plan fund a → HasRow plan fund b → AllByRecursion (IsFundPost plan) (post year fund a x ∷ post year fund b y ∷ [])
two plan year fund a b x y of_chart at_a at_b = (one plan year fund a x of_chart at_a, (one plan year fund b y of_chart at_b, tt))

deed_posts : (plan : Plan) → HasOwnAccounts plan → (d : Deed) → IsNamed plan d → AllByRecursion (IsFundPost plan) (fund_rows d)
deed_posts plan own (deed.Voucher i) is = two plan _ i.fund _ _ _ _ (one_fund plan own i.fund is.0) (spent_row plan own i.fund i.spent is.1) (balance_row plan own i.fund payables refl)
deed_posts plan own (deed.VoidVoucher i) is = two plan _ i.fund _ _ _ _ (one_fund plan own i.fund is.0) (spent_row plan own i.fund i.spent is.1) (balance_row plan own i.fund payables refl)
deed_posts plan own (deed.Pay a) is = two plan _ a.fund _ _ _ _ (one_fund plan own a.fund is) (balance_row plan own a.fund payables refl) (balance_row plan own a.fund cash refl)
deed_posts plan own (deed.Bill l) is =
    two plan _ l.fund _ _ _ _ (source_fund plan own l.fund l.source is) (balance_row plan own l.fund receivables refl) (balance_row plan own l.fund unavailable refl)
deed_posts plan own (deed.Collect c) is =
    let of = source_fund plan own c.fund c.source is in
    all_append (IsFundPost plan) (double c.year c.fund cash receivables c.amount) (double c.recognised_year c.fund unavailable (revenue_of c.source) c.amount)
    (two plan _ c.fund _ _ _ _ of (balance_row plan own c.fund cash refl) (balance_row plan own c.fund receivables refl))
    (two plan _ c.fund _ _ _ _ of (balance_row plan own c.fund unavailable refl) (revenue_row plan own c.fund c.source is))
deed_posts plan own (deed.Receive s) is =
    two plan _ s.fund _ _ _ _ (source_fund plan own s.fund s.source is) (balance_row plan own s.fund cash refl) (revenue_row plan own s.fund s.source is)
deed_posts plan own (deed.WriteOff s) is =
    two plan _ s.fund _ _ _ _ (source_fund plan own s.fund s.source is) (balance_row plan own s.fund unavailable refl) (balance_row plan own s.fund receivables refl)
deed_posts plan own (deed.Donate a) is = tt
deed_posts plan own (deed.Dispose d) is =
    two plan _ d.fund _ _ _ _ (one_fund plan own d.fund is.0) (balance_row plan own d.fund cash refl) (other_row plan own d.fund asset_sales refl refl)
deed_posts plan own (deed.Issue a) is =
    two plan _ a.fund _ _ _ _ (one_fund plan own a.fund is) (balance_row plan own a.fund cash refl) (other_row plan own a.fund proceeds refl refl)
deed_posts plan own (deed.PayDue p) is =
    let of = one_fund plan own p.fund is in
    let on_principal : IsFundPost plan (debit p.due_year p.fund principal p.principal) = one plan _ p.fund _ _ of (other_row plan own p.fund principal refl refl) in
    let on_interest : IsFundPost plan (debit p.due_year p.fund interest p.interest) = one plan _ p.fund _ _ of (other_row plan own p.fund interest refl refl) in
    let due : HasRow plan p.fund debt_due = balance_row plan own p.fund debt_due refl in
    (on_principal, (on_interest, (one plan _ p.fund _ _ of due, two plan _ p.fund _ _ _ _ of due (balance_row plan own p.fund cash refl))))
deed_posts plan own (deed.EarnLeave a) is = tt
deed_posts plan own (deed.UseLeave a) is = tt
deed_posts plan own (deed.MatureLeave m) is =
    two plan _ m.fund _ _ _ _ (one_fund plan own m.fund is.0) (current_row plan own m.fund m.function is.1) (balance_row plan own m.fund cash refl)
deed_posts plan own (deed.Transfer t) is =
    all_append (IsFundPost plan) (double t.year t.from transfers_out cash t.amount) (double t.year t.to cash transfers_in t.amount)
    (two plan _ t.from _ _ _ _ (one_fund plan own t.from is.0) (other_row plan own t.from transfers_out refl refl) (balance_row plan own t.from cash refl))
    (two plan _ t.to _ _ _ _ (one_fund plan own t.to is.1) (balance_row plan own t.to cash refl) (other_row plan own t.to transfers_in refl refl))
deed_posts plan own (deed.Loan t) is =
    all_append (IsFundPost plan) (double t.year t.from due_from_funds cash t.amount) (double t.year t.to cash due_to_funds t.amount)
    (two plan _ t.from _ _ _ _ (one_fund plan own t.from is.0) (balance_row plan own t.from due_from_funds refl) (balance_row plan own t.from cash refl))
    (two plan _ t.to _ _ _ _ (one_fund plan own t.to is.1) (balance_row plan own t.to cash refl) (balance_row plan own t.to due_to_funds refl))
deed_posts plan own (deed.Repay t) is =
    all_append (IsFundPost plan) (double t.year t.from due_to_funds cash t.amount) (double t.year t.to cash due_from_funds t.amount)
    (two plan _ t.from _ _ _ _ (one_fund plan own t.from is.0) (balance_row plan own t.from due_to_funds refl) (balance_row plan own t.from cash refl))
    (two plan _ t.to _ _ _ _ (one_fund plan own t.to is.1) (balance_row plan own t.to cash refl) (balance_row plan own t.to due_from_funds refl))
deed_posts plan own (deed.Depreciate a) is = tt
deed_posts plan own (deed.AccrueInterest a) is = tt
deed_posts plan own (deed.Lease a) is =
    two plan _ a.fund _ _ _ _ (one_fund plan own a.fund is) (other_row plan own a.fund capital_outlay refl refl) (other_row plan own a.fund leases_issued refl refl)
deed_posts plan own (deed.Amortize a) is = tt

-- ---- legal histories

fund_posts_step : (plan : Plan) → HasOwnAccounts plan → (h : List Entry) (e : Entry) → IsLegal plan h → AllByRecursion (IsFundPost plan) (posts_in FundBasis plan h) → Adds plan h e →
    AllByRecursion (IsFundPost plan) (posts_in FundBasis plan (h ++ e ∷ []))
fund_posts_step plan own h e legal posts adds =
    let a = accepted plan h e adds in
    let s = registers_of plan h in
    subst (AllByRecursion (IsFundPost plan)) (sym (posts_push FundBasis plan h e))
    (all_append (IsFundPost plan) (posts_in FundBasis plan h) (act_posts FundBasis plan s e.change.on e.change.act) posts
    (all_posts (IsFundPost plan) (IsNamed plan) FundBasis (deed_posts plan own) (deeds_of plan s e.change.on e.change.act)
    (deeds_named plan s (documents_of plan h) e.change.on e.change.act own (are_named plan h own legal) a.names a.register_names)))

pub fund_posts : (plan : Plan) (history : List Entry) → HasOwnAccounts plan → IsLegal plan history → AllByRecursion (IsFundPost plan) (posts_in FundBasis plan history)
fund_posts plan history own legal =
    (legal_induction plan (λ h. IsLegal plan h × AllByRecursion (IsFundPost plan) (posts_in FundBasis plan h)) (tt, tt)
    (λ h e has adds. (legal_push plan h e has.0 adds, fund_posts_step plan own h e has.0 has.1 adds)) history legal).1
