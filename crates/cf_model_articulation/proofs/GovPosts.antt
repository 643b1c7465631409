-- What a legal history posts in the government as a whole is of no fund, on the accounts of net
-- position's rows and on those of the activities'.
use Rattle.std.proofs.Common.{◌≡◌, ◌⊎◌, inl, inr, ℕ, ◌+◌, ◌<◌, ◌≤◌, Bool, true, false, not, if◌then◌else◌, ◌==◌, nat_lt, List, [], ◌∷◌, ◌++◌, map, ℤ, refl, sym, ap, subst, ◌∙◌, arith}
use Rattle.cf_base.proofs.Common.{AllByRecursion}
use Rattle.cf_model.specs.Common.{Entry, Gov as GovBasis, Function, RevenueSource, deeds_of, documents_of, act_posts, posts_in, registers_of, Adds, IsLegal}
use Rattle.cf_chart.specs.Common.{Plan}
use Rattle.cf_ledger.specs.declared.post.Post.{Post}
use Rattle.cf_ledger.specs.Posts.{is_in_total}
use Rattle.cf_model.proofs.Common.{accepted, legal_induction, legal_push, all_posts, posts_push, all_append}
use Rattle.cf_post.specs.declared.deed.Deed.{Deed}
use Rattle.cf_post.specs.declared.deed.Deed.TheVariants as deed
use Rattle.cf_post.specs.declared.deed.Spent.{Spent}
use Rattle.cf_post.specs.declared.deed.Spent.TheVariants as spent
use Rattle.cf_post.specs.Accounts.{accrued_interest, bonds, capital_assets, amortization, cash, debt_due, depreciation, gain, interest, leases, leave, payables, receivables, right_to_use}
use Rattle.cf_post.specs.Rows.{credit, debit, post}
use Rattle.cf_post.specs.Table.{debt_of, expense, gov_rows}
use Rattle.cf_model_articulation.specs.OwnAccounts.{HasOwnAccounts}
use Rattle.cf_model_articulation.proofs.Closing.{is_change}
use Rattle.cf_model_articulation.proofs.Counts.{less_is, none_passes, other_numbers, passing_append}
use Rattle.cf_model_articulation.proofs.Named.{IsFunction, are_named}
use Rattle.cf_model_articulation.proofs.NamedDeeds.{IsNamed, IsSourceOf, IsSpent, deeds_named}
use Rattle.cf_model_articulation.proofs.Rows.{at_balance, at_change, function_accounts, function_low, is_none, is_one, no_function, none_by_id, none_where, once_by_id, one_function, one_source, source_low, times}

-- ---- the accounts of the activities, and those of net position

abbrev pub revenue_accounts : Plan → List ℕ
revenue_accounts plan = map (λ s. 400000 + s.id) plan.sources

abbrev pub donation_accounts : Plan → List ℕ
donation_accounts plan = map (λ f. 450000 + f.id) plan.functions

-- interest, and gains
abbrev pub city_accounts : List ℕ
city_accounts = 530000 ∷ 460000 ∷ []

abbrev pub activity_accounts : Plan → List ℕ
activity_accounts plan = revenue_accounts plan ++ (function_accounts plan ++ (donation_accounts plan ++ city_accounts))

abbrev pub position_accounts : List ℕ
position_accounts = 100000 ∷ 110000 ∷ 150000 ∷ 159000 ∷ 151000 ∷ 159100 ∷ 200000 ∷ 210000 ∷ 250000 ∷ 251000 ∷ 260000 ∷ 270000 ∷ []

-- an account from 300000 on has one row of the activities, and one below has one of net position
record HasRow (plan : Plan) (n : ℕ) : Type 0 where
  pub change : times n (activity_accounts plan) ≡ (if not (nat_lt n 300000) then 1 else 0)
  pub balance : times n position_accounts ≡ (if nat_lt n 300000 then 1 else 0)

pub record IsGovPost (plan : Plan) (p : Post) : Type 0 where
  pub no_fund : p.fund ≡ 0
  pub change : times p.account (activity_accounts plan) ≡ (if is_change p then 1 else 0)
  pub balance : times p.account position_accounts ≡ (if is_in_total p then 1 else 0)

-- ---- how often each account has a row

four : (plan : Plan) (n a b c d : ℕ) → times n (revenue_accounts plan) ≡ a → times n (function_accounts plan) ≡ b → times n (donation_accounts plan) ≡ c → times n city_accounts ≡ d →
    times n (activity_accounts plan) ≡ a + (b + (c + d))
four plan n a b c d in_revenues in_functions in_donations in_city =
    passing_append (λ m. n == m) (revenue_accounts plan) (function_accounts plan ++ (donation_accounts plan ++ city_accounts))
    ∙ (λ i. in_revenues i
    + (passing_append (λ m. n == m) (function_accounts plan) (donation_accounts plan ++ city_accounts)
    ∙ (λ j. in_functions j + (passing_append (λ m. n == m) (donation_accounts plan) city_accounts ∙ (λ k. in_donations k + in_city k)) j)) i)

no_revenue : (plan : Plan) (n : ℕ) → HasOwnAccounts plan → (n < 400000) ⊎ (400000 + 9999 < n) → times n (revenue_accounts plan) ≡ 0
no_revenue plan n own far = none_by_id (λ (s : RevenueSource). s.id) 400000 9999 n plan.sources (source_low plan own) far

no_donation : (plan : Plan) (n : ℕ) → HasOwnAccounts plan → (n < 450000) ⊎ (450000 + 999 < n) → times n (donation_accounts plan) ≡ 0
no_donation plan n own far = none_by_id (λ (f : Function). f.id) 450000 999 n plan.functions (function_low plan own) far

no_city : (n : ℕ) → (n ≡ 530000 → ⊥) → (n ≡ 460000 → ⊥) → times n city_accounts ≡ 0
no_city n interest gain = none_passes (λ a. n ≡ a → ⊥) (λ a. n == a) (λ a other. other_numbers n a other) city_accounts (interest, (gain, tt))

no_balance : (n : ℕ) → 300000 ≤ n → times n position_accounts ≡ 0
no_balance n l = none_where n (λ a. nat_lt a 300000) (λ a low e. omega (arith, less_is a 300000 low, l, e)) position_accounts refl

balance_row : (plan : Plan) → HasOwnAccounts plan → (n : ℕ) → nat_lt n 300000 ≡ true → times n position_accounts ≡ 1 → HasRow plan n
balance_row plan own n low once =
    let l : n < 300000 = less_is n 300000 low in
    record {
      change =
          four plan n 0 0 0 0 (no_revenue plan n own (inl (omega (arith, l)))) (no_function plan n own (inl (omega (arith, l)))) (no_donation plan n own (inl (omega (arith, l))))
          (no_city n (λ same. omega (arith, same, l)) (λ same. omega (arith, same, l)))
          ∙ is_none (not (nat_lt n 300000)) (ap not low);
      balance = once ∙ is_one (nat_lt n 300000) low;
    }

change_row : (plan : Plan) (n : ℕ) → 300000 ≤ n → times n (activity_accounts plan) ≡ 1 → HasRow plan n
change_row plan n l once = record { change = once ∙ is_one (not (nat_lt n 300000)) (at_change n l); balance = no_balance n l ∙ is_none (nat_lt n 300000) (at_balance n l) }

revenue_row : (plan : Plan) → HasOwnAccounts plan → (fund source : ℕ) → IsSourceOf plan fund source → HasRow plan (400000 + source)
revenue_row plan own fund source is =
    let one = one_source plan fund source own is in
    change_row plan (400000 + source) (omega arith)
    (four plan (400000 + source) 1 0 0 0 (once_by_id (λ (s : RevenueSource). s.id) 400000 source plan.sources one.once) (no_function plan (400000 + source) own (inl (omega (arith, one.low))))
    (no_donation plan (400000 + source) own (inl (omega (arith, one.low)))) (no_city (400000 + source) (λ e. omega (arith, e, one.low)) (λ e. omega (arith, e, one.low))))

current_row : (plan : Plan) → HasOwnAccounts plan → (function : ℕ) → IsFunction plan function → HasRow plan (500000 + function)
current_row plan own function is =
    let one = one_function plan function own is in
    change_row plan (500000 + function) (omega arith)
    (four plan (500000 + function) 0 1 0 0 (no_revenue plan (500000 + function) own (inr (omega arith))) (once_by_id (λ (f : Function). f.id) 500000 function plan.functions one.once)
    (no_donation plan (500000 + function) own (inr (omega arith))) (no_city (500000 + function) (λ e. omega (arith, e, one.low)) (λ e. omega (arith, e))))

donation_row : (plan : Plan) → HasOwnAccounts plan → (function : ℕ) → IsFunction plan function → HasRow plan (450000 + function)
donation_row plan own function is =
    let one = one_function plan function own is in
    change_row plan (450000 + function) (omega arith)
    (four plan (450000 + function) 0 0 1 0 (no_revenue plan (450000 + function) own (inr (omega arith))) (no_function plan (450000 + function) own (inl (omega (arith, one.low))))
    (once_by_id (λ (f : Function). f.id) 450000 function plan.functions one.once) (no_city (450000 + function) (λ e. omega (arith, e, one.low)) (λ e. omega (arith, e, one.low))))

city_row : (plan : Plan) → HasOwnAccounts plan → (n : ℕ) → (n < 500000) ⊎ (500000 + 999 < n) → 450000 + 999 < n → times n city_accounts ≡ 1 → HasRow plan n
city_row plan own n far l once =
    change_row plan n (omega (arith, l)) (four plan n 0 0 0 1 (no_revenue plan n own (inr (omega (arith, l)))) (no_function plan n own far) (no_donation plan n own (inr l)) once)

-- ---- each deed

one : (plan : Plan) (year account : ℕ) (amount : ℤ) → HasRow plan account → IsGovPost plan (post year 0 account amount)
one plan year account amount row = record { no_fund = refl; change = row.change; balance = row.balance }

two : (plan : Plan) (year a b : ℕ) (x y : ℤ) → HasRow plan a → HasRow plan b → AllByRecursion (IsGovPost plan) (post year 0 a x ∷ post year 0 b y ∷ [])
two plan year a b x y at_a at_b = (one plan year a x at_a, (one plan year b y at_b, tt))

spent_row : (plan : Plan) → HasOwnAccounts plan → (s : Spent) → IsSpent plan s → HasRow plan (expense s)
spent_row plan own (spent.Current f) is = current_row plan own f is
spent_row plan own spent.Capital is = balance_row plan own capital_assets refl refl

debt_row : (plan : Plan) → HasOwnAccounts plan → (is_lease : Bool) → HasRow plan (debt_of is_lease)
debt_row plan own true = balance_row plan own leases refl refl
debt_row plan own false = balance_row plan own bonds refl refl

deed_posts : (plan : Plan) → HasOwnAccounts plan → (d : Deed) → IsNamed plan d → AllByRecursion (IsGovPost plan) (gov_rows d)
deed_posts plan own (deed.Voucher i) is = two plan _ _ _ _ _ (spent_row plan own i.spent is.1) (balance_row plan own payables refl refl)
deed_posts plan own (deed.VoidVoucher i) is = two plan _ _ _ _ _ (spent_row plan own i.spent is.1) (balance_row plan own payables refl refl)
deed_posts plan own (deed.Pay a) is = two plan _ _ _ _ _ (balance_row plan own payables refl refl) (balance_row plan own cash refl refl)
deed_posts plan own (deed.Bill l) is = two plan _ _ _ _ _ (balance_row plan own receivables refl refl) (revenue_row plan own l.fund l.source is)
deed_posts plan own (deed.Collect c) is = two plan _ _ _ _ _ (balance_row plan own cash refl refl) (balance_row plan own receivables refl refl)
deed_posts plan own (deed.Receive s) is = two plan _ _ _ _ _ (balance_row plan own cash refl refl) (revenue_row plan own s.fund s.source is)
deed_posts plan own (deed.WriteOff s) is = two plan _ _ _ _ _ (revenue_row plan own s.fund s.source is) (balance_row plan own receivables refl refl)
deed_posts plan own (deed.Donate a) is = two plan _ _ _ _ _ (balance_row plan own capital_assets refl refl) (donation_row plan own a.function is)
deed_posts plan own (deed.Dispose d) is =
    let received : IsGovPost plan (debit d.year 0 cash d.proceeds) = one plan _ _ _ (balance_row plan own cash refl refl) in
    let worn : IsGovPost plan (debit d.year 0 depreciation d.depreciation) = one plan _ _ _ (balance_row plan own depreciation refl refl) in
    let gone : IsGovPost plan (credit d.year 0 capital_assets d.cost) = one plan _ _ _ (balance_row plan own capital_assets refl refl) in
    (received, (worn, (gone, two plan _ _ _ _ _ (city_row plan own gain (inl (omega arith)) (omega arith) refl) (current_row plan own d.function is.1))))
deed_posts plan own (deed.Issue a) is = two plan _ _ _ _ _ (balance_row plan own cash refl refl) (balance_row plan own bonds refl refl)
deed_posts plan own (deed.PayDue p) is =
    let on_principal : IsGovPost plan (debit p.due_year 0 (debt_of p.is_lease) p.principal) = one plan _ _ _ (debt_row plan own p.is_lease) in
    let on_interest : IsGovPost plan (debit p.due_year 0 accrued_interest p.interest) = one plan _ _ _ (balance_row plan own accrued_interest refl refl) in
    let due : HasRow plan debt_due = balance_row plan own debt_due refl refl in
    (on_principal, (on_interest, (one plan _ _ _ due, two plan _ _ _ _ _ due (balance_row plan own cash refl refl))))
deed_posts plan own (deed.EarnLeave a) is = two plan _ _ _ _ _ (current_row plan own a.function is) (balance_row plan own leave refl refl)
deed_posts plan own (deed.UseLeave a) is = two plan _ _ _ _ _ (balance_row plan own leave refl refl) (current_row plan own a.function is)
deed_posts plan own (deed.MatureLeave m) is = two plan _ _ _ _ _ (balance_row plan own leave refl refl) (balance_row plan own cash refl refl)
deed_posts plan own (deed.Transfer t) is = tt
deed_posts plan own (deed.Loan t) is = tt
deed_posts plan own (deed.Repay t) is = tt
deed_posts plan own (deed.Depreciate a) is = two plan _ _ _ _ _ (current_row plan own a.function is) (balance_row plan own depreciation refl refl)
deed_posts plan own (deed.Lease a) is = two plan _ _ _ _ _ (balance_row plan own right_to_use refl refl) (balance_row plan own leases refl refl)
deed_posts plan own (deed.Amortize a) is = two plan _ _ _ _ _ (current_row plan own a.function is) (balance_row plan own amortization refl refl)
deed_posts plan own (deed.AccrueInterest a) is = two plan _ _ _ _ _ (city_row plan own interest (inr (omega arith)) (omega arith) refl) (balance_row plan own accrued_interest refl refl)

-- ---- legal histories

gov_posts_step : (plan : Plan) → HasOwnAccounts plan → (h : List Entry) (e : Entry) → IsLegal plan h → AllByRecursion (IsGovPost plan) (posts_in GovBasis plan h) → Adds plan h e →
    AllByRecursion (IsGovPost plan) (posts_in GovBasis plan (h ++ e ∷ []))
gov_posts_step plan own h e legal posts adds =
    let a = accepted plan h e adds in
    let s = registers_of plan h in
    subst (AllByRecursion (IsGovPost plan)) (sym (posts_push GovBasis plan h e))
    (all_append (IsGovPost plan) (posts_in GovBasis plan h) (act_posts GovBasis plan s e.change.on e.change.act) posts
    (all_posts (IsGovPost plan) (IsNamed plan) GovBasis (deed_posts plan own) (deeds_of plan s e.change.on e.change.act)
    (deeds_named plan s (documents_of plan h) e.change.on e.change.act own (are_named plan h own legal) a.names a.register_names)))

pub gov_posts : (plan : Plan) (history : List Entry) → HasOwnAccounts plan → IsLegal plan history → AllByRecursion (IsGovPost plan) (posts_in GovBasis plan history)
gov_posts plan history own legal =
    (legal_induction plan (λ h. IsLegal plan h × AllByRecursion (IsGovPost plan) (posts_in GovBasis plan h)) (tt, tt)
    (λ h e has adds. (legal_push plan h e has.0 adds, gov_posts_step plan own h e has.0 has.1 adds)) history legal).1
