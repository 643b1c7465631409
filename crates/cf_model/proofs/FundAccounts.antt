-- The accounts that a fund has below 300000: its fund balance is what these come to.
use Rattle.std.proofs.Common.{◌≡◌, ◌⊎◌, inl, inr, ℕ, ◌+◌, ◌≤◌, ◌<◌, Bool, true, false, if◌then◌else◌, ◌==◌, ◌&&◌, nat_lt, nat_le, List, [], ◌∷◌, ℤ, pos, ◌+ℤ◌, refl, sym, ap, subst, ◌∙◌, arith}
use Rattle.cf_base.proofs.Common.{common_steps, ints, AllByRecursion}
use Rattle.cf_calls.specs.declared.entry.Entry.{Entry}
use Rattle.cf_calls.specs.declared.read.Basis.TheVariants.{Fund as FundBasis}
use Rattle.cf_chart.specs.Common.{Plan}
use Rattle.cf_ledger.specs.declared.post.Post.{Post}
use Rattle.cf_ledger.specs.Posts.{balance, is_in_total, sum_where}
use Rattle.cf_model.specs.Common.{deeds_of, balance_of, posts_after, posts_in, Registers, no_registers, registers_step, fund_balance}
use Rattle.cf_model.proofs.Posted.{all_posts}
use Rattle.cf_model.proofs.Tidy.{all_append}
use Rattle.cf_post.specs.declared.deed.Deed.{Deed}
use Rattle.cf_post.specs.declared.deed.Deed.TheVariants as deed
use Rattle.cf_post.specs.declared.deed.Spent.{Spent}
use Rattle.cf_post.specs.declared.deed.Spent.TheVariants as spent
use Rattle.cf_post.specs.Table.{expenditure, fund_rows}

-- ---- the accounts of fund posts: these seven, and accounts from 300000 on

abbrev IsFundAccount : ℕ → Type 0
IsFundAccount a = (300000 ≤ a) ⊎ ((a ≡ 100000) ⊎ ((a ≡ 110000) ⊎ ((a ≡ 120000) ⊎ ((a ≡ 200000) ⊎ ((a ≡ 210000) ⊎ ((a ≡ 220000) ⊎ (a ≡ 290000)))))))

cash : IsFundAccount 100000
cash = inr (inl refl)

receivables : IsFundAccount 110000
receivables = inr (inr (inl refl))

due_from : IsFundAccount 120000
due_from = inr (inr (inr (inl refl)))

payables : IsFundAccount 200000
payables = inr (inr (inr (inr (inl refl))))

debt_due : IsFundAccount 210000
debt_due = inr (inr (inr (inr (inr (inl refl)))))

due_to : IsFundAccount 220000
due_to = inr (inr (inr (inr (inr (inr (inl refl))))))

unavailable : IsFundAccount 290000
unavailable = inr (inr (inr (inr (inr (inr (inr refl))))))

revenue : (source : ℕ) → IsFundAccount (400000 + source)
revenue source = inl (omega arith)

current : (function : ℕ) → IsFundAccount (500000 + function)
current function = inl (omega arith)

outlay : (s : Spent) → IsFundAccount (expenditure s)
outlay (spent.Current f) = current f
outlay spent.Capital = inl (omega arith)

abbrev IsOfFund : Post → Type 0
IsOfFund p = IsFundAccount p.account

high : (n : ℕ) → IsFundAccount (600000 + n)
high n = inl (omega arith)

deed_accounts : (d : Deed) → Unit {0} → AllByRecursion IsOfFund (fund_rows d)
deed_accounts (deed.Voucher i) u = (outlay i.spent, (payables, tt))
deed_accounts (deed.VoidVoucher i) u = (outlay i.spent, (payables, tt))
deed_accounts (deed.Pay a) u = (payables, (cash, tt))
deed_accounts (deed.Bill l) u = (receivables, (unavailable, tt))
deed_accounts (deed.Collect c) u = (cash, (receivables, (unavailable, (revenue c.source, tt))))
deed_accounts (deed.Receive s) u = (cash, (revenue s.source, tt))
deed_accounts (deed.WriteOff s) u = (unavailable, (receivables, tt))
deed_accounts (deed.Donate a) u = tt
deed_accounts (deed.Dispose d) u = (cash, (high 3, tt))
deed_accounts (deed.Issue a) u = (cash, (high 2, tt))
deed_accounts (deed.PayDue p) u = (current 20000, (current 30000, (debt_due, (debt_due, (cash, tt)))))
deed_accounts (deed.EarnLeave a) u = tt
deed_accounts (deed.UseLeave a) u = tt
deed_accounts (deed.MatureLeave m) u = (current m.function, (cash, tt))
deed_accounts (deed.Transfer t) u = (high 10001, (cash, (cash, (high 1, tt))))
deed_accounts (deed.Loan t) u = (due_from, (cash, (cash, (due_to, tt))))
deed_accounts (deed.Repay t) u = (due_to, (cash, (cash, (due_from, tt))))
deed_accounts (deed.Depreciate a) u = tt
deed_accounts (deed.AccrueInterest a) u = tt
deed_accounts (deed.Lease a) u = (outlay spent.Capital, (high 4, tt))
deed_accounts (deed.Amortize a) u = tt

each : (deeds : List Deed) → AllByRecursion (λ (d : Deed). Unit {0}) deeds
each [] = tt
each (d ∷ deeds) = (tt, each deeds)

accounts_after : (plan : Plan) (s : Registers) (h : List Entry) → AllByRecursion IsOfFund (posts_after FundBasis plan s h)
accounts_after plan s [] = tt
accounts_after plan s (e ∷ h) =
    all_append IsOfFund _ (posts_after FundBasis plan (registers_step plan s e) h)
    (all_posts IsOfFund (λ (d : Deed). Unit {0}) FundBasis deed_accounts (deeds_of plan s e.change.on e.change.act) (each (deeds_of plan s e.change.on e.change.act)))
    (accounts_after plan (registers_step plan s e) h)

-- ---- their sum

-- what a post adds to an account of a fund through a year, by the tests of its fund, its account
-- and its year
abbrev part : Bool → Bool → Bool → ℤ → ℤ
part fund account year x = if (fund && account) && year then x else pos 0

abbrev seven : ℕ → Bool → Bool → ℤ → ℤ
seven a f y x =
    ((part f (a == 100000) y x +ℤ part f (a == 110000) y x) +ℤ part f (a == 120000) y x)
    +ℤ (((part f (a == 200000) y x +ℤ part f (a == 210000) y x) +ℤ part f (a == 220000) y x) +ℤ part f (a == 290000) y x)

abbrev whole : ℕ → Bool → Bool → ℤ → ℤ
whole a f y x = part f (nat_lt a 300000) y x

abbrev Agree : ℕ → Type 0
Agree a = (f y : Bool) (x : ℤ) → seven a f y x ≡ whole a f y x

at_cash : Agree 100000
at_cash true true x = omega (arith, ints)
at_cash true false x = refl
at_cash false y x = refl

at_receivables : Agree 110000
at_receivables true true x = omega (arith, ints)
at_receivables true false x = refl
at_receivables false y x = refl

at_due_from : Agree 120000
at_due_from true true x = omega (arith, ints)
at_due_from true false x = refl
at_due_from false y x = refl

at_payables : Agree 200000
at_payables true true x = omega (arith, ints)
at_payables true false x = refl
at_payables false y x = refl

at_debt_due : Agree 210000
at_debt_due true true x = omega (arith, ints)
at_debt_due true false x = refl
at_debt_due false y x = refl

at_due_to : Agree 220000
at_due_to true true x = omega (arith, ints)
at_due_to true false x = refl
at_due_to false y x = refl

at_unavailable : Agree 290000
at_unavailable true true x = omega (arith, ints)
at_unavailable true false x = refl
at_unavailable false y x = refl

other : (a c : ℕ) → c < 300000 → 300000 ≤ a → (a == c) ≡ false
other a c l m = grind (arith, common_steps)

not_below : (a : ℕ) → 300000 ≤ a → nat_lt a 300000 ≡ false
not_below a l = grind (arith, common_steps)

at_above : (a : ℕ) → 300000 ≤ a → Agree a
at_above a l f y x =
    let c1 : (a == 100000) ≡ false = other a 100000 (omega arith) l in
    let c2 : (a == 110000) ≡ false = other a 110000 (omega arith) l in
    let c3 : (a == 120000) ≡ false = other a 120000 (omega arith) l in
    let c4 : (a == 200000) ≡ false = other a 200000 (omega arith) l in
    let c5 : (a == 210000) ≡ false = other a 210000 (omega arith) l in
    let c6 : (a == 220000) ≡ false = other a 220000 (omega arith) l in
    let c7 : (a == 290000) ≡ false = other a 290000 (omega arith) l in
    (λ i. ((part f (c1 i) y x +ℤ part f (c2 i) y x) +ℤ part f (c3 i) y x)
    +ℤ (((part f (c4 i) y x +ℤ part f (c5 i) y x) +ℤ part f (c6 i) y x) +ℤ part f (c7 i) y x))
    ∙ none f y ∙ ap (λ b. part f b y x) (sym (not_below a l))
  where
    none : (f y : Bool) → ((part f false y x +ℤ part f false y x) +ℤ part f false y x) +ℤ (((part f false y x +ℤ part f false y x) +ℤ part f false y x) +ℤ part f false y x) ≡ part f false y x
    none true y = refl
    none false y = refl

agrees : (a : ℕ) → IsFundAccount a → Agree a
agrees a (inl l) = at_above a l
agrees a (inr (inl e)) = subst Agree (sym e) at_cash
agrees a (inr (inr (inl e))) = subst Agree (sym e) at_receivables
agrees a (inr (inr (inr (inl e)))) = subst Agree (sym e) at_due_from
agrees a (inr (inr (inr (inr (inl e))))) = subst Agree (sym e) at_payables
agrees a (inr (inr (inr (inr (inr (inl e)))))) = subst Agree (sym e) at_debt_due
agrees a (inr (inr (inr (inr (inr (inr (inl e))))))) = subst Agree (sym e) at_due_to
agrees a (inr (inr (inr (inr (inr (inr (inr e))))))) = subst Agree (sym e) at_unavailable

regroup : (a b c d e f g s t u v w x y : ℤ) →
    (((a +ℤ s) +ℤ (b +ℤ t)) +ℤ (c +ℤ u)) +ℤ ((((d +ℤ v) +ℤ (e +ℤ w)) +ℤ (f +ℤ x)) +ℤ (g +ℤ y))
    ≡ (((a +ℤ b) +ℤ c) +ℤ (((d +ℤ e) +ℤ f) +ℤ g)) +ℤ (((s +ℤ t) +ℤ u) +ℤ (((v +ℤ w) +ℤ x) +ℤ y))
regroup a b c d e f g s t u v w x y = omega (arith, ints)

sums : (posts : List Post) (year fund : ℕ) → AllByRecursion IsOfFund posts →
    ((balance posts year fund 100000 +ℤ balance posts year fund 110000) +ℤ balance posts year fund 120000)
    +ℤ (((balance posts year fund 200000 +ℤ balance posts year fund 210000) +ℤ balance posts year fund 220000) +ℤ balance posts year fund 290000)
    ≡ sum_where (λ p. ((p.fund == fund) && is_in_total p) && nat_le p.year year) posts
sums [] year fund all = refl
sums (p ∷ posts) year fund all =
    regroup _ _ _ _ _ _ _ (balance posts year fund 100000) (balance posts year fund 110000) (balance posts year fund 120000)
    (balance posts year fund 200000) (balance posts year fund 210000) (balance posts year fund 220000) (balance posts year fund 290000)
    ∙ (λ i. agrees p.account all.0 (p.fund == fund) (nat_le p.year year) p.amount i +ℤ sums posts year fund all.1 i)

-- what a fund has, and what it owes with its unavailable revenue, is its fund balance
pub fund_balance_is : (plan : Plan) (year fund : ℕ) (h : List Entry) →
    ((balance_of FundBasis plan year fund 100000 h +ℤ balance_of FundBasis plan year fund 110000 h) +ℤ balance_of FundBasis plan year fund 120000 h)
    +ℤ (((balance_of FundBasis plan year fund 200000 h +ℤ balance_of FundBasis plan year fund 210000 h) +ℤ balance_of FundBasis plan year fund 220000 h)
    +ℤ balance_of FundBasis plan year fund 290000 h)
    ≡ fund_balance plan year fund h
fund_balance_is plan year fund h = sums (posts_in FundBasis plan h) year fund (accounts_after plan no_registers h)
