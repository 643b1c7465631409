-- What each deed adds to each item of the summary reconciliation, and that its posts on the item's
-- own accounts come to that.
use Rattle.std.proofs.Common.{◌≡◌, ℕ, ◌+◌, ◌-◌, ◌<◌, ◌≤◌, ◌&&◌, Bool, true, false, if◌then◌else◌, ◌==◌, nat_le, List, [], ◌∷◌, ℤ, pos, ◌+ℤ◌, ◌-ℤ◌, refl, sym, ap, ◌∙◌, arith}
use Rattle.cf_base.proofs.Common.{ints}
use Rattle.cf_ledger.specs.declared.post.Post.{Post}
use Rattle.cf_ledger.specs.Posts.{sum_where}
use Rattle.cf_model.specs.Common.{int_sum, through}
use Rattle.cf_model.proofs.Common.{capital_part, to_absences, to_accrued, to_bonds, to_capital, to_deferred, to_items, none_first, none_last}
use Rattle.cf_post.specs.declared.deed.Deed.{Deed}
use Rattle.cf_post.specs.declared.deed.Deed.TheVariants.{Voucher, VoidVoucher, Bill, Collect, Receive, WriteOff, Donate, Dispose, Issue, PayDue, EarnLeave, UseLeave, MatureLeave, Depreciate, AccrueInterest, Lease, Amortize}
use Rattle.cf_post.specs.declared.deed.DuePayment.{DuePayment}
use Rattle.cf_post.specs.declared.deed.Spent.{Spent}
use Rattle.cf_post.specs.declared.deed.Spent.TheVariants.{Current, Capital}
use Rattle.cf_post.specs.Accounts as account
use Rattle.cf_post.specs.Rows.{credit, debit, double, turned}
use Rattle.cf_post.specs.Table.{debt_of, due_rows, expenditure, expense, fund_rows, gov_rows}
use Rattle.cf_model_articulation.proofs.Counts.{other_numbers}

-- ---- what a deed adds to each item through a year

-- capital assets that the city owns, and right-to-use assets
abbrev pub to_owned : ℕ → Deed → ℤ
to_owned year (Voucher i) = through year i.voucher_year (pos (capital_part i.spent i.amount))
to_owned year (VoidVoucher i) = through year i.voucher_year (pos 0 -ℤ pos (capital_part i.spent i.amount))
to_owned year (Donate a) = through year a.year (pos a.amount)
to_owned year (Dispose d) = through year d.year (pos d.depreciation -ℤ pos d.cost)
to_owned year (Depreciate a) = through year a.year (pos 0 -ℤ pos a.amount)
to_owned year _ = pos 0

abbrev pub to_leased : ℕ → Deed → ℤ
to_leased year (Lease a) = through year a.year (pos a.amount)
to_leased year (Amortize a) = through year a.year (pos 0 -ℤ pos a.amount)
to_leased year _ = pos 0

-- the principal of a payment is of a lease or of a bond
abbrev pub lease_part : DuePayment → ℕ
lease_part p = if p.is_lease then p.principal else 0

abbrev pub bond_part : DuePayment → ℕ
bond_part p = if p.is_lease then 0 else p.principal

abbrev pub to_issues : ℕ → Deed → ℤ
to_issues year (Issue a) = through year a.year (pos a.amount)
to_issues year (PayDue p) = through year p.due_year (pos 0 -ℤ pos (bond_part p))
to_issues year _ = pos 0

abbrev pub to_leases : ℕ → Deed → ℤ
to_leases year (Lease a) = through year a.year (pos a.amount)
to_leases year (PayDue p) = through year p.due_year (pos 0 -ℤ pos (lease_part p))
to_leases year _ = pos 0

-- ---- government-wide posts below 300000

abbrev pub at : ℕ → ℕ → Post → Bool
at year n p = ((p.fund == 0) && (p.account == n)) && nat_le p.year year

-- those of each deed: a voucher's on capital assets, and a payment's on leases or on bonds, may be
-- of zero
abbrev low : Deed → List Post
low (Voucher i) = double i.voucher_year 0 account.capital_assets account.payables (capital_part i.spent i.amount)
low (VoidVoucher i) = turned i.voucher_year 0 account.capital_assets account.payables (capital_part i.spent i.amount)
low (Bill l) = debit l.levy_year 0 account.receivables l.amount ∷ []
low (Receive s) = debit s.year 0 account.cash s.amount ∷ []
low (WriteOff s) = credit s.year 0 account.receivables s.amount ∷ []
low (Donate a) = debit a.year 0 account.capital_assets a.amount ∷ []
low (Dispose d) = debit d.year 0 account.cash d.proceeds ∷ debit d.year 0 account.depreciation d.depreciation ∷ credit d.year 0 account.capital_assets d.cost ∷ []
low (PayDue p) =
    debit p.due_year 0 account.leases (lease_part p) ∷ debit p.due_year 0 account.bonds (bond_part p) ∷ debit p.due_year 0 account.accrued_interest p.interest
    ∷ credit p.due_year 0 account.debt_due (p.principal + p.interest) ∷ double p.year 0 account.debt_due account.cash (p.principal + p.interest)
low (EarnLeave a) = credit a.year 0 account.leave a.amount ∷ []
low (UseLeave a) = debit a.year 0 account.leave a.amount ∷ []
low (Depreciate a) = credit a.year 0 account.depreciation a.amount ∷ []
low (AccrueInterest a) = credit a.year 0 account.accrued_interest a.amount ∷ []
low (Amortize a) = credit a.year 0 account.amortization a.amount ∷ []
low d = gov_rows d

-- a post on another account adds nothing
pub skip : (a n : ℕ) (b : Bool) (x z : ℤ) → (a ≡ n → ⊥) → (if (a == n) && b then x else pos 0) +ℤ z ≡ z
skip a n b x z e = ap (λ t. (if t && b then x else pos 0) +ℤ z) (other_numbers a n e) ∙ none_first z

no_amount : (t b : Bool) (z : ℤ) → (if t && b then pos 0 else pos 0) +ℤ z ≡ z
no_amount true true z = none_first z
no_amount true false z = none_first z
no_amount false b z = none_first z

-- the accounts below 300000 but payables: what a voucher owes is no item
record IsLow (n : ℕ) : Type 0 where
  below : n < 300000
  other : account.payables ≡ n → ⊥

not_high : (n base id : ℕ) → IsLow n → 300000 ≤ base → base + id ≡ n → ⊥
not_high n base id is l e = omega (arith, is.below, l, e)

spent_low : (year n of m : ℕ) (s : Spent) → IsLow n →
    sum_where (at year n) (double of 0 (expense s) account.payables m) ≡ sum_where (at year n) (double of 0 account.capital_assets account.payables (capital_part s m))
spent_low year n of m (Current function) is =
    skip (500000 + function) n (nat_le of year) (pos m) _ (not_high n 500000 function is (omega arith))
    ∙ skip account.payables n (nat_le of year) (pos 0 -ℤ pos m) (pos 0) is.other
    ∙ sym (no_amount (account.capital_assets == n) (nat_le of year) _ ∙ skip account.payables n (nat_le of year) (pos 0) (pos 0) is.other)
spent_low year n of m Capital is = refl

unspent_low : (year n of m : ℕ) (s : Spent) → IsLow n →
    sum_where (at year n) (turned of 0 (expense s) account.payables m) ≡ sum_where (at year n) (turned of 0 account.capital_assets account.payables (capital_part s m))
unspent_low year n of m (Current function) is =
    skip (500000 + function) n (nat_le of year) (pos 0 -ℤ pos m) _ (not_high n 500000 function is (omega arith))
    ∙ skip account.payables n (nat_le of year) (pos m) (pos 0) is.other
    ∙ sym (no_amount (account.capital_assets == n) (nat_le of year) _ ∙ skip account.payables n (nat_le of year) (pos 0) (pos 0) is.other)
unspent_low year n of m Capital is = refl

due_low : (year n : ℕ) (p : DuePayment) (is_lease : Bool) →
    sum_where (at year n) (due_rows p 0 (debt_of is_lease) account.accrued_interest) ≡ sum_where (at year n) (low (PayDue (record p { is_lease = is_lease })))
due_low year n p true = ap (λ z. (if (account.leases == n) && nat_le p.due_year year then pos p.principal else pos 0) +ℤ z) (sym (no_amount (account.bonds == n) (nat_le p.due_year year) _))
due_low year n p false = sym (no_amount (account.leases == n) (nat_le p.due_year year) _)

-- what a deed posts on one of these accounts
low_is : (year n : ℕ) → IsLow n → (d : Deed) → sum_where (at year n) (gov_rows d) ≡ sum_where (at year n) (low d)
low_is year n is (Voucher i) = spent_low year n i.voucher_year i.amount i.spent is
low_is year n is (VoidVoucher i) = unspent_low year n i.voucher_year i.amount i.spent is
low_is year n is (Bill l) =
    ap (λ z. (if (account.receivables == n) && nat_le l.levy_year year then pos l.amount else pos 0) +ℤ z)
    (skip (400000 + l.source) n (nat_le l.levy_year year) (pos 0 -ℤ pos l.amount) (pos 0) (not_high n 400000 l.source is (omega arith)))
low_is year n is (Receive s) =
    ap (λ z. (if (account.cash == n) && nat_le s.year year then pos s.amount else pos 0) +ℤ z)
    (skip (400000 + s.source) n (nat_le s.year year) (pos 0 -ℤ pos s.amount) (pos 0) (not_high n 400000 s.source is (omega arith)))
low_is year n is (WriteOff s) = skip (400000 + s.source) n (nat_le s.year year) (pos s.amount) _ (not_high n 400000 s.source is (omega arith))
low_is year n is (Donate a) =
    ap (λ z. (if (account.capital_assets == n) && nat_le a.year year then pos a.amount else pos 0) +ℤ z)
    (skip (450000 + a.function) n (nat_le a.year year) (pos 0 -ℤ pos a.amount) (pos 0) (not_high n 450000 a.function is (omega arith)))
low_is year n is (Dispose d) =
    let now : Bool = nat_le d.year year in
    ap (λ z. (if (account.cash == n) && now then pos d.proceeds else pos 0) +ℤ ((if (account.depreciation == n) && now then pos d.depreciation else pos 0)
    +ℤ ((if (account.capital_assets == n) && now then pos 0 -ℤ pos d.cost else pos 0) +ℤ z)))
    (skip 460000 n now (pos 0 -ℤ pos (d.proceeds + d.depreciation - d.cost)) _ (λ e. omega (arith, is.below, e))
    ∙ skip (500000 + d.function) n now (pos (d.cost - (d.proceeds + d.depreciation))) (pos 0) (not_high n 500000 d.function is (omega arith)))
low_is year n is (PayDue p) = due_low year n p p.is_lease
low_is year n is (EarnLeave a) = skip (500000 + a.function) n (nat_le a.year year) (pos a.amount) _ (not_high n 500000 a.function is (omega arith))
low_is year n is (UseLeave a) =
    ap (λ z. (if (account.leave == n) && nat_le a.year year then pos a.amount else pos 0) +ℤ z)
    (skip (500000 + a.function) n (nat_le a.year year) (pos 0 -ℤ pos a.amount) (pos 0) (not_high n 500000 a.function is (omega arith)))
low_is year n is (Depreciate a) = skip (500000 + a.function) n (nat_le a.year year) (pos a.amount) _ (not_high n 500000 a.function is (omega arith))
low_is year n is (AccrueInterest a) = skip 530000 n (nat_le a.year year) (pos a.amount) _ (λ e. omega (arith, is.below, e))
low_is year n is (Amortize a) = skip (500000 + a.function) n (nat_le a.year year) (pos a.amount) _ (not_high n 500000 a.function is (omega arith))
low_is year n is d = refl

-- ---- each item's accounts

abbrev part : Bool → ℤ → ℤ
part b a = if b then a else pos 0

sold : (b : Bool) (p c : ℕ) →
    (pos 0 +ℤ (pos 0 +ℤ (part b (pos 0 -ℤ pos c) +ℤ pos 0))) +ℤ (pos 0 +ℤ (part b (pos p) +ℤ pos 0)) ≡ part b (pos p -ℤ pos c)
sold true p c = omega (arith, ints)
sold false p c = refl

second : (x : ℤ) → pos 0 +ℤ (x +ℤ pos 0) ≡ x
second x = omega (arith, ints)

twice : (x : ℤ) → (x +ℤ pos 0) +ℤ pos 0 ≡ x
twice x = omega (arith, ints)

owned_low : (year : ℕ) (d : Deed) → sum_where (at year 150000) (low d) +ℤ sum_where (at year 159000) (low d) ≡ to_owned year d
owned_low year (Voucher i) = twice _
owned_low year (VoidVoucher i) = twice _
owned_low year (Donate a) = twice _
owned_low year (Dispose d) = sold (nat_le d.year year) d.depreciation d.cost
owned_low year (Depreciate a) = second _
owned_low year _ = refl

leased_low : (year : ℕ) (d : Deed) → sum_where (at year 151000) (low d) +ℤ sum_where (at year 159100) (low d) ≡ to_leased year d
leased_low year (Lease a) = twice _
leased_low year (Amortize a) = second _
leased_low year _ = refl

-- a credit, and a debit, alone or behind others
pub owes : (b : Bool) (m : ℕ) → part b (pos 0 -ℤ pos m) +ℤ pos 0 ≡ pos 0 -ℤ part b (pos m)
owes true m = omega (arith, ints)
owes false m = refl

owes_second : (b : Bool) (m : ℕ) → pos 0 +ℤ (part b (pos 0 -ℤ pos m) +ℤ pos 0) ≡ pos 0 -ℤ part b (pos m)
owes_second true m = omega (arith, ints)
owes_second false m = refl

pub pays : (b : Bool) (m : ℕ) → part b (pos m) +ℤ pos 0 ≡ pos 0 -ℤ part b (pos 0 -ℤ pos m)
pays true m = omega (arith, ints)
pays false m = refl

pays_second : (b : Bool) (m : ℕ) → pos 0 +ℤ (part b (pos m) +ℤ pos 0) ≡ pos 0 -ℤ part b (pos 0 -ℤ pos m)
pays_second true m = omega (arith, ints)
pays_second false m = refl

pays_third : (b : Bool) (m : ℕ) → pos 0 +ℤ (pos 0 +ℤ (part b (pos m) +ℤ pos 0)) ≡ pos 0 -ℤ part b (pos 0 -ℤ pos m)
pays_third true m = omega (arith, ints)
pays_third false m = refl

issues_low : (year : ℕ) (d : Deed) → sum_where (at year 250000) (low d) ≡ pos 0 -ℤ to_issues year d
issues_low year (Issue a) = owes_second (nat_le a.year year) a.amount
issues_low year (PayDue p) = pays_second (nat_le p.due_year year) (bond_part p)
issues_low year _ = refl

leases_low : (year : ℕ) (d : Deed) → sum_where (at year 251000) (low d) ≡ pos 0 -ℤ to_leases year d
leases_low year (Lease a) = owes_second (nat_le a.year year) a.amount
leases_low year (PayDue p) = pays (nat_le p.due_year year) (lease_part p)
leases_low year _ = refl

accrued_low : (year : ℕ) (d : Deed) → sum_where (at year 260000) (low d) ≡ pos 0 -ℤ to_accrued year d
accrued_low year (AccrueInterest a) = owes (nat_le a.year year) a.amount
accrued_low year (PayDue p) = pays_third (nat_le p.due_year year) p.interest
accrued_low year _ = refl

absences_low : (year : ℕ) (d : Deed) → sum_where (at year 270000) (low d) ≡ pos 0 -ℤ to_absences year d
absences_low year (EarnLeave a) = owes (nat_le a.year year) a.amount
absences_low year (UseLeave a) = pays (nat_le a.year year) a.amount
absences_low year (MatureLeave m) = pays (nat_le m.year year) m.amount
absences_low year _ = refl

abbrev pub on : ℕ → ℕ → Deed → ℤ
on year n d = sum_where (at year n) (gov_rows d)

lows : (n : ℕ) → n < 300000 → (account.payables ≡ n → ⊥) → IsLow n
lows n l e = record { below = l; other = e }

pub owned_on : (year : ℕ) (d : Deed) → on year 150000 d +ℤ on year 159000 d ≡ to_owned year d
owned_on year d =
    (λ i. low_is year 150000 (lows 150000 (omega arith) (λ e. omega (arith, e))) d i +ℤ low_is year 159000 (lows 159000 (omega arith) (λ e. omega (arith, e))) d i) ∙ owned_low year d

pub leased_on : (year : ℕ) (d : Deed) → on year 151000 d +ℤ on year 159100 d ≡ to_leased year d
leased_on year d =
    (λ i. low_is year 151000 (lows 151000 (omega arith) (λ e. omega (arith, e))) d i +ℤ low_is year 159100 (lows 159100 (omega arith) (λ e. omega (arith, e))) d i) ∙ leased_low year d

pub issues_on : (year : ℕ) (d : Deed) → on year 250000 d ≡ pos 0 -ℤ to_issues year d
issues_on year d = low_is year 250000 (lows 250000 (omega arith) (λ e. omega (arith, e))) d ∙ issues_low year d

pub leases_on : (year : ℕ) (d : Deed) → on year 251000 d ≡ pos 0 -ℤ to_leases year d
leases_on year d = low_is year 251000 (lows 251000 (omega arith) (λ e. omega (arith, e))) d ∙ leases_low year d

pub accrued_on : (year : ℕ) (d : Deed) → on year 260000 d ≡ pos 0 -ℤ to_accrued year d
accrued_on year d = low_is year 260000 (lows 260000 (omega arith) (λ e. omega (arith, e))) d ∙ accrued_low year d

pub absences_on : (year : ℕ) (d : Deed) → on year 270000 d ≡ pos 0 -ℤ to_absences year d
absences_on year d = low_is year 270000 (lows 270000 (omega arith) (λ e. omega (arith, e))) d ∙ absences_low year d

-- ---- unavailable revenue, which is the funds'

abbrev pub unavailable_at : ℕ → Post → Bool
unavailable_at year p = (p.account == 290000) && nat_le p.year year

skips : (a : ℕ) (b : Bool) (x z : ℤ) → 300000 ≤ a → (if (a == 290000) && b then x else pos 0) +ℤ z ≡ z
skips a b x z l = skip a 290000 b x z (λ e. omega (arith, e, l))

spends : (s : Spent) → 300000 ≤ expenditure s
spends (Current function) = omega arith
spends Capital = omega arith

pub unavailable_on : (year : ℕ) (d : Deed) → sum_where (unavailable_at year) (fund_rows d) ≡ pos 0 -ℤ to_deferred year d
unavailable_on year (Voucher i) = skips (expenditure i.spent) (nat_le i.voucher_year year) (pos i.amount) (pos 0) (spends i.spent)
unavailable_on year (VoidVoucher i) = skips (expenditure i.spent) (nat_le i.voucher_year year) (pos 0 -ℤ pos i.amount) (pos 0) (spends i.spent)
unavailable_on year (Bill l) = owes_second (nat_le l.levy_year year) l.amount
unavailable_on year (Collect c) =
    ap (λ z. pos 0 +ℤ (pos 0 +ℤ (part (nat_le c.recognised_year year) (pos c.amount) +ℤ z)))
    (skips (400000 + c.source) (nat_le c.recognised_year year) (pos 0 -ℤ pos c.amount) (pos 0) (omega arith))
    ∙ pays_third (nat_le c.recognised_year year) c.amount
unavailable_on year (Receive s) =
    ap (λ z. pos 0 +ℤ z) (skips (400000 + s.source) (nat_le s.year year) (pos 0 -ℤ pos s.amount) (pos 0) (omega arith))
unavailable_on year (WriteOff s) = pays (nat_le s.year year) s.amount
unavailable_on year (MatureLeave m) = skips (500000 + m.function) (nat_le m.year year) (pos m.amount) (pos 0) (omega arith)
unavailable_on year _ = refl

-- ---- the items together

capital_is : (year : ℕ) (d : Deed) → to_capital year d ≡ to_owned year d +ℤ to_leased year d
capital_is year (Voucher i) = sym (none_last _)
capital_is year (VoidVoucher i) = sym (none_last _)
capital_is year (Donate a) = sym (none_last _)
capital_is year (Dispose d) = sym (none_last _)
capital_is year (Depreciate a) = sym (none_last _)
capital_is year (Lease a) = sym (none_first _)
capital_is year (Amortize a) = sym (none_first _)
capital_is year _ = refl

owed_is : (year : ℕ) (d : Deed) → to_bonds year d ≡ to_issues year d +ℤ to_leases year d
owed_is year (Issue a) = sym (none_last _)
owed_is year (Lease a) = sym (none_first _)
owed_is year (PayDue p) = by p.is_lease (nat_le p.due_year year)
  where
    by : (is_lease now : Bool) →
        part now (pos 0 -ℤ pos p.principal) ≡ part now (pos 0 -ℤ pos (if is_lease then 0 else p.principal)) +ℤ part now (pos 0 -ℤ pos (if is_lease then p.principal else 0))
    by true true = sym (none_first _)
    by false true = sym (none_last _)
    by true false = refl
    by false false = refl
owed_is year _ = refl

pub items_sum : (year : ℕ) (deeds : List Deed) →
    int_sum (to_items year) deeds
    ≡ (((int_sum (to_owned year) deeds +ℤ int_sum (to_leased year) deeds) +ℤ int_sum (to_deferred year) deeds)
    -ℤ ((int_sum (to_issues year) deeds +ℤ int_sum (to_leases year) deeds) +ℤ int_sum (to_accrued year) deeds)) -ℤ int_sum (to_absences year) deeds
items_sum year [] = refl
items_sum year (d ∷ deeds) =
    more (to_capital year d) (to_owned year d) (to_leased year d) (to_deferred year d) (to_bonds year d) (to_issues year d) (to_leases year d) (to_accrued year d) (to_absences year d)
    (int_sum (to_items year) deeds) (int_sum (to_owned year) deeds) (int_sum (to_leased year) deeds) (int_sum (to_deferred year) deeds)
    (int_sum (to_issues year) deeds) (int_sum (to_leases year) deeds) (int_sum (to_accrued year) deeds) (int_sum (to_absences year) deeds)
    (capital_is year d) (owed_is year d) (items_sum year deeds)
  where
    more : (k c u f o b l a w t c2 u2 f2 b2 l2 a2 w2 : ℤ) → k ≡ c +ℤ u → o ≡ b +ℤ l → t ≡ (((c2 +ℤ u2) +ℤ f2) -ℤ ((b2 +ℤ l2) +ℤ a2)) -ℤ w2 →
        (((k +ℤ f) -ℤ (o +ℤ a)) -ℤ w) +ℤ t ≡ ((((c +ℤ c2) +ℤ (u +ℤ u2)) +ℤ (f +ℤ f2)) -ℤ (((b +ℤ b2) +ℤ (l +ℤ l2)) +ℤ (a +ℤ a2))) -ℤ (w +ℤ w2)
    more k c u f o b l a w t c2 u2 f2 b2 l2 a2 w2 e g h = omega (arith, ints, e, g, h)
