-- Two changes are the same call exactly where they are equal but for `after`.
use Rattle.std.proofs.Common.{◌≡◌, ℕ, Bool, true, false, ◌==◌, ◌&&◌, nat_eq, List, [], ◌∷◌, Option, Some, None, ℤ, refl, ap, subst, Decides, int_eq}
use Rattle.cf_base.proofs.Common.{eqb-true, eq-eqb, and_from, Decides-int_eq, pointwise}
use Rattle.cf_base.specs.declared.calendar.Day.{Day}
use Rattle.cf_calls.specs.declared.acts.Act.{Act}
use Rattle.cf_calls.specs.declared.acts.Act.TheVariants.{Adopt, Amend, Transfer, Requisition, Withdraw, Order, ChangeOrder, CancelOrder, Voucher, VoidVoucher, Pay, Bill, Collect, Receive, WriteOff, Asset, Issue, PayDue, Leave, Interfund, Close, Lease}
use Rattle.cf_calls.specs.declared.acts.Adoption.{Adoption}
use Rattle.cf_calls.specs.declared.acts.Amendment.{Amendment}
use Rattle.cf_calls.specs.declared.acts.LineTransfer.{LineTransfer}
use Rattle.cf_calls.specs.declared.acts.NewLease.{NewLease}
use Rattle.cf_calls.specs.declared.acts.NewOrder.{NewOrder}
use Rattle.cf_calls.specs.declared.acts.OrderChange.{OrderChange}
use Rattle.cf_calls.specs.declared.acts.NewVoucher.{NewVoucher}
use Rattle.cf_calls.specs.declared.acts.NewBill.{NewBill}
use Rattle.cf_calls.specs.declared.acts.BillAmount.{BillAmount}
use Rattle.cf_calls.specs.declared.acts.AssetAct.{AssetAct}
use Rattle.cf_calls.specs.declared.acts.AssetAct.TheVariants.{Donate, Dispose}
use Rattle.cf_calls.specs.declared.acts.BondIssue.{BondIssue}
use Rattle.cf_calls.specs.declared.acts.DebtPayment.{DebtPayment}
use Rattle.cf_calls.specs.declared.acts.LeaveAct.{LeaveAct}
use Rattle.cf_calls.specs.declared.acts.LeaveAct.TheVariants.{Earn, Use, Mature}
use Rattle.cf_calls.specs.declared.acts.LeaveAmount.{LeaveAmount}
use Rattle.cf_calls.specs.declared.acts.FundMove.{FundMove}
use Rattle.cf_calls.specs.declared.acts.FundMoveKind.{FundMoveKind}
use Rattle.cf_calls.specs.declared.acts.FundMoveKind.TheVariants as move
use Rattle.cf_calls.specs.declared.acts.Terms.{Terms}
use Rattle.cf_calls.specs.declared.acts.Period.{Period}
use Rattle.cf_calls.specs.declared.acts.Period.TheVariants as period
use Rattle.cf_calls.specs.declared.call.Change.{Change}
use Rattle.cf_calls.specs.declared.items.LineAmount.{LineAmount}
use Rattle.cf_calls.specs.declared.items.SourceAmount.{SourceAmount}
use Rattle.cf_calls.specs.declared.items.AccountItem.{AccountItem}
use Rattle.cf_calls.specs.declared.items.VoucherItem.{VoucherItem}
use Rattle.cf_calls.specs.declared.items.Charge.{Charge}
use Rattle.cf_calls.specs.declared.items.Charge.TheVariants.{Direct, OnOrder}
use Rattle.cf_calls.specs.declared.items.Liquidation.{Liquidation}
use Rattle.cf_calls.specs.declared.items.Liquidation.TheVariants.{Lesser, Recorded, Final}
use Rattle.cf_calls.specs.Common.{is_line_amount, is_source_amount, is_account_item, is_liquidation, is_charge, is_voucher_item, same_option, same_flag, same_adoption, same_amendment, same_transfer, same_order, same_order_change, same_voucher, same_bill, same_bill_amount, same_asset_act, same_terms, same_issue, same_debt_payment, same_leave_amount, same_leave_act, same_move_kind, same_fund_move, same_period, same_lease, same_act, same_day, same_call}

-- ---- tests, one after another

both : (a b : Bool) → (a && b) ≡ true → (a ≡ true) × (b ≡ true)
both true b e = (refl, e)
both false b e = cc

all3 : (p q r : Bool) → (p && q && r) ≡ true → (p ≡ true) × (q ≡ true) × (r ≡ true)
all3 p q r h =
    let last = both (p && q) r h in
    let first = both p q last.0 in
    (first.0, first.1, last.1)

all4 : (p q r s : Bool) → (p && q && r && s) ≡ true → (p ≡ true) × (q ≡ true) × (r ≡ true) × (s ≡ true)
all4 p q r s h =
    let last = both (p && q && r) s h in
    let first = all3 p q r last.0 in
    (first.0, first.1, first.2, last.1)

all5 : (p q r s t : Bool) → (p && q && r && s && t) ≡ true → (p ≡ true) × (q ≡ true) × (r ≡ true) × (s ≡ true) × (t ≡ true)
all5 p q r s t h =
    let last = both (p && q && r && s) t h in
    let first = all4 p q r s last.0 in
    (first.0, first.1, first.2, first.3, last.1)

all6 : (p q r s t u : Bool) → (p && q && r && s && t && u) ≡ true → (p ≡ true) × (q ≡ true) × (r ≡ true) × (s ≡ true) × (t ≡ true) × (u ≡ true)
all6 p q r s t u h =
    let last = both (p && q && r && s && t) u h in
    let first = all5 p q r s t last.0 in
    (first.0, first.1, first.2, first.3, first.4, last.1)

number : (a b : ℕ) → (a == b) ≡ true → a ≡ b
number = eqb-true

integer : (a b : ℤ) → int_eq a b ≡ true → a ≡ b
integer a b e = (Decides-int_eq a b).0 e

each : {X : Type 0} (E : X → X → Bool) → ((a b : X) → E a b ≡ true → a ≡ b) → (xs ys : List X) → pointwise E xs ys ≡ true → xs ≡ ys
each E h [] [] e = refl
each E h [] (y ∷ ys) e = cc
each E h (x ∷ xs) [] e = cc
each E h (x ∷ xs) (y ∷ ys) e = let p = both (E x y) (pointwise E xs ys) e in λ i. h x y p.0 i ∷ each E h xs ys p.1 i

numbers : (xs ys : List ℕ) → pointwise nat_eq xs ys ≡ true → xs ≡ ys
numbers = each nat_eq number

-- a number, an integer and a list equal themselves
number-same : (n : ℕ) → (n == n) ≡ true
number-same n = eq-eqb n n refl

integer-same : (z : ℤ) → int_eq z z ≡ true
integer-same z = (Decides-int_eq z z).1 refl

each-same : {X : Type 0} (E : X → X → Bool) → ((a : X) → E a a ≡ true) → (xs : List X) → pointwise E xs xs ≡ true
each-same E h [] = refl
each-same E h (x ∷ xs) = and_from (E x x) (pointwise E xs xs) (h x) (each-same E h xs)

numbers-same : (xs : List ℕ) → pointwise nat_eq xs xs ≡ true
numbers-same = each-same nat_eq number-same

-- ---- the items of lists

line_amount_is : (a b : LineAmount) → is_line_amount a b ≡ true → a ≡ b
line_amount_is a b e =
    let p = both (a.line == b.line) (a.amount == b.amount) e in
    λ i. record { line = number a.line b.line p.0 i; amount = number a.amount b.amount p.1 i }

line_amount-same : (a : LineAmount) → is_line_amount a a ≡ true
line_amount-same a = and_from _ _ (number-same a.line) (number-same a.amount)

source_amount_is : (a b : SourceAmount) → is_source_amount a b ≡ true → a ≡ b
source_amount_is a b e =
    let p = both (a.source == b.source) (a.amount == b.amount) e in
    λ i. record { source = number a.source b.source p.0 i; amount = number a.amount b.amount p.1 i }

source_amount-same : (a : SourceAmount) → is_source_amount a a ≡ true
source_amount-same a = and_from _ _ (number-same a.source) (number-same a.amount)

account_item_is : (a b : AccountItem) → is_account_item a b ≡ true → a ≡ b
account_item_is a b e =
    let p = all4 (a.fund == b.fund) (a.dept == b.dept) (a.object == b.object) (a.amount == b.amount) e in
    λ i. record { fund = number a.fund b.fund p.0 i; dept = number a.dept b.dept p.1 i; object = number a.object b.object p.2 i; amount = number a.amount b.amount p.3 i }

account_item-same : (a : AccountItem) → is_account_item a a ≡ true
account_item-same a = and_from _ _ (and_from _ _ (and_from _ _ (number-same a.fund) (number-same a.dept)) (number-same a.object)) (number-same a.amount)

liquidation_is : (a b : Liquidation) → is_liquidation a b ≡ true → a ≡ b
liquidation_is Lesser Lesser e = refl
liquidation_is (Recorded r) (Recorded s) e = ap Recorded (number r s e)
liquidation_is Final Final e = refl
liquidation_is _ _ e = cc

liquidation-same : (a : Liquidation) → is_liquidation a a ≡ true
liquidation-same Lesser = refl
liquidation-same (Recorded r) = number-same r
liquidation-same Final = refl

charge_is : (a b : Charge) → is_charge a b ≡ true → a ≡ b
charge_is Direct Direct e = refl
charge_is (OnOrder i o h) (OnOrder j p k) e =
    let t = all3 (o == p) (i == j) (is_liquidation h k) e in
    λ x. OnOrder (number i j t.1 x) (number o p t.0 x) (liquidation_is h k t.2 x)
charge_is _ _ e = cc

charge-same : (a : Charge) → is_charge a a ≡ true
charge-same Direct = refl
charge-same (OnOrder i o h) = and_from _ _ (and_from _ _ (number-same o) (number-same i)) (liquidation-same h)

voucher_item_is : (a b : VoucherItem) → is_voucher_item a b ≡ true → a ≡ b
voucher_item_is a b e =
    let p = both (is_account_item a.account b.account) (is_charge a.charge b.charge) e in
    λ i. record { account = account_item_is a.account b.account p.0 i; charge = charge_is a.charge b.charge p.1 i }

voucher_item-same : (a : VoucherItem) → is_voucher_item a a ≡ true
voucher_item-same a = and_from _ _ (account_item-same a.account) (charge-same a.charge)

-- ---- the acts

option_is : (a b : Option ℕ) → same_option a b ≡ true → a ≡ b
option_is None None e = refl
option_is (Some m) (Some n) e = ap Some (number m n e)
option_is _ _ e = cc

option-same : (a : Option ℕ) → same_option a a ≡ true
option-same None = refl
option-same (Some n) = number-same n

flag_is : (a b : Bool) → same_flag a b ≡ true → a ≡ b
flag_is true true e = refl
flag_is false false e = refl
flag_is _ _ e = cc

flag-same : (a : Bool) → same_flag a a ≡ true
flag-same true = refl
flag-same false = refl

adoption_is : (a b : Adoption) → same_adoption a b ≡ true → a ≡ b
adoption_is a b e =
    let p = all4 (a.fund == b.fund) (a.year == b.year) (pointwise is_line_amount a.lines b.lines) (pointwise is_source_amount a.estimates b.estimates) e in
    λ i. record { fund = number a.fund b.fund p.0 i; year = number a.year b.year p.1 i; lines = each is_line_amount line_amount_is a.lines b.lines p.2 i; estimates = each is_source_amount source_amount_is a.estimates b.estimates p.3 i }

adoption-same : (a : Adoption) → same_adoption a a ≡ true
adoption-same a = and_from _ _ (and_from _ _ (and_from _ _ (number-same a.fund) (number-same a.year)) (each-same is_line_amount line_amount-same a.lines)) (each-same is_source_amount source_amount-same a.estimates)

amendment_is : (a b : Amendment) → same_amendment a b ≡ true → a ≡ b
amendment_is a b e =
    let p = all4 (a.fund == b.fund) (a.year == b.year) (a.line == b.line) (int_eq a.by b.by) e in
    λ i. record { fund = number a.fund b.fund p.0 i; year = number a.year b.year p.1 i; line = number a.line b.line p.2 i; by = integer a.by b.by p.3 i }

amendment-same : (a : Amendment) → same_amendment a a ≡ true
amendment-same a = and_from _ _ (and_from _ _ (and_from _ _ (number-same a.fund) (number-same a.year)) (number-same a.line)) (integer-same a.by)

transfer_is : (a b : LineTransfer) → same_transfer a b ≡ true → a ≡ b
transfer_is a b e =
    let p = all5 (a.fund == b.fund) (a.year == b.year) (a.from == b.from) (a.to == b.to) (a.amount == b.amount) e in
    λ i. record { fund = number a.fund b.fund p.0 i; year = number a.year b.year p.1 i; from = number a.from b.from p.2 i; to = number a.to b.to p.3 i; amount = number a.amount b.amount p.4 i }

transfer-same : (a : LineTransfer) → same_transfer a a ≡ true
transfer-same a = and_from _ _ (and_from _ _ (and_from _ _ (and_from _ _ (number-same a.fund) (number-same a.year)) (number-same a.from)) (number-same a.to)) (number-same a.amount)

order_is : (a b : NewOrder) → same_order a b ≡ true → a ≡ b
order_is a b e =
    let p = all3 (a.vendor == b.vendor) (same_option a.requisition b.requisition) (pointwise is_account_item a.items b.items) e in
    λ i. record { vendor = number a.vendor b.vendor p.0 i; requisition = option_is a.requisition b.requisition p.1 i; items = each is_account_item account_item_is a.items b.items p.2 i }

order-same : (a : NewOrder) → same_order a a ≡ true
order-same a = and_from _ _ (and_from _ _ (number-same a.vendor) (option-same a.requisition)) (each-same is_account_item account_item-same a.items)

order_change_is : (a b : OrderChange) → same_order_change a b ≡ true → a ≡ b
order_change_is a b e =
    let p = all6 (a.order == b.order) (a.item == b.item) (a.fund == b.fund) (a.dept == b.dept) (a.object == b.object) (int_eq a.by b.by) e in
    λ i. record { order = number a.order b.order p.0 i; item = number a.item b.item p.1 i; fund = number a.fund b.fund p.2 i; dept = number a.dept b.dept p.3 i; object = number a.object b.object p.4 i; by = integer a.by b.by p.5 i }

order_change-same : (a : OrderChange) → same_order_change a a ≡ true
order_change-same a = and_from _ _ (and_from _ _ (and_from _ _ (and_from _ _ (and_from _ _ (number-same a.order) (number-same a.item)) (number-same a.fund)) (number-same a.dept)) (number-same a.object)) (integer-same a.by)

voucher_is : (a b : NewVoucher) → same_voucher a b ≡ true → a ≡ b
voucher_is a b e =
    let p = all3 (a.vendor == b.vendor) (same_flag a.back b.back) (pointwise is_voucher_item a.items b.items) e in
    λ i. record { vendor = number a.vendor b.vendor p.0 i; back = flag_is a.back b.back p.1 i; items = each is_voucher_item voucher_item_is a.items b.items p.2 i }

voucher-same : (a : NewVoucher) → same_voucher a a ≡ true
voucher-same a = and_from _ _ (and_from _ _ (number-same a.vendor) (flag-same a.back)) (each-same is_voucher_item voucher_item-same a.items)

bill_is : (a b : NewBill) → same_bill a b ≡ true → a ≡ b
bill_is a b e =
    let p = all4 (a.source == b.source) (a.levy_year == b.levy_year) (a.payer == b.payer) (a.amount == b.amount) e in
    λ i. record { source = number a.source b.source p.0 i; levy_year = number a.levy_year b.levy_year p.1 i; payer = number a.payer b.payer p.2 i; amount = number a.amount b.amount p.3 i }

bill-same : (a : NewBill) → same_bill a a ≡ true
bill-same a = and_from _ _ (and_from _ _ (and_from _ _ (number-same a.source) (number-same a.levy_year)) (number-same a.payer)) (number-same a.amount)

bill_amount_is : (a b : BillAmount) → same_bill_amount a b ≡ true → a ≡ b
bill_amount_is a b e =
    let p = both (a.bill == b.bill) (a.amount == b.amount) e in
    λ i. record { bill = number a.bill b.bill p.0 i; amount = number a.amount b.amount p.1 i }

bill_amount-same : (a : BillAmount) → same_bill_amount a a ≡ true
bill_amount-same a = and_from _ _ (number-same a.bill) (number-same a.amount)

asset_act_is : (a b : AssetAct) → same_asset_act a b ≡ true → a ≡ b
asset_act_is (Donate a) (Donate b) e =
    let p = all3 (a.dept == b.dept) (a.object == b.object) (a.amount == b.amount) e in
    λ i. Donate (record { dept = number a.dept b.dept p.0 i; object = number a.object b.object p.1 i; amount = number a.amount b.amount p.2 i })
asset_act_is (Dispose a) (Dispose b) e =
    let p = all3 (a.asset == b.asset) (a.fund == b.fund) (a.proceeds == b.proceeds) e in
    λ i. Dispose (record { asset = number a.asset b.asset p.0 i; fund = number a.fund b.fund p.1 i; proceeds = number a.proceeds b.proceeds p.2 i })
asset_act_is _ _ e = cc

asset_act-same : (a : AssetAct) → same_asset_act a a ≡ true
asset_act-same (Donate a) = and_from _ _ (and_from _ _ (number-same a.dept) (number-same a.object)) (number-same a.amount)
asset_act-same (Dispose a) = and_from _ _ (and_from _ _ (number-same a.asset) (number-same a.fund)) (number-same a.proceeds)

terms_is : (a b : Terms) → same_terms a b ≡ true → a ≡ b
terms_is a b e =
    let p = all3 (a.rate_bp == b.rate_bp) (a.every == b.every) (pointwise nat_eq a.principals b.principals) e in
    λ i. record { rate_bp = number a.rate_bp b.rate_bp p.0 i; every = number a.every b.every p.1 i; principals = numbers a.principals b.principals p.2 i }

terms-same : (a : Terms) → same_terms a a ≡ true
terms-same a = and_from _ _ (and_from _ _ (number-same a.rate_bp) (number-same a.every)) (numbers-same a.principals)

issue_is : (a b : BondIssue) → same_issue a b ≡ true → a ≡ b
issue_is a b e =
    let p = all3 (a.fund == b.fund) (a.amount == b.amount) (same_terms a.terms b.terms) e in
    λ i. record { fund = number a.fund b.fund p.0 i; amount = number a.amount b.amount p.1 i; terms = terms_is a.terms b.terms p.2 i }

issue-same : (a : BondIssue) → same_issue a a ≡ true
issue-same a = and_from _ _ (and_from _ _ (number-same a.fund) (number-same a.amount)) (terms-same a.terms)

debt_payment_is : (a b : DebtPayment) → same_debt_payment a b ≡ true → a ≡ b
debt_payment_is a b e =
    let p = all5 (a.bond == b.bond) (a.fund == b.fund) (a.dept == b.dept) (a.principal == b.principal) (a.interest == b.interest) e in
    λ i. record { bond = number a.bond b.bond p.0 i; fund = number a.fund b.fund p.1 i; dept = number a.dept b.dept p.2 i; principal = number a.principal b.principal p.3 i; interest = number a.interest b.interest p.4 i }

debt_payment-same : (a : DebtPayment) → same_debt_payment a a ≡ true
debt_payment-same a = and_from _ _ (and_from _ _ (and_from _ _ (and_from _ _ (number-same a.bond) (number-same a.fund)) (number-same a.dept)) (number-same a.principal)) (number-same a.interest)

leave_amount_is : (a b : LeaveAmount) → same_leave_amount a b ≡ true → a ≡ b
leave_amount_is a b e =
    let p = all3 (a.fund == b.fund) (a.dept == b.dept) (a.amount == b.amount) e in
    λ i. record { fund = number a.fund b.fund p.0 i; dept = number a.dept b.dept p.1 i; amount = number a.amount b.amount p.2 i }

leave_amount-same : (a : LeaveAmount) → same_leave_amount a a ≡ true
leave_amount-same a = and_from _ _ (and_from _ _ (number-same a.fund) (number-same a.dept)) (number-same a.amount)

leave_act_is : (a b : LeaveAct) → same_leave_act a b ≡ true → a ≡ b
leave_act_is (Earn a) (Earn b) e = ap Earn (leave_amount_is a b e)
leave_act_is (Use a) (Use b) e = ap Use (leave_amount_is a b e)
leave_act_is (Mature a) (Mature b) e =
    let p = all4 (a.fund == b.fund) (a.dept == b.dept) (a.object == b.object) (a.amount == b.amount) e in
    λ i. Mature (record { fund = number a.fund b.fund p.0 i; dept = number a.dept b.dept p.1 i; object = number a.object b.object p.2 i; amount = number a.amount b.amount p.3 i })
leave_act_is _ _ e = cc

leave_act-same : (a : LeaveAct) → same_leave_act a a ≡ true
leave_act-same (Earn a) = leave_amount-same a
leave_act-same (Use a) = leave_amount-same a
leave_act-same (Mature a) = and_from _ _ (and_from _ _ (and_from _ _ (number-same a.fund) (number-same a.dept)) (number-same a.object)) (number-same a.amount)

move_kind_is : (a b : FundMoveKind) → same_move_kind a b ≡ true → a ≡ b
move_kind_is move.Transfer move.Transfer e = refl
move_kind_is move.Loan move.Loan e = refl
move_kind_is move.Repay move.Repay e = refl
move_kind_is _ _ e = cc

move_kind-same : (a : FundMoveKind) → same_move_kind a a ≡ true
move_kind-same move.Transfer = refl
move_kind-same move.Loan = refl
move_kind-same move.Repay = refl

fund_move_is : (a b : FundMove) → same_fund_move a b ≡ true → a ≡ b
fund_move_is a b e =
    let p = all4 (same_move_kind a.what b.what) (a.from == b.from) (a.to == b.to) (a.amount == b.amount) e in
    λ i. record { what = move_kind_is a.what b.what p.0 i; from = number a.from b.from p.1 i; to = number a.to b.to p.2 i; amount = number a.amount b.amount p.3 i }

fund_move-same : (a : FundMove) → same_fund_move a a ≡ true
fund_move-same a = and_from _ _ (and_from _ _ (and_from _ _ (move_kind-same a.what) (number-same a.from)) (number-same a.to)) (number-same a.amount)

period_is : (a b : Period) → same_period a b ≡ true → a ≡ b
period_is (period.Month a) (period.Month b) e =
    let p = both (a.year == b.year) (a.month == b.month) e in
    λ i. period.Month (record { year = number a.year b.year p.0 i; month = number a.month b.month p.1 i })
period_is (period.Year a) (period.Year b) e = ap period.Year (number a b e)
period_is _ _ e = cc

period-same : (a : Period) → same_period a a ≡ true
period-same (period.Month a) = and_from _ _ (number-same a.year) (number-same a.month)
period-same (period.Year a) = number-same a

lease_is : (a b : NewLease) → same_lease a b ≡ true → a ≡ b
lease_is a b e =
    let p = all3 (a.vendor == b.vendor) (is_account_item a.account b.account) (same_terms a.terms b.terms) e in
    λ i. record { vendor = number a.vendor b.vendor p.0 i; account = account_item_is a.account b.account p.1 i; terms = terms_is a.terms b.terms p.2 i }

lease-same : (a : NewLease) → same_lease a a ≡ true
lease-same a = and_from _ _ (and_from _ _ (number-same a.vendor) (account_item-same a.account)) (terms-same a.terms)

act_is : (a b : Act) → same_act a b ≡ true → a ≡ b
act_is (Adopt a) (Adopt b) e = ap Adopt (adoption_is a b e)
act_is (Amend a) (Amend b) e = ap Amend (amendment_is a b e)
act_is (Transfer a) (Transfer b) e = ap Transfer (transfer_is a b e)
act_is (Requisition a) (Requisition b) e = λ i. Requisition (record { items = each is_account_item account_item_is a.items b.items e i })
act_is (Withdraw a) (Withdraw b) e = ap Withdraw (number a b e)
act_is (Order a) (Order b) e = ap Order (order_is a b e)
act_is (ChangeOrder a) (ChangeOrder b) e = ap ChangeOrder (order_change_is a b e)
act_is (CancelOrder a) (CancelOrder b) e = ap CancelOrder (number a b e)
act_is (Voucher a) (Voucher b) e = ap Voucher (voucher_is a b e)
act_is (VoidVoucher a) (VoidVoucher b) e = ap VoidVoucher (number a b e)
act_is (Pay a) (Pay b) e = λ i. Pay (record { vouchers = numbers a.vouchers b.vouchers e i })
act_is (Bill a) (Bill b) e = ap Bill (bill_is a b e)
act_is (Collect a) (Collect b) e = ap Collect (bill_amount_is a b e)
act_is (Receive a) (Receive b) e = ap Receive (source_amount_is a b e)
act_is (WriteOff a) (WriteOff b) e = ap WriteOff (bill_amount_is a b e)
act_is (Asset a) (Asset b) e = ap Asset (asset_act_is a b e)
act_is (Issue a) (Issue b) e = ap Issue (issue_is a b e)
act_is (PayDue a) (PayDue b) e = ap PayDue (debt_payment_is a b e)
act_is (Leave a) (Leave b) e = ap Leave (leave_act_is a b e)
act_is (Interfund a) (Interfund b) e = ap Interfund (fund_move_is a b e)
act_is (Close a) (Close b) e = ap Close (period_is a b e)
act_is (Lease a) (Lease b) e = ap Lease (lease_is a b e)
act_is _ _ e = cc

act-same : (a : Act) → same_act a a ≡ true
act-same (Adopt a) = adoption-same a
act-same (Amend a) = amendment-same a
act-same (Transfer a) = transfer-same a
act-same (Requisition a) = each-same is_account_item account_item-same a.items
act-same (Withdraw a) = number-same a
act-same (Order a) = order-same a
act-same (ChangeOrder a) = order_change-same a
act-same (CancelOrder a) = number-same a
act-same (Voucher a) = voucher-same a
act-same (VoidVoucher a) = number-same a
act-same (Pay a) = numbers-same a.vouchers
act-same (Bill a) = bill-same a
act-same (Collect a) = bill_amount-same a
act-same (Receive a) = source_amount-same a
act-same (WriteOff a) = bill_amount-same a
act-same (Asset a) = asset_act-same a
act-same (Issue a) = issue-same a
act-same (PayDue a) = debt_payment-same a
act-same (Leave a) = leave_act-same a
act-same (Interfund a) = fund_move-same a
act-same (Close a) = period-same a
act-same (Lease a) = lease-same a

-- ---- changes

day_is : (a b : Day) → same_day a b ≡ true → a ≡ b
day_is a b e =
    let p = all3 (a.year == b.year) (a.month == b.month) (a.day == b.day) e in
    λ i. record { year = number a.year b.year p.0 i; month = number a.month b.month p.1 i; day = number a.day b.day p.2 i }

day-same : (a : Day) → same_day a a ≡ true
day-same a = and_from _ _ (and_from _ _ (number-same a.year) (number-same a.month)) (number-same a.day)

call_is : (a b : Change) → same_call a b ≡ true → record a { after = None } ≡ record b { after = None }
call_is a b e =
    let p = all4 (a.desk == b.desk) (pointwise nat_eq a.key b.key) (same_day a.on b.on) (same_act a.act b.act) e in
    λ i. record { desk = number a.desk b.desk p.0 i; key = numbers a.key b.key p.1 i; on = day_is a.on b.on p.2 i; after = None; act = act_is a.act b.act p.3 i }

call-same : (a : Change) → same_call a a ≡ true
call-same a = and_from _ _ (and_from _ _ (and_from _ _ (number-same a.desk) (numbers-same a.key)) (day-same a.on)) (act-same a.act)

-- the test means equality but for `after`
pub same_call_decides : (a b : Change) → Decides (same_call a b) (record a { after = None } ≡ record b { after = None })
same_call_decides a b = (call_is a b, λ e. let without : Change = record a { after = None } in subst (λ (c : Change). same_call without c ≡ true) e (call-same without))
