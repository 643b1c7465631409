-- Whether two changes are the same call, `after` aside: the values of all fields, one after
-- another.
use Rattle.std.specs.Prelude.{ℕ, Bool, true, false, ◌==◌, ◌&&◌, nat_eq, List, Option, Some, None}
use Rattle.std.specs.Cmp.Lexicographic.{pointwise}
use Rattle.std.specs.Ordering.{int_eq}
use Rattle.cf_base.specs.declared.calendar.Day.{Day}
use Rattle.cf_base.specs.declared.calendar.Month.{Month}
use Rattle.cf_calls.specs.declared.acts.Act.{Act}
use Rattle.cf_calls.specs.declared.acts.Act.TheVariants.{Adopt, Amend, Transfer, Requisition, Withdraw, Order, ChangeOrder, CancelOrder, Voucher, VoidVoucher, Pay, Bill, Collect, Receive, WriteOff, Asset, Issue, PayDue, Leave, Interfund, Close, Lease}
use Rattle.cf_calls.specs.declared.acts.Adoption.{Adoption}
use Rattle.cf_calls.specs.declared.acts.Amendment.{Amendment}
use Rattle.cf_calls.specs.declared.acts.LineTransfer.{LineTransfer}
use Rattle.cf_calls.specs.declared.acts.NewLease.{NewLease}
use Rattle.cf_calls.specs.declared.acts.NewOrder.{NewOrder}
use Rattle.cf_calls.specs.declared.acts.OrderChange.{OrderChange}
use Rattle.cf_calls.specs.declared.acts.NewVoucher.{NewVoucher}
use Rattle.cf_calls.specs.declared.acts.NewBill.{NewBill}
use Rattle.cf_calls.specs.declared.acts.BillAmount.{BillAmount}
use Rattle.cf_calls.specs.declared.acts.AssetAct.{AssetAct}
use Rattle.cf_calls.specs.declared.acts.AssetAct.TheVariants.{Donate, Dispose}
use Rattle.cf_calls.specs.declared.acts.BondIssue.{BondIssue}
use Rattle.cf_calls.specs.declared.acts.DebtPayment.{DebtPayment}
use Rattle.cf_calls.specs.declared.acts.LeaveAct.{LeaveAct}
use Rattle.cf_calls.specs.declared.acts.LeaveAct.TheVariants.{Earn, Use, Mature}
use Rattle.cf_calls.specs.declared.acts.LeaveAmount.{LeaveAmount}
use Rattle.cf_calls.specs.declared.acts.FundMove.{FundMove}
use Rattle.cf_calls.specs.declared.acts.FundMoveKind.{FundMoveKind}
use Rattle.cf_calls.specs.declared.acts.FundMoveKind.TheVariants as move
use Rattle.cf_calls.specs.declared.acts.Terms.{Terms}
use Rattle.cf_calls.specs.declared.acts.Period.{Period}
use Rattle.cf_calls.specs.declared.acts.Period.TheVariants as period
use Rattle.cf_calls.specs.declared.call.Change.{Change}
use Rattle.cf_calls.specs.declared.items.LineAmount.{LineAmount}
use Rattle.cf_calls.specs.declared.items.SourceAmount.{SourceAmount}
use Rattle.cf_calls.specs.declared.items.AccountItem.{AccountItem}
use Rattle.cf_calls.specs.declared.items.VoucherItem.{VoucherItem}
use Rattle.cf_calls.specs.declared.items.Charge.{Charge}
use Rattle.cf_calls.specs.declared.items.Charge.TheVariants.{Direct, OnOrder}
use Rattle.cf_calls.specs.declared.items.Liquidation.{Liquidation}
use Rattle.cf_calls.specs.declared.items.Liquidation.TheVariants.{Lesser, Recorded, Final}

-- ---- the items of lists

abbrev pub is_line_amount : LineAmount → LineAmount → Bool
is_line_amount a b = (a.line == b.line) && (a.amount == b.amount)

abbrev pub is_source_amount : SourceAmount → SourceAmount → Bool
is_source_amount a b = (a.source == b.source) && (a.amount == b.amount)

abbrev pub is_account_item : AccountItem → AccountItem → Bool
is_account_item a b = (a.fund == b.fund) && (a.dept == b.dept) && (a.object == b.object)
    && (a.amount == b.amount)

abbrev pub is_liquidation : Liquidation → Liquidation → Bool
is_liquidation Lesser Lesser = true
is_liquidation (Recorded r) (Recorded s) = r == s
is_liquidation Final Final = true
is_liquidation _ _ = false

abbrev pub is_charge : Charge → Charge → Bool
is_charge Direct Direct = true
is_charge (OnOrder i o h) (OnOrder j p k) = (o == p) && (i == j) && is_liquidation h k
is_charge _ _ = false

abbrev pub is_voucher_item : VoucherItem → VoucherItem → Bool
is_voucher_item a b = is_account_item a.account b.account && is_charge a.charge b.charge

-- ---- the acts

abbrev pub same_option : Option ℕ → Option ℕ → Bool
same_option None None = true
same_option (Some m) (Some n) = m == n
same_option _ _ = false

abbrev pub same_flag : Bool → Bool → Bool
same_flag true b = b
same_flag false true = false
same_flag false false = true

abbrev pub same_adoption : Adoption → Adoption → Bool
same_adoption a b = (a.fund == b.fund) && (a.year == b.year)
    && pointwise is_line_amount a.lines b.lines
    && pointwise is_source_amount a.estimates b.estimates

abbrev pub same_amendment : Amendment → Amendment → Bool
same_amendment a b = (a.fund == b.fund) && (a.year == b.year) && (a.line == b.line)
    && int_eq a.by b.by

abbrev pub same_transfer : LineTransfer → LineTransfer → Bool
same_transfer a b = (a.fund == b.fund) && (a.year == b.year) && (a.from == b.from) && (a.to == b.to)
    && (a.amount == b.amount)

abbrev pub same_order : NewOrder → NewOrder → Bool
same_order a b = (a.vendor == b.vendor) && same_option a.requisition b.requisition
    && pointwise is_account_item a.items b.items

abbrev pub same_order_change : OrderChange → OrderChange → Bool
same_order_change a b = (a.order == b.order) && (a.item == b.item) && (a.fund == b.fund)
    && (a.dept == b.dept) && (a.object == b.object) && int_eq a.by b.by

abbrev pub same_voucher : NewVoucher → NewVoucher → Bool
same_voucher a b = (a.vendor == b.vendor) && same_flag a.back b.back
    && pointwise is_voucher_item a.items b.items

abbrev pub same_bill : NewBill → NewBill → Bool
same_bill a b = (a.source == b.source) && (a.levy_year == b.levy_year) && (a.payer == b.payer)
    && (a.amount == b.amount)

abbrev pub same_bill_amount : BillAmount → BillAmount → Bool
same_bill_amount a b = (a.bill == b.bill) && (a.amount == b.amount)

abbrev pub same_asset_act : AssetAct → AssetAct → Bool
same_asset_act (Donate a) (Donate b) = (a.dept == b.dept) && (a.object == b.object)
    && (a.amount == b.amount)
same_asset_act (Dispose a) (Dispose b) = (a.asset == b.asset) && (a.fund == b.fund)
    && (a.proceeds == b.proceeds)
same_asset_act _ _ = false

abbrev pub same_terms : Terms → Terms → Bool
same_terms a b = (a.rate_bp == b.rate_bp) && (a.every == b.every)
    && pointwise nat_eq a.principals b.principals

abbrev pub same_issue : BondIssue → BondIssue → Bool
same_issue a b = (a.fund == b.fund) && (a.amount == b.amount) && same_terms a.terms b.terms

abbrev pub same_debt_payment : DebtPayment → DebtPayment → Bool
same_debt_payment a b = (a.bond == b.bond) && (a.fund == b.fund) && (a.dept == b.dept)
    && (a.principal == b.principal) && (a.interest == b.interest)

abbrev pub same_leave_amount : LeaveAmount → LeaveAmount → Bool
same_leave_amount a b = (a.fund == b.fund) && (a.dept == b.dept) && (a.amount == b.amount)

abbrev pub same_leave_act : LeaveAct → LeaveAct → Bool
same_leave_act (Earn a) (Earn b) = same_leave_amount a b
same_leave_act (Use a) (Use b) = same_leave_amount a b
same_leave_act (Mature a) (Mature b) = (a.fund == b.fund) && (a.dept == b.dept)
    && (a.object == b.object) && (a.amount == b.amount)
same_leave_act _ _ = false

abbrev pub same_move_kind : FundMoveKind → FundMoveKind → Bool
same_move_kind move.Transfer move.Transfer = true
same_move_kind move.Loan move.Loan = true
same_move_kind move.Repay move.Repay = true
same_move_kind _ _ = false

abbrev pub same_fund_move : FundMove → FundMove → Bool
same_fund_move a b = same_move_kind a.what b.what && (a.from == b.from) && (a.to == b.to)
    && (a.amount == b.amount)

abbrev pub same_period : Period → Period → Bool
same_period (period.Month a) (period.Month b) = (a.year == b.year) && (a.month == b.month)
same_period (period.Year a) (period.Year b) = a == b
same_period _ _ = false

abbrev pub same_lease : NewLease → NewLease → Bool
same_lease a b = (a.vendor == b.vendor) && is_account_item a.account b.account
    && same_terms a.terms b.terms

abbrev pub same_act : Act → Act → Bool
same_act (Adopt a) (Adopt b) = same_adoption a b
same_act (Amend a) (Amend b) = same_amendment a b
same_act (Transfer a) (Transfer b) = same_transfer a b
same_act (Requisition a) (Requisition b) = pointwise is_account_item a.items b.items
same_act (Withdraw a) (Withdraw b) = a == b
same_act (Order a) (Order b) = same_order a b
same_act (ChangeOrder a) (ChangeOrder b) = same_order_change a b
same_act (CancelOrder a) (CancelOrder b) = a == b
same_act (Voucher a) (Voucher b) = same_voucher a b
same_act (VoidVoucher a) (VoidVoucher b) = a == b
same_act (Pay a) (Pay b) = pointwise nat_eq a.vouchers b.vouchers
same_act (Bill a) (Bill b) = same_bill a b
same_act (Collect a) (Collect b) = same_bill_amount a b
same_act (Receive a) (Receive b) = is_source_amount a b
same_act (WriteOff a) (WriteOff b) = same_bill_amount a b
same_act (Asset a) (Asset b) = same_asset_act a b
same_act (Issue a) (Issue b) = same_issue a b
same_act (PayDue a) (PayDue b) = same_debt_payment a b
same_act (Leave a) (Leave b) = same_leave_act a b
same_act (Interfund a) (Interfund b) = same_fund_move a b
same_act (Close a) (Close b) = same_period a b
same_act (Lease a) (Lease b) = same_lease a b
same_act _ _ = false

-- ---- changes

abbrev pub same_day : Day → Day → Bool
same_day a b = (a.year == b.year) && (a.month == b.month) && (a.day == b.day)

-- the same desk and key
abbrev pub same_key : ℕ → List ℕ → Change → Bool
same_key desk key c = (desk == c.desk) && pointwise nat_eq key c.key

-- equal but for `after`
abbrev pub same_call : Change → Change → Bool
same_call a b = (a.desk == b.desk) && pointwise nat_eq a.key b.key && same_day a.on b.on
    && same_act a.act b.act
