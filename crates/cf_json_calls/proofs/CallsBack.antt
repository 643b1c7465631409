-- The value of a change's line is read back as that change.
use Rattle.std.proofs.Common.{◌≡◌, ℕ, ◌+◌, ◌*◌, Bool, true, false, nat_lt, sum, List, length, Option, Some, None, Ok, lt-ltb, le-leb, ne_eqb, eq-eqb}
use Rattle.cf_base.specs.Common.{day_of_text, day_text}
use Rattle.cf_calls.specs.declared.acts.Act.{Act}
use Rattle.cf_calls.specs.declared.acts.Act.TheVariants.{Adopt, Amend, Transfer, Requisition, Withdraw, Order, ChangeOrder, CancelOrder, Voucher, VoidVoucher, Pay, Bill, Collect, Receive, WriteOff, Asset, Issue, PayDue, Leave, Interfund, Close, Lease}
use Rattle.cf_calls.specs.declared.acts.Adoption.{Adoption}
use Rattle.cf_calls.specs.declared.acts.Amendment.{Amendment}
use Rattle.cf_calls.specs.declared.acts.LineTransfer.{LineTransfer}
use Rattle.cf_calls.specs.declared.acts.NewRequisition.{NewRequisition}
use Rattle.cf_calls.specs.declared.acts.OrderChange.{OrderChange}
use Rattle.cf_calls.specs.declared.acts.Payment.{Payment}
use Rattle.cf_calls.specs.declared.acts.NewBill.{NewBill}
use Rattle.cf_calls.specs.declared.acts.BillAmount.{BillAmount}
use Rattle.cf_calls.specs.declared.acts.Donation.{Donation}
use Rattle.cf_calls.specs.declared.acts.Disposal.{Disposal}
use Rattle.cf_calls.specs.declared.acts.BondIssue.{BondIssue}
use Rattle.cf_calls.specs.declared.acts.DebtPayment.{DebtPayment}
use Rattle.cf_calls.specs.declared.acts.LeaveAmount.{LeaveAmount}
use Rattle.cf_calls.specs.declared.acts.LeaveMaturity.{LeaveMaturity}
use Rattle.cf_calls.specs.declared.acts.NewLease.{NewLease}
use Rattle.cf_calls.specs.declared.items.SourceAmount.{SourceAmount}
use Rattle.cf_calls.specs.declared.items.AccountItem.{AccountItem}
use Rattle.cf_calls.specs.declared.items.VoucherItem.{VoucherItem}
use Rattle.cf_base.specs.declared.calendar.Month.{Month}
use Rattle.cf_calls.specs.declared.acts.AssetAct.TheVariants.{Donate, Dispose}
use Rattle.cf_calls.specs.declared.acts.LeaveAct.TheVariants.{Earn, Use, Mature}
use Rattle.cf_calls.specs.declared.acts.FundMoveKind.{FundMoveKind}
use Rattle.cf_calls.specs.declared.acts.FundMoveKind.TheVariants as move
use Rattle.cf_calls.specs.declared.acts.Period.TheVariants as period
use Rattle.cf_calls.specs.declared.call.Call.TheVariants as call
use Rattle.cf_calls.specs.declared.call.Change.{Change}
use Rattle.cf_calls.specs.Common.{IsActInForm, IsChangeInForm, is_key, month_number}
use Rattle.cf_json.specs.Calls.{object_call_of}
use Rattle.cf_json_calls.specs.CallText.{call_data}
use Rattle.cf_json_calls.specs.Fits.{ActFits, ChangeFits}
use Rattle.cf_json_calls.proofs.Sorted.{sorted}
use Rattle.cf_json_calls.proofs.Days.{day_of_text-day_text, month_of_text-month_text}
use Rattle.cf_json_calls.proofs.ListsBack as items

-- ---- the fields that every changing call has

record IsFront (c : Change) : Type 0 where
  desk : nat_lt c.desk 65536 ≡ true
  key : is_key c.key ≡ true
  on : day_of_text (day_text c.on) ≡ Some c.on

-- a change with another act and another `after`
abbrev changed : Change → Act → Option ℕ → Change
changed c a after = record { desk = c.desk; key = c.key; on = c.on; after = after; act = a }

abbrev IsBack : Change → Act → Option ℕ → Type 0
IsBack c a after = object_call_of (sorted (call_data (changed c a after))) ≡ Ok (call.Change (changed c a after))

adopt-back : (c : Change) (a : Adoption) (after : Option ℕ) → IsFront c → IsActInForm c.on (Adopt a) → ActFits (Adopt a) → IsBack c (Adopt a) after
adopt-back c a None f form fits = rw (f.desk, f.key, f.on, lt-ltb a.fund 65536 fits.0, le-leb 1971 a.year form.year.from, le-leb a.year 2199 form.year.to, items.line_amounts-back a.lines fits.1 form.few_lines form.lines, items.source_amounts-back a.estimates fits.2 form.few_estimates form.estimates)
adopt-back c a (Some n) f form fits = rw (f.desk, f.key, f.on, lt-ltb a.fund 65536 fits.0, le-leb 1971 a.year form.year.from, le-leb a.year 2199 form.year.to, items.line_amounts-back a.lines fits.1 form.few_lines form.lines, items.source_amounts-back a.estimates fits.2 form.few_estimates form.estimates)

amend-back : (c : Change) (a : Amendment) (after : Option ℕ) → IsFront c → IsActInForm c.on (Amend a) → ActFits (Amend a) → IsBack c (Amend a) after
amend-back c a None f form fits = rw (f.desk, f.key, f.on, lt-ltb a.fund 65536 fits.0, le-leb 1971 a.year form.0.from, le-leb a.year 2199 form.0.to, lt-ltb a.line 65536 fits.1, items.signed-back a.by fits.2 form.1)
amend-back c a (Some n) f form fits = rw (f.desk, f.key, f.on, lt-ltb a.fund 65536 fits.0, le-leb 1971 a.year form.0.from, le-leb a.year 2199 form.0.to, lt-ltb a.line 65536 fits.1, items.signed-back a.by fits.2 form.1)

transfer-back : (c : Change) (t : LineTransfer) (after : Option ℕ) → IsFront c → IsActInForm c.on (Transfer t) → ActFits (Transfer t) → IsBack c (Transfer t) after
transfer-back c t None f form fits = rw (f.desk, f.key, f.on, lt-ltb t.fund 65536 fits.0, le-leb 1971 t.year form.0.from, le-leb t.year 2199 form.0.to, lt-ltb t.from 65536 fits.1, lt-ltb t.to 65536 fits.2, ne_eqb t.from t.to form.1)
transfer-back c t (Some n) f form fits = rw (f.desk, f.key, f.on, lt-ltb t.fund 65536 fits.0, le-leb 1971 t.year form.0.from, le-leb t.year 2199 form.0.to, lt-ltb t.from 65536 fits.1, lt-ltb t.to 65536 fits.2, ne_eqb t.from t.to form.1)

requisition-back : (c : Change) (r : NewRequisition) (after : Option ℕ) → IsFront c → IsActInForm c.on (Requisition r) → ActFits (Requisition r) → IsBack c (Requisition r) after
requisition-back c r None f form fits = rw (f.desk, f.key, f.on, items.account_items-back r.items fits form)
requisition-back c r (Some n) f form fits = rw (f.desk, f.key, f.on, items.account_items-back r.items fits form)

withdraw-back : (c : Change) (m : ℕ) (after : Option ℕ) → IsFront c → IsActInForm c.on (Withdraw m) → ActFits (Withdraw m) → IsBack c (Withdraw m) after
withdraw-back c m None f form fits = rw (f.desk, f.key, f.on, lt-ltb m 4294967296 fits)
withdraw-back c m (Some n) f form fits = rw (f.desk, f.key, f.on, lt-ltb m 4294967296 fits)

plain_order-back : (c : Change) (v : ℕ) (xs : List AccountItem) (after : Option ℕ) → IsFront c → IsActInForm c.on (Order (record { vendor = v; requisition = None; items = xs })) → ActFits (Order (record { vendor = v; requisition = None; items = xs })) → IsBack c (Order (record { vendor = v; requisition = None; items = xs })) after
plain_order-back c v xs None f form fits = rw (f.desk, f.key, f.on, lt-ltb v 4294967296 fits.0, items.account_items-back xs fits.2 form)
plain_order-back c v xs (Some n) f form fits = rw (f.desk, f.key, f.on, lt-ltb v 4294967296 fits.0, items.account_items-back xs fits.2 form)

requested_order-back : (c : Change) (v : ℕ) (r : ℕ) (xs : List AccountItem) (after : Option ℕ) → IsFront c → IsActInForm c.on (Order (record { vendor = v; requisition = Some r; items = xs })) → ActFits (Order (record { vendor = v; requisition = Some r; items = xs })) → IsBack c (Order (record { vendor = v; requisition = Some r; items = xs })) after
requested_order-back c v r xs None f form fits = rw (f.desk, f.key, f.on, lt-ltb v 4294967296 fits.0, lt-ltb r 4294967296 fits.1, items.account_items-back xs fits.2 form)
requested_order-back c v r xs (Some n) f form fits = rw (f.desk, f.key, f.on, lt-ltb v 4294967296 fits.0, lt-ltb r 4294967296 fits.1, items.account_items-back xs fits.2 form)

change_order-back : (c : Change) (o : OrderChange) (after : Option ℕ) → IsFront c → IsActInForm c.on (ChangeOrder o) → ActFits (ChangeOrder o) → IsBack c (ChangeOrder o) after
change_order-back c o None f form fits = rw (f.desk, f.key, f.on, lt-ltb o.order 4294967296 fits.0, lt-ltb o.item 65536 fits.1, le-leb 1 o.item form.0, lt-ltb o.fund 65536 fits.2, lt-ltb o.dept 65536 fits.3, lt-ltb o.object 65536 fits.4, items.signed-back o.by fits.5 form.1)
change_order-back c o (Some n) f form fits = rw (f.desk, f.key, f.on, lt-ltb o.order 4294967296 fits.0, lt-ltb o.item 65536 fits.1, le-leb 1 o.item form.0, lt-ltb o.fund 65536 fits.2, lt-ltb o.dept 65536 fits.3, lt-ltb o.object 65536 fits.4, items.signed-back o.by fits.5 form.1)

cancel_order-back : (c : Change) (m : ℕ) (after : Option ℕ) → IsFront c → IsActInForm c.on (CancelOrder m) → ActFits (CancelOrder m) → IsBack c (CancelOrder m) after
cancel_order-back c m None f form fits = rw (f.desk, f.key, f.on, lt-ltb m 4294967296 fits)
cancel_order-back c m (Some n) f form fits = rw (f.desk, f.key, f.on, lt-ltb m 4294967296 fits)

voucher-back : (c : Change) (v : ℕ) (xs : List VoucherItem) (after : Option ℕ) → IsFront c → IsActInForm c.on (Voucher (record { vendor = v; back = false; items = xs })) → ActFits (Voucher (record { vendor = v; back = false; items = xs })) → IsBack c (Voucher (record { vendor = v; back = false; items = xs })) after
voucher-back c v xs None f form fits = rw (f.desk, f.key, f.on, lt-ltb v 4294967296 fits.0, items.voucher_items-back xs fits.1 form)
voucher-back c v xs (Some n) f form fits = rw (f.desk, f.key, f.on, lt-ltb v 4294967296 fits.0, items.voucher_items-back xs fits.1 form)

back_voucher-back : (c : Change) (v : ℕ) (xs : List VoucherItem) (after : Option ℕ) → IsFront c → IsActInForm c.on (Voucher (record { vendor = v; back = true; items = xs })) → ActFits (Voucher (record { vendor = v; back = true; items = xs })) → IsBack c (Voucher (record { vendor = v; back = true; items = xs })) after
back_voucher-back c v xs None f form fits = rw (f.desk, f.key, f.on, lt-ltb v 4294967296 fits.0, items.voucher_items-back xs fits.1 form)
back_voucher-back c v xs (Some n) f form fits = rw (f.desk, f.key, f.on, lt-ltb v 4294967296 fits.0, items.voucher_items-back xs fits.1 form)

void_voucher-back : (c : Change) (m : ℕ) (after : Option ℕ) → IsFront c → IsActInForm c.on (VoidVoucher m) → ActFits (VoidVoucher m) → IsBack c (VoidVoucher m) after
void_voucher-back c m None f form fits = rw (f.desk, f.key, f.on, lt-ltb m 4294967296 fits)
void_voucher-back c m (Some n) f form fits = rw (f.desk, f.key, f.on, lt-ltb m 4294967296 fits)

pay-back : (c : Change) (p : Payment) (after : Option ℕ) → IsFront c → IsActInForm c.on (Pay p) → ActFits (Pay p) → IsBack c (Pay p) after
pay-back c p None f form fits = rw (f.desk, f.key, f.on, items.vouchers-back p.vouchers fits form.0 form.1)
pay-back c p (Some n) f form fits = rw (f.desk, f.key, f.on, items.vouchers-back p.vouchers fits form.0 form.1)

bill-back : (c : Change) (b : NewBill) (after : Option ℕ) → IsFront c → IsActInForm c.on (Bill b) → ActFits (Bill b) → IsBack c (Bill b) after
bill-back c b None f form fits = rw (f.desk, f.key, f.on, lt-ltb b.source 65536 fits.0, le-leb 1971 b.levy_year form.from, le-leb b.levy_year 2199 form.to, lt-ltb b.payer 4294967296 fits.1)
bill-back c b (Some n) f form fits = rw (f.desk, f.key, f.on, lt-ltb b.source 65536 fits.0, le-leb 1971 b.levy_year form.from, le-leb b.levy_year 2199 form.to, lt-ltb b.payer 4294967296 fits.1)

collect-back : (c : Change) (a : BillAmount) (after : Option ℕ) → IsFront c → IsActInForm c.on (Collect a) → ActFits (Collect a) → IsBack c (Collect a) after
collect-back c a None f form fits = rw (f.desk, f.key, f.on, lt-ltb a.bill 4294967296 fits.0)
collect-back c a (Some n) f form fits = rw (f.desk, f.key, f.on, lt-ltb a.bill 4294967296 fits.0)

receive-back : (c : Change) (r : SourceAmount) (after : Option ℕ) → IsFront c → IsActInForm c.on (Receive r) → ActFits (Receive r) → IsBack c (Receive r) after
receive-back c r None f form fits = rw (f.desk, f.key, f.on, lt-ltb r.source 65536 fits.0)
receive-back c r (Some n) f form fits = rw (f.desk, f.key, f.on, lt-ltb r.source 65536 fits.0)

write_off-back : (c : Change) (a : BillAmount) (after : Option ℕ) → IsFront c → IsActInForm c.on (WriteOff a) → ActFits (WriteOff a) → IsBack c (WriteOff a) after
write_off-back c a None f form fits = rw (f.desk, f.key, f.on, lt-ltb a.bill 4294967296 fits.0)
write_off-back c a (Some n) f form fits = rw (f.desk, f.key, f.on, lt-ltb a.bill 4294967296 fits.0)

donate-back : (c : Change) (d : Donation) (after : Option ℕ) → IsFront c → IsActInForm c.on (Asset (Donate d)) → ActFits (Asset (Donate d)) → IsBack c (Asset (Donate d)) after
donate-back c d None f form fits = rw (f.desk, f.key, f.on, lt-ltb d.dept 65536 fits.0, lt-ltb d.object 65536 fits.1)
donate-back c d (Some n) f form fits = rw (f.desk, f.key, f.on, lt-ltb d.dept 65536 fits.0, lt-ltb d.object 65536 fits.1)

dispose-back : (c : Change) (d : Disposal) (after : Option ℕ) → IsFront c → IsActInForm c.on (Asset (Dispose d)) → ActFits (Asset (Dispose d)) → IsBack c (Asset (Dispose d)) after
dispose-back c d None f form fits = rw (f.desk, f.key, f.on, lt-ltb d.asset 4294967296 fits.0, lt-ltb d.fund 65536 fits.1)
dispose-back c d (Some n) f form fits = rw (f.desk, f.key, f.on, lt-ltb d.asset 4294967296 fits.0, lt-ltb d.fund 65536 fits.1)

issue-back : (c : Change) (i : BondIssue) (after : Option ℕ) → IsFront c → IsActInForm c.on (Issue i) → ActFits (Issue i) → IsBack c (Issue i) after
issue-back c i None f form fits = rw (f.desk, f.key, f.on, le-leb c.on.day 28 form.day, lt-ltb i.fund 65536 fits.0, lt-ltb i.terms.rate_bp 65536 fits.2.0, le-leb i.terms.rate_bp 10000 form.rate, lt-ltb i.terms.every 65536 fits.2.1, form.every, items.principals-back i.terms.principals fits.2.2 form.principals, eq-eqb (sum i.terms.principals) i.amount form.total, le-leb (month_number c.on.year c.on.month + i.terms.every * length i.terms.principals) (month_number 2199 12) form.last_due)
issue-back c i (Some n) f form fits = rw (f.desk, f.key, f.on, le-leb c.on.day 28 form.day, lt-ltb i.fund 65536 fits.0, lt-ltb i.terms.rate_bp 65536 fits.2.0, le-leb i.terms.rate_bp 10000 form.rate, lt-ltb i.terms.every 65536 fits.2.1, form.every, items.principals-back i.terms.principals fits.2.2 form.principals, eq-eqb (sum i.terms.principals) i.amount form.total, le-leb (month_number c.on.year c.on.month + i.terms.every * length i.terms.principals) (month_number 2199 12) form.last_due)

pay_due-back : (c : Change) (p : DebtPayment) (after : Option ℕ) → IsFront c → IsActInForm c.on (PayDue p) → ActFits (PayDue p) → IsBack c (PayDue p) after
pay_due-back c p None f form fits = rw (f.desk, f.key, f.on, lt-ltb p.bond 4294967296 fits.0, lt-ltb p.fund 65536 fits.1, lt-ltb p.dept 65536 fits.2, lt-ltb p.principal 65536 fits.3, lt-ltb p.interest 65536 fits.4)
pay_due-back c p (Some n) f form fits = rw (f.desk, f.key, f.on, lt-ltb p.bond 4294967296 fits.0, lt-ltb p.fund 65536 fits.1, lt-ltb p.dept 65536 fits.2, lt-ltb p.principal 65536 fits.3, lt-ltb p.interest 65536 fits.4)

earn-back : (c : Change) (a : LeaveAmount) (after : Option ℕ) → IsFront c → IsActInForm c.on (Leave (Earn a)) → ActFits (Leave (Earn a)) → IsBack c (Leave (Earn a)) after
earn-back c a None f form fits = rw (f.desk, f.key, f.on, lt-ltb a.fund 65536 fits.0, lt-ltb a.dept 65536 fits.1)
earn-back c a (Some n) f form fits = rw (f.desk, f.key, f.on, lt-ltb a.fund 65536 fits.0, lt-ltb a.dept 65536 fits.1)

use-back : (c : Change) (a : LeaveAmount) (after : Option ℕ) → IsFront c → IsActInForm c.on (Leave (Use a)) → ActFits (Leave (Use a)) → IsBack c (Leave (Use a)) after
use-back c a None f form fits = rw (f.desk, f.key, f.on, lt-ltb a.fund 65536 fits.0, lt-ltb a.dept 65536 fits.1)
use-back c a (Some n) f form fits = rw (f.desk, f.key, f.on, lt-ltb a.fund 65536 fits.0, lt-ltb a.dept 65536 fits.1)

mature-back : (c : Change) (m : LeaveMaturity) (after : Option ℕ) → IsFront c → IsActInForm c.on (Leave (Mature m)) → ActFits (Leave (Mature m)) → IsBack c (Leave (Mature m)) after
mature-back c m None f form fits = rw (f.desk, f.key, f.on, lt-ltb m.fund 65536 fits.0, lt-ltb m.dept 65536 fits.1, lt-ltb m.object 65536 fits.2)
mature-back c m (Some n) f form fits = rw (f.desk, f.key, f.on, lt-ltb m.fund 65536 fits.0, lt-ltb m.dept 65536 fits.1, lt-ltb m.object 65536 fits.2)

transfer_cash-back : (c : Change) (x : ℕ) (y : ℕ) (a : ℕ) (after : Option ℕ) → IsFront c → IsActInForm c.on (Interfund (record { what = move.Transfer; from = x; to = y; amount = a })) → ActFits (Interfund (record { what = move.Transfer; from = x; to = y; amount = a })) → IsBack c (Interfund (record { what = move.Transfer; from = x; to = y; amount = a })) after
transfer_cash-back c x y a None f form fits = rw (f.desk, f.key, f.on, lt-ltb x 65536 fits.0, lt-ltb y 65536 fits.1, ne_eqb x y form)
transfer_cash-back c x y a (Some n) f form fits = rw (f.desk, f.key, f.on, lt-ltb x 65536 fits.0, lt-ltb y 65536 fits.1, ne_eqb x y form)

loan_cash-back : (c : Change) (x : ℕ) (y : ℕ) (a : ℕ) (after : Option ℕ) → IsFront c → IsActInForm c.on (Interfund (record { what = move.Loan; from = x; to = y; amount = a })) → ActFits (Interfund (record { what = move.Loan; from = x; to = y; amount = a })) → IsBack c (Interfund (record { what = move.Loan; from = x; to = y; amount = a })) after
loan_cash-back c x y a None f form fits = rw (f.desk, f.key, f.on, lt-ltb x 65536 fits.0, lt-ltb y 65536 fits.1, ne_eqb x y form)
loan_cash-back c x y a (Some n) f form fits = rw (f.desk, f.key, f.on, lt-ltb x 65536 fits.0, lt-ltb y 65536 fits.1, ne_eqb x y form)

repay_cash-back : (c : Change) (x : ℕ) (y : ℕ) (a : ℕ) (after : Option ℕ) → IsFront c → IsActInForm c.on (Interfund (record { what = move.Repay; from = x; to = y; amount = a })) → ActFits (Interfund (record { what = move.Repay; from = x; to = y; amount = a })) → IsBack c (Interfund (record { what = move.Repay; from = x; to = y; amount = a })) after
repay_cash-back c x y a None f form fits = rw (f.desk, f.key, f.on, lt-ltb x 65536 fits.0, lt-ltb y 65536 fits.1, ne_eqb x y form)
repay_cash-back c x y a (Some n) f form fits = rw (f.desk, f.key, f.on, lt-ltb x 65536 fits.0, lt-ltb y 65536 fits.1, ne_eqb x y form)

close_month-back : (c : Change) (m : Month) (after : Option ℕ) → IsFront c → IsActInForm c.on (Close (period.Month m)) → ActFits (Close (period.Month m)) → IsBack c (Close (period.Month m)) after
close_month-back c m None f form fits = rw (f.desk, f.key, f.on, month_of_text-month_text m form)
close_month-back c m (Some n) f form fits = rw (f.desk, f.key, f.on, month_of_text-month_text m form)

close_year-back : (c : Change) (y : ℕ) (after : Option ℕ) → IsFront c → IsActInForm c.on (Close (period.Year y)) → ActFits (Close (period.Year y)) → IsBack c (Close (period.Year y)) after
close_year-back c y None f form fits = rw (f.desk, f.key, f.on, le-leb 1971 y form.from, le-leb y 2199 form.to)
close_year-back c y (Some n) f form fits = rw (f.desk, f.key, f.on, le-leb 1971 y form.from, le-leb y 2199 form.to)

lease-back : (c : Change) (l : NewLease) (after : Option ℕ) → IsFront c → IsActInForm c.on (Lease l) → ActFits (Lease l) → IsBack c (Lease l) after
lease-back c l None f form fits = rw (f.desk, f.key, f.on, le-leb c.on.day 28 form.terms.day, lt-ltb l.vendor 4294967296 fits.0, lt-ltb l.account.fund 65536 fits.1.0, lt-ltb l.account.dept 65536 fits.1.1, lt-ltb l.account.object 65536 fits.1.2, lt-ltb l.terms.rate_bp 65536 fits.2.0, le-leb l.terms.rate_bp 10000 form.terms.rate, lt-ltb l.terms.every 65536 fits.2.1, form.terms.every, items.principals-back l.terms.principals fits.2.2 form.terms.principals, eq-eqb (sum l.terms.principals) l.account.amount form.terms.total, le-leb (month_number c.on.year c.on.month + l.terms.every * length l.terms.principals) (month_number 2199 12) form.terms.last_due, lt-ltb 12 (l.terms.every * length l.terms.principals) form.term)
lease-back c l (Some n) f form fits = rw (f.desk, f.key, f.on, le-leb c.on.day 28 form.terms.day, lt-ltb l.vendor 4294967296 fits.0, lt-ltb l.account.fund 65536 fits.1.0, lt-ltb l.account.dept 65536 fits.1.1, lt-ltb l.account.object 65536 fits.1.2, lt-ltb l.terms.rate_bp 65536 fits.2.0, le-leb l.terms.rate_bp 10000 form.terms.rate, lt-ltb l.terms.every 65536 fits.2.1, form.terms.every, items.principals-back l.terms.principals fits.2.2 form.terms.principals, eq-eqb (sum l.terms.principals) l.account.amount form.terms.total, le-leb (month_number c.on.year c.on.month + l.terms.every * length l.terms.principals) (month_number 2199 12) form.terms.last_due, lt-ltb 12 (l.terms.every * length l.terms.principals) form.term)

-- ---- any change

order-back : (c : Change) (v : ℕ) (r : Option ℕ) (xs : List AccountItem) (after : Option ℕ) → IsFront c
    → IsActInForm c.on (Order (record { vendor = v; requisition = r; items = xs })) → ActFits (Order (record { vendor = v; requisition = r; items = xs })) → IsBack c (Order (record { vendor = v; requisition = r; items = xs })) after
order-back c v None xs after f form fits = plain_order-back c v xs after f form fits
order-back c v (Some r) xs after f form fits = requested_order-back c v r xs after f form fits

any_voucher-back : (c : Change) (v : ℕ) (b : Bool) (xs : List VoucherItem) (after : Option ℕ) → IsFront c
    → IsActInForm c.on (Voucher (record { vendor = v; back = b; items = xs })) → ActFits (Voucher (record { vendor = v; back = b; items = xs })) → IsBack c (Voucher (record { vendor = v; back = b; items = xs })) after
any_voucher-back c v false xs after f form fits = voucher-back c v xs after f form fits
any_voucher-back c v true xs after f form fits = back_voucher-back c v xs after f form fits

interfund-back : (c : Change) (k : FundMoveKind) (x y a : ℕ) (after : Option ℕ) → IsFront c
    → IsActInForm c.on (Interfund (record { what = k; from = x; to = y; amount = a })) → ActFits (Interfund (record { what = k; from = x; to = y; amount = a })) → IsBack c (Interfund (record { what = k; from = x; to = y; amount = a })) after
interfund-back c move.Transfer x y a after f form fits = transfer_cash-back c x y a after f form fits
interfund-back c move.Loan x y a after f form fits = loan_cash-back c x y a after f form fits
interfund-back c move.Repay x y a after f form fits = repay_cash-back c x y a after f form fits

act-back : (c : Change) (a : Act) (after : Option ℕ) → IsFront c → IsActInForm c.on a → ActFits a → IsBack c a after
act-back c (Adopt a) after f form fits = adopt-back c a after f form fits
act-back c (Amend a) after f form fits = amend-back c a after f form fits
act-back c (Transfer t) after f form fits = transfer-back c t after f form fits
act-back c (Requisition r) after f form fits = requisition-back c r after f form fits
act-back c (Withdraw m) after f form fits = withdraw-back c m after f form fits
act-back c (Order o) after f form fits = order-back c o.vendor o.requisition o.items after f form fits
act-back c (ChangeOrder o) after f form fits = change_order-back c o after f form fits
act-back c (CancelOrder m) after f form fits = cancel_order-back c m after f form fits
act-back c (Voucher v) after f form fits = any_voucher-back c v.vendor v.back v.items after f form fits
act-back c (VoidVoucher m) after f form fits = void_voucher-back c m after f form fits
act-back c (Pay p) after f form fits = pay-back c p after f form fits
act-back c (Bill b) after f form fits = bill-back c b after f form fits
act-back c (Collect a) after f form fits = collect-back c a after f form fits
act-back c (Receive r) after f form fits = receive-back c r after f form fits
act-back c (WriteOff a) after f form fits = write_off-back c a after f form fits
act-back c (Asset (Donate d)) after f form fits = donate-back c d after f form fits
act-back c (Asset (Dispose d)) after f form fits = dispose-back c d after f form fits
act-back c (Issue i) after f form fits = issue-back c i after f form fits
act-back c (PayDue p) after f form fits = pay_due-back c p after f form fits
act-back c (Leave (Earn a)) after f form fits = earn-back c a after f form fits
act-back c (Leave (Use a)) after f form fits = use-back c a after f form fits
act-back c (Leave (Mature m)) after f form fits = mature-back c m after f form fits
act-back c (Interfund m) after f form fits = interfund-back c m.what m.from m.to m.amount after f form fits
act-back c (Close (period.Month m)) after f form fits = close_month-back c m after f form fits
act-back c (Close (period.Year y)) after f form fits = close_year-back c y after f form fits
act-back c (Lease l) after f form fits = lease-back c l after f form fits

pub object_call_of-call_data : (c : Change) → IsChangeInForm c → ChangeFits c → object_call_of (sorted (call_data c)) ≡ Ok (call.Change c)
object_call_of-call_data c form fits =
    act-back c c.act c.after (record { desk = lt-ltb c.desk 65536 fits.desk; key = form.key; on = day_of_text-day_text c.on form.on }) form.act fits.act
