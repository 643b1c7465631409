-- The line of JSON that a change is as a call: compact, its fields in the order of the call, and a
-- field that may be absent only where it says something.
use Rattle.std.specs.Prelude.{ℕ, List, [], ◌∷◌, ◌++◌, Bool, true, false, Option, Some, None, codes}
use Rattle.json.specs.Print.{quoted}
use Rattle.serde_json.specs.Data.{Data, boolean, string}
use Rattle.serde_json.specs.Written.{comma_if}
use Rattle.cf_calls.specs.declared.acts.Act.{Act}
use Rattle.cf_calls.specs.declared.acts.Act.TheVariants.{Adopt, Amend, Transfer, Requisition, Withdraw, Order, ChangeOrder, CancelOrder, Voucher, VoidVoucher, Pay, Bill, Collect, Receive, WriteOff, Asset, Issue, PayDue, Leave, Interfund, Close, Lease}
use Rattle.cf_calls.specs.declared.acts.Adoption.{Adoption}
use Rattle.cf_calls.specs.declared.acts.Amendment.{Amendment}
use Rattle.cf_calls.specs.declared.acts.LineTransfer.{LineTransfer}
use Rattle.cf_calls.specs.declared.acts.NewRequisition.{NewRequisition}
use Rattle.cf_calls.specs.declared.acts.NewOrder.{NewOrder}
use Rattle.cf_calls.specs.declared.acts.OrderChange.{OrderChange}
use Rattle.cf_calls.specs.declared.acts.NewVoucher.{NewVoucher}
use Rattle.cf_calls.specs.declared.acts.Payment.{Payment}
use Rattle.cf_calls.specs.declared.acts.NewBill.{NewBill}
use Rattle.cf_calls.specs.declared.acts.BillAmount.{BillAmount}
use Rattle.cf_calls.specs.declared.acts.AssetAct.{AssetAct}
use Rattle.cf_calls.specs.declared.acts.AssetAct.TheVariants.{Donate, Dispose}
use Rattle.cf_calls.specs.declared.acts.BondIssue.{BondIssue}
use Rattle.cf_calls.specs.declared.acts.DebtPayment.{DebtPayment}
use Rattle.cf_calls.specs.declared.acts.LeaveAct.{LeaveAct}
use Rattle.cf_calls.specs.declared.acts.LeaveAct.TheVariants.{Earn, Use, Mature}
use Rattle.cf_calls.specs.declared.acts.LeaveAmount.{LeaveAmount}
use Rattle.cf_calls.specs.declared.acts.LeaveMaturity.{LeaveMaturity}
use Rattle.cf_calls.specs.declared.acts.FundMove.{FundMove}
use Rattle.cf_calls.specs.declared.acts.NewLease.{NewLease}
use Rattle.cf_calls.specs.declared.acts.Terms.{Terms}
use Rattle.cf_calls.specs.declared.acts.FundMoveKind.{FundMoveKind}
use Rattle.cf_calls.specs.declared.acts.FundMoveKind.TheVariants as move
use Rattle.cf_calls.specs.declared.acts.Period.{Period}
use Rattle.cf_calls.specs.declared.acts.Period.TheVariants as period
use Rattle.cf_calls.specs.declared.items.SourceAmount.{SourceAmount}
use Rattle.cf_calls.specs.declared.call.Change.{Change}
use Rattle.cf_calls.specs.Common.{kind_of, word_of}
use Rattle.cf_json_members.specs.Objects.{fields, count, day, month, text_of, list_of}
use Rattle.cf_json_calls.specs.Values.{signed, line_amount_data, source_amount_data, account_fields, account_item_data, voucher_item_data}

-- ---- the fields of each call

abbrev pub adoption_fields : Adoption → List (List ℕ × Data)
adoption_fields a =
    (codes "fund", count a.fund) ∷ (codes "year", count a.year)
    ∷ (codes "lines", list_of line_amount_data a.lines)
    ∷ (codes "estimates", list_of source_amount_data a.estimates) ∷ []

abbrev pub amendment_fields : Amendment → List (List ℕ × Data)
amendment_fields a =
    (codes "fund", count a.fund) ∷ (codes "year", count a.year) ∷ (codes "line", count a.line)
    ∷ (codes "by", signed a.by) ∷ []

abbrev pub transfer_fields : LineTransfer → List (List ℕ × Data)
transfer_fields t =
    (codes "fund", count t.fund) ∷ (codes "year", count t.year) ∷ (codes "from", count t.from)
    ∷ (codes "to", count t.to) ∷ (codes "amount", count t.amount) ∷ []

abbrev pub requisition_fields : NewRequisition → List (List ℕ × Data)
requisition_fields r = (codes "items", list_of account_item_data r.items) ∷ []

-- one number under a name
abbrev pub number_field : List ℕ → ℕ → List (List ℕ × Data)
number_field name n = (name, count n) ∷ []

-- the same, where there is one
abbrev pub optional_field : List ℕ → Option ℕ → List (List ℕ × Data)
optional_field name None = []
optional_field name (Some n) = number_field name n

abbrev pub order_fields : NewOrder → List (List ℕ × Data)
order_fields o = (codes "vendor", count o.vendor)
    ∷ (optional_field (codes "requisition") o.requisition
    ++ (codes "items", list_of account_item_data o.items) ∷ [])

abbrev pub order_change_fields : OrderChange → List (List ℕ × Data)
order_change_fields c =
    (codes "order", count c.order) ∷ (codes "item", count c.item) ∷ (codes "fund", count c.fund)
    ∷ (codes "dept", count c.dept) ∷ (codes "object", count c.object) ∷ (codes "by", signed c.by)
    ∷ []

-- `back`, where it is true
abbrev pub back_field : Bool → List (List ℕ × Data)
back_field false = []
back_field true = (codes "back", boolean true) ∷ []

abbrev pub voucher_fields : NewVoucher → List (List ℕ × Data)
voucher_fields v = (codes "vendor", count v.vendor)
    ∷ (back_field v.back ++ (codes "items", list_of voucher_item_data v.items) ∷ [])

abbrev pub payment_fields : Payment → List (List ℕ × Data)
payment_fields p = (codes "vouchers", list_of count p.vouchers) ∷ []

abbrev pub bill_fields : NewBill → List (List ℕ × Data)
bill_fields b = (codes "source", count b.source) ∷ (codes "levy_year", count b.levy_year)
    ∷ (codes "payer", count b.payer) ∷ (codes "amount", count b.amount) ∷ []

abbrev pub bill_amount_fields : BillAmount → List (List ℕ × Data)
bill_amount_fields a = (codes "bill", count a.bill) ∷ (codes "amount", count a.amount) ∷ []

abbrev pub receipt_fields : SourceAmount → List (List ℕ × Data)
receipt_fields r = (codes "source", count r.source) ∷ (codes "amount", count r.amount) ∷ []

abbrev pub asset_fields : AssetAct → List (List ℕ × Data)
asset_fields (Donate d) =
    (codes "what", string (codes "donate")) ∷ (codes "dept", count d.dept)
    ∷ (codes "object", count d.object) ∷ (codes "amount", count d.amount) ∷ []
asset_fields (Dispose d) =
    (codes "what", string (codes "dispose")) ∷ (codes "asset", count d.asset)
    ∷ (codes "fund", count d.fund) ∷ (codes "proceeds", count d.proceeds) ∷ []

abbrev pub terms_fields : Terms → List (List ℕ × Data)
terms_fields t = (codes "rate_bp", count t.rate_bp) ∷ (codes "every", count t.every)
    ∷ (codes "principals", list_of count t.principals) ∷ []

abbrev pub issue_fields : BondIssue → List (List ℕ × Data)
issue_fields i = (codes "fund", count i.fund) ∷ (codes "amount", count i.amount)
    ∷ terms_fields i.terms

abbrev pub debt_payment_fields : DebtPayment → List (List ℕ × Data)
debt_payment_fields p =
    (codes "bond", count p.bond) ∷ (codes "fund", count p.fund) ∷ (codes "dept", count p.dept)
    ∷ (codes "principal", count p.principal) ∷ (codes "interest", count p.interest) ∷ []

-- an amount of leave, with what is done with it
abbrev pub leave_amount_fields : List ℕ → LeaveAmount → List (List ℕ × Data)
leave_amount_fields what a =
    (codes "what", string what) ∷ (codes "fund", count a.fund) ∷ (codes "dept", count a.dept)
    ∷ (codes "amount", count a.amount) ∷ []

abbrev pub maturity_fields : LeaveMaturity → List (List ℕ × Data)
maturity_fields m =
    (codes "what", string (codes "mature")) ∷ (codes "fund", count m.fund)
    ∷ (codes "dept", count m.dept) ∷ (codes "object", count m.object)
    ∷ (codes "amount", count m.amount) ∷ []

abbrev pub leave_fields : LeaveAct → List (List ℕ × Data)
leave_fields (Earn a) = leave_amount_fields (codes "earn") a
leave_fields (Use a) = leave_amount_fields (codes "use") a
leave_fields (Mature m) = maturity_fields m

abbrev pub move_word : FundMoveKind → List ℕ
move_word move.Transfer = codes "transfer"
move_word move.Loan = codes "loan"
move_word move.Repay = codes "repay"

abbrev pub fund_move_fields : FundMove → List (List ℕ × Data)
fund_move_fields m =
    (codes "what", string (move_word m.what)) ∷ (codes "from", count m.from)
    ∷ (codes "to", count m.to) ∷ (codes "amount", count m.amount) ∷ []

abbrev pub period_fields : Period → List (List ℕ × Data)
period_fields (period.Month m) =
    (codes "what", string (codes "month")) ∷ (codes "month", month m) ∷ []
period_fields (period.Year y) = (codes "what", string (codes "year")) ∷ (codes "year", count y) ∷ []

abbrev pub lease_fields : NewLease → List (List ℕ × Data)
lease_fields l = (codes "vendor", count l.vendor)
    ∷ (account_fields l.account ++ terms_fields l.terms)

-- the fields of an act, beside those that every changing call has
abbrev pub own_fields : Act → List (List ℕ × Data)
own_fields (Adopt a) = adoption_fields a
own_fields (Amend a) = amendment_fields a
own_fields (Transfer t) = transfer_fields t
own_fields (Requisition r) = requisition_fields r
own_fields (Withdraw n) = number_field (codes "requisition") n
own_fields (Order o) = order_fields o
own_fields (ChangeOrder c) = order_change_fields c
own_fields (CancelOrder n) = number_field (codes "order") n
own_fields (Voucher v) = voucher_fields v
own_fields (VoidVoucher n) = number_field (codes "voucher") n
own_fields (Pay p) = payment_fields p
own_fields (Bill b) = bill_fields b
own_fields (Collect a) = bill_amount_fields a
own_fields (Receive r) = receipt_fields r
own_fields (WriteOff a) = bill_amount_fields a
own_fields (Asset a) = asset_fields a
own_fields (Issue i) = issue_fields i
own_fields (PayDue p) = debt_payment_fields p
own_fields (Leave l) = leave_fields l
own_fields (Interfund m) = fund_move_fields m
own_fields (Close p) = period_fields p
own_fields (Lease l) = lease_fields l

-- the word of an act's call
abbrev pub call_word : Act → List ℕ
call_word a = word_of (kind_of a)

-- ---- the call

-- the fields in front of those of the act
abbrev pub first_fields : Change → List (List ℕ × Data)
first_fields c = (codes "call", string (call_word c.act)) ∷ (codes "desk", count c.desk)
    ∷ (codes "key", string c.key) ∷ (codes "on", day c.on) ∷ []

abbrev pub call_data : Change → Data
call_data c = fields
    (first_fields c ++ (own_fields c.act ++ optional_field (codes "after") c.after))

-- the line that a change is as a call, with no newline
unfoldable pub call_text : Change → List ℕ
call_text c = text_of (call_data c)

-- ---- pieces of it

-- fields with their names, each behind a comma where something stands before it
abbrev pub fields_text : Bool → List (List ℕ × Data) → List ℕ
fields_text later [] = []
fields_text later (f ∷ fs) =
    comma_if later ++ (quoted f.0 ++ 58 ∷ (text_of f.1 ++ fields_text true fs))
