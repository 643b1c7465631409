-- The fields of each act, in the order of its payload, with the rules of form where they speak.
use Rattle.std.specs.Prelude.{ℕ, zero, suc, ◌+◌, ◌*◌, ◌==◌, ◌&&◌, not, nat_le, nat_lt, sum, length, List, ◌++◌, true, false, Bool, Option, Some, None, is_some, unwrap_or, Result, Ok}
use Rattle.cf_base.specs.declared.calendar.Day.{Day}
use Rattle.cf_base.specs.Common.{last_year}
use Rattle.cf_calls.specs.declared.acts.Act.{Act}
use Rattle.cf_calls.specs.declared.acts.Act.TheVariants.{Adopt, Amend, Transfer, Requisition, Withdraw, Order, ChangeOrder, CancelOrder, Voucher, VoidVoucher, Pay, Bill, Collect, Receive, WriteOff, Asset, Issue, PayDue, Leave, Interfund, Close, Lease}
use Rattle.cf_calls.specs.declared.acts.Adoption.{Adoption}
use Rattle.cf_calls.specs.declared.acts.Amendment.{Amendment}
use Rattle.cf_calls.specs.declared.acts.LineTransfer.{LineTransfer}
use Rattle.cf_calls.specs.declared.acts.NewRequisition.{NewRequisition}
use Rattle.cf_calls.specs.declared.acts.NewOrder.{NewOrder}
use Rattle.cf_calls.specs.declared.acts.OrderChange.{OrderChange}
use Rattle.cf_calls.specs.declared.acts.NewVoucher.{NewVoucher}
use Rattle.cf_calls.specs.declared.acts.Payment.{Payment}
use Rattle.cf_calls.specs.declared.acts.NewBill.{NewBill}
use Rattle.cf_calls.specs.declared.acts.BillAmount.{BillAmount}
use Rattle.cf_calls.specs.declared.acts.AssetAct.{AssetAct}
use Rattle.cf_calls.specs.declared.acts.AssetAct.TheVariants.{Donate, Dispose}
use Rattle.cf_calls.specs.declared.acts.Donation.{Donation}
use Rattle.cf_calls.specs.declared.acts.Disposal.{Disposal}
use Rattle.cf_calls.specs.declared.acts.BondIssue.{BondIssue}
use Rattle.cf_calls.specs.declared.acts.NewLease.{NewLease}
use Rattle.cf_calls.specs.declared.acts.Terms.{Terms}
use Rattle.cf_calls.specs.declared.acts.DebtPayment.{DebtPayment}
use Rattle.cf_calls.specs.declared.acts.LeaveAct.{LeaveAct}
use Rattle.cf_calls.specs.declared.acts.LeaveAct.TheVariants.{Earn, Use, Mature}
use Rattle.cf_calls.specs.declared.acts.LeaveAmount.{LeaveAmount}
use Rattle.cf_calls.specs.declared.acts.LeaveMaturity.{LeaveMaturity}
use Rattle.cf_calls.specs.declared.acts.FundMove.{FundMove}
use Rattle.cf_calls.specs.declared.acts.Period.{Period}
use Rattle.cf_calls.specs.declared.acts.Period.TheVariants as period
use Rattle.cf_calls.specs.declared.items.LineAmount.{LineAmount}
use Rattle.cf_calls.specs.declared.items.SourceAmount.{SourceAmount}
use Rattle.cf_calls.specs.declared.items.AccountItem.{AccountItem}
use Rattle.cf_calls.specs.declared.items.VoucherItem.{VoucherItem}
use Rattle.cf_calls.specs.declared.items.Charge.{Charge}
use Rattle.cf_calls.specs.declared.items.Charge.TheVariants.{Direct, OnOrder}
use Rattle.cf_calls.specs.declared.items.Liquidation.{Liquidation}
use Rattle.cf_calls.specs.declared.items.Liquidation.TheVariants.{Lesser, Recorded, Final}
use Rattle.cf_calls.specs.Common.{is_distinct, is_period, month_number, same_line, same_source, same_number, same_order_item}
use Rattle.cf_calls.specs.declared.kind.ActKind.{ActKind}
use Rattle.cf_calls.specs.declared.kind.ActKind.TheVariants as kind
use Rattle.cf_codec_fields.specs.Formats.{Format, and_then, kept, list, field, ◌>>=◌, done}
use Rattle.cf_codec_fields.specs.Fields.{byte, half, word, one_of, flag, year, amount, most_amount, signed, month}
use Rattle.cf_codec_fields.specs.Kinds.{move_kind}

-- ---- what stands in lists

abbrev pub line_amount : Format LineAmount
line_amount = do
  line ← field (λ i. i.line) half
  amount ← field (λ i. i.amount) amount
  done (record { line = line; amount = amount })

abbrev pub source_amount : Format SourceAmount
source_amount = do
  source ← field (λ i. i.source) half
  amount ← field (λ i. i.amount) amount
  done (record { source = source; amount = amount })

abbrev pub account_item : Format AccountItem
account_item = do
  fund ← field (λ i. i.fund) half
  dept ← field (λ i. i.dept) half
  object ← field (λ i. i.object) half
  amount ← field (λ i. i.amount) amount
  done (record { fund = fund; dept = dept; object = object; amount = amount })

-- 0 for the lesser amount, 1 with the recorded amount, 2 for the whole open amount
abbrev pub liquidation_kind : Liquidation → ℕ
liquidation_kind Lesser = 0
liquidation_kind (Recorded r) = 1
liquidation_kind Final = 2

abbrev pub recorded_of : Liquidation → ℕ
recorded_of (Recorded r) = r
recorded_of _ = 0

abbrev pub liquidation_by : ℕ → Format Liquidation
liquidation_by zero = done Lesser
liquidation_by (suc zero) = do
  recorded ← field recorded_of amount
  done (Recorded recorded)
liquidation_by _ = done Final

abbrev pub liquidation : Format Liquidation
liquidation = do
  kind ← field liquidation_kind (one_of 3)
  liquidation_by kind

-- 0 for the appropriation itself, 1 with the item of an order
abbrev pub is_on_order : Charge → Bool
is_on_order Direct = false
is_on_order (OnOrder i o h) = true

abbrev pub order_of : Charge → ℕ
order_of Direct = 0
order_of (OnOrder i o h) = o

abbrev pub order_item_of : Charge → ℕ
order_item_of Direct = 0
order_item_of (OnOrder i o h) = i

abbrev pub how_of : Charge → Liquidation
how_of Direct = Lesser
how_of (OnOrder i o h) = h

abbrev pub charge_by : Bool → Format Charge
charge_by false = done Direct
charge_by true = do
  order ← field order_of word
  place ← field order_item_of half
  how ← field how_of liquidation
  done (OnOrder place order how)

abbrev pub charge : Format Charge
charge = do
  on_order ← field is_on_order flag
  charge_by on_order

abbrev pub voucher_item : Format VoucherItem
voucher_item = do
  account ← field (λ i. i.account) account_item
  charge ← field (λ i. i.charge) charge
  done (record { account = account; charge = charge })

-- ---- lists, with the rules on the whole of them

abbrev pub line_amounts : Format (List LineAmount)
line_amounts = kept (is_distinct same_line) (list 0 4096 line_amount)

abbrev pub source_amounts : Format (List SourceAmount)
source_amounts = kept (is_distinct same_source) (list 0 256 source_amount)

abbrev pub account_items : Format (List AccountItem)
account_items = list 1 32 account_item

abbrev pub voucher_items : Format (List VoucherItem)
voucher_items = kept (is_distinct same_order_item) (list 1 32 voucher_item)

abbrev pub voucher_numbers : Format (List ℕ)
voucher_numbers = kept (is_distinct same_number) (list 1 64 word)

-- they sum to the amount, the term that they are for is above so many months, and the last is due
-- by the end of 2199
abbrev pub is_repayment : Day → ℕ → ℕ → ℕ → List ℕ → Bool
is_repayment on above amount every principals =
    (sum principals == amount)
    && nat_lt above (every * length principals)
    && nat_le (month_number on.year on.month + every * length principals)
    (month_number last_year 12)

abbrev pub principals : Day → ℕ → ℕ → ℕ → Format (List ℕ)
principals on above amount every =
    kept (is_repayment on above amount every) (list 1 120 most_amount)

-- ---- the acts

abbrev pub adoption : Format Adoption
adoption = do
  fund ← field (λ a. a.fund) half
  year ← field (λ a. a.year) year
  lines ← field (λ a. a.lines) line_amounts
  estimates ← field (λ a. a.estimates) source_amounts
  done (record { fund = fund; year = year; lines = lines; estimates = estimates })

abbrev pub amendment : Format Amendment
amendment = do
  fund ← field (λ a. a.fund) half
  year ← field (λ a. a.year) year
  line ← field (λ a. a.line) half
  by ← field (λ a. a.by) signed
  done (record { fund = fund; year = year; line = line; by = by })

-- another number than this one
abbrev pub other_than : ℕ → Format ℕ
other_than n = kept (λ m. not (n == m)) half

abbrev pub transfer : Format LineTransfer
transfer = do
  fund ← field (λ t. t.fund) half
  year ← field (λ t. t.year) year
  from ← field (λ t. t.from) half
  to ← field (λ t. t.to) (other_than from)
  amount ← field (λ t. t.amount) amount
  done (record { fund = fund; year = year; from = from; to = to; amount = amount })

abbrev pub new_requisition : Format NewRequisition
new_requisition = do
  items ← field (λ r. r.items) account_items
  done (record { items = items })

-- a number that may be absent: 0, or 1 with the number
abbrev pub optional_by : Bool → Format (Option ℕ)
optional_by false = done None
optional_by true = do
  n ← field (λ o. unwrap_or o 0) word
  done (Some n)

abbrev pub optional : Format (Option ℕ)
optional = do
  is_there ← field is_some flag
  optional_by is_there

abbrev pub new_order : Format NewOrder
new_order = do
  vendor ← field (λ p. p.vendor) word
  requisition ← field (λ p. p.requisition) optional
  items ← field (λ p. p.items) account_items
  done (record { vendor = vendor; requisition = requisition; items = items })

-- items of an order count from 1
abbrev pub order_change : Format OrderChange
order_change = do
  order ← field (λ c. c.order) word
  place ← field (λ c. c.item) (kept (nat_le 1) half)
  fund ← field (λ c. c.fund) half
  dept ← field (λ c. c.dept) half
  object ← field (λ c. c.object) half
  by ← field (λ c. c.by) signed
  done (record { order = order; item = place; fund = fund; dept = dept; object = object; by = by })

abbrev pub new_voucher : Format NewVoucher
new_voucher = do
  vendor ← field (λ i. i.vendor) word
  back ← field (λ i. i.back) flag
  items ← field (λ i. i.items) voucher_items
  done (record { vendor = vendor; back = back; items = items })

abbrev pub payment : Format Payment
payment = do
  vouchers ← field (λ p. p.vouchers) voucher_numbers
  done (record { vouchers = vouchers })

abbrev pub new_bill : Format NewBill
new_bill = do
  source ← field (λ l. l.source) half
  levy_year ← field (λ l. l.levy_year) year
  payer ← field (λ l. l.payer) word
  amount ← field (λ l. l.amount) amount
  done (record { source = source; levy_year = levy_year; payer = payer; amount = amount })

abbrev pub bill_amount : Format BillAmount
bill_amount = do
  bill ← field (λ a. a.bill) word
  amount ← field (λ a. a.amount) amount
  done (record { bill = bill; amount = amount })

abbrev pub donation : Format Donation
donation = do
  dept ← field (λ d. d.dept) half
  object ← field (λ d. d.object) half
  amount ← field (λ d. d.amount) amount
  done (record { dept = dept; object = object; amount = amount })

abbrev pub disposal : Format Disposal
disposal = do
  asset ← field (λ d. d.asset) word
  fund ← field (λ d. d.fund) half
  proceeds ← field (λ d. d.proceeds) most_amount
  done (record { asset = asset; fund = fund; proceeds = proceeds })

-- the terms of a debt of this amount: the rate is at most 10,000 basis points, and there are 1, 2,
-- 3, 4, 6 or 12 months between payments
abbrev pub terms : Day → ℕ → ℕ → Format Terms
terms on above amount = do
  rate_bp ← field (λ t. t.rate_bp) (kept (λ n. nat_le n 10000) half)
  every ← field (λ t. t.every) (kept is_period byte)
  principals ← field (λ t. t.principals) (principals on above amount every)
  done (record { rate_bp = rate_bp; every = every; principals = principals })

abbrev pub issue : Day → Format BondIssue
issue on = do
  fund ← field (λ i. i.fund) half
  amount ← field (λ i. i.amount) amount
  terms ← field (λ i. i.terms) (terms on 0 amount)
  done (record { fund = fund; amount = amount; terms = terms })

-- a lease's term is above 12 months (GASB Statement 87)
abbrev pub lease : Day → Format NewLease
lease on = do
  vendor ← field (λ l. l.vendor) word
  account ← field (λ l. l.account) account_item
  terms ← field (λ l. l.terms) (terms on 12 account.amount)
  done (record { vendor = vendor; account = account; terms = terms })

abbrev pub debt_payment : Format DebtPayment
debt_payment = do
  bond ← field (λ p. p.bond) word
  fund ← field (λ p. p.fund) half
  dept ← field (λ p. p.dept) half
  principal ← field (λ p. p.principal) half
  interest ← field (λ p. p.interest) half
  done (record {
    bond = bond;
    fund = fund;
    dept = dept;
    principal = principal;
    interest = interest;
  })

abbrev pub leave_amount : Format LeaveAmount
leave_amount = do
  fund ← field (λ a. a.fund) half
  dept ← field (λ a. a.dept) half
  amount ← field (λ a. a.amount) amount
  done (record { fund = fund; dept = dept; amount = amount })

abbrev pub maturity : Format LeaveMaturity
maturity = do
  fund ← field (λ m. m.fund) half
  dept ← field (λ m. m.dept) half
  object ← field (λ m. m.object) half
  amount ← field (λ m. m.amount) amount
  done (record { fund = fund; dept = dept; object = object; amount = amount })

abbrev pub fund_move : Format FundMove
fund_move = do
  what ← field (λ m. m.what) move_kind
  from ← field (λ m. m.from) half
  to ← field (λ m. m.to) (other_than from)
  amount ← field (λ m. m.amount) amount
  done (record { what = what; from = from; to = to; amount = amount })

-- ---- acts of several kinds, the kind in front

-- what is read, as one of the variants
abbrev pub made : {A B : Type 0} → (A → B) → Result (A × List ℕ) ℕ → Result (B × List ℕ) ℕ
made make reading = and_then reading (λ a rest. Ok (make a, rest))

-- how a value is written: its bytes, how many they are, and that its numbers fit
pub record Written : Type 1 where
  pub bytes : List ℕ
  pub size : ℕ
  pub fits : Type 0

abbrev pub written : {A : Type 0} → Format A → A → Written
written f a = record { bytes = f.bytes a; size = f.size a; fits = f.fits a }

-- behind a field that says which of several kinds it is
abbrev pub behind : {K A : Type 0} → Format K → K → Format A → A → Written
behind which kind f a =
    record {
      bytes = which.bytes kind ++ f.bytes a;
      size = which.size kind + f.size a;
      fits = f.fits a;
    }

-- values of several kinds, the kind in front
abbrev pub one_of_kinds : {K A : Type 0} → Format K → (A → Written)
    → (K → List ℕ → Result (A × List ℕ) ℕ) → Format A
one_of_kinds which writing reading = record {
  bytes = λ a. (writing a).bytes;
  size = λ a. (writing a).size;
  fits = λ a. (writing a).fits;
  read = λ bytes. and_then (which.read bytes) reading;
}

-- 0 for a donation, 1 for a disposal
abbrev pub asset_act_written : AssetAct → Written
asset_act_written (Donate d) = behind flag false donation d
asset_act_written (Dispose d) = behind flag true disposal d

abbrev pub asset_act_by : Bool → List ℕ → Result (AssetAct × List ℕ) ℕ
asset_act_by false bytes = made Donate (donation.read bytes)
asset_act_by true bytes = made Dispose (disposal.read bytes)

abbrev pub asset_act : Format AssetAct
asset_act = one_of_kinds flag asset_act_written asset_act_by

-- 0 where leave is earned, 1 where it is used, 2 where it is paid out
abbrev pub leave_act_written : LeaveAct → Written
leave_act_written (Earn a) = behind (one_of 3) 0 leave_amount a
leave_act_written (Use a) = behind (one_of 3) 1 leave_amount a
leave_act_written (Mature m) = behind (one_of 3) 2 maturity m

abbrev pub leave_act_by : ℕ → List ℕ → Result (LeaveAct × List ℕ) ℕ
leave_act_by zero bytes = made Earn (leave_amount.read bytes)
leave_act_by (suc zero) bytes = made Use (leave_amount.read bytes)
leave_act_by _ bytes = made Mature (maturity.read bytes)

abbrev pub leave_act : Format LeaveAct
leave_act = one_of_kinds (one_of 3) leave_act_written leave_act_by

-- 0 for a month, 1 for a year
abbrev pub period_written : Period → Written
period_written (period.Month m) = behind flag false month m
period_written (period.Year y) = behind flag true year y

abbrev pub period_by : Bool → List ℕ → Result (Period × List ℕ) ℕ
period_by false bytes = made period.Month (month.read bytes)
period_by true bytes = made period.Year (year.read bytes)

abbrev pub closed_period : Format Period
closed_period = one_of_kinds flag period_written period_by

-- ---- the fields of an act, whose kind stands in front of the entry

abbrev pub act_written : Day → Act → Written
act_written on (Adopt a) = written adoption a
act_written on (Amend a) = written amendment a
act_written on (Transfer t) = written transfer t
act_written on (Requisition r) = written new_requisition r
act_written on (Withdraw n) = written word n
act_written on (Order p) = written new_order p
act_written on (ChangeOrder c) = written order_change c
act_written on (CancelOrder n) = written word n
act_written on (Voucher i) = written new_voucher i
act_written on (VoidVoucher n) = written word n
act_written on (Pay p) = written payment p
act_written on (Bill l) = written new_bill l
act_written on (Collect a) = written bill_amount a
act_written on (Receive a) = written source_amount a
act_written on (WriteOff a) = written bill_amount a
act_written on (Asset a) = written asset_act a
act_written on (Issue i) = written (issue on) i
act_written on (PayDue p) = written debt_payment p
act_written on (Leave l) = written leave_act l
act_written on (Interfund m) = written fund_move m
act_written on (Close p) = written closed_period p
act_written on (Lease l) = written (lease on) l

unfoldable pub act_bytes : Day → Act → List ℕ
act_bytes on a = (act_written on a).bytes

unfoldable pub act_size : Day → Act → ℕ
act_size on a = (act_written on a).size

unfoldable pub act_fits : Day → Act → Type 0
act_fits on a = (act_written on a).fits

unfoldable pub act_at : ActKind → Day → List ℕ → Result (Act × List ℕ) ℕ
act_at kind.Adopt on bytes = made Adopt (adoption.read bytes)
act_at kind.Amend on bytes = made Amend (amendment.read bytes)
act_at kind.Transfer on bytes = made Transfer (transfer.read bytes)
act_at kind.Requisition on bytes = made Requisition (new_requisition.read bytes)
act_at kind.Withdraw on bytes = made Withdraw (word.read bytes)
act_at kind.Order on bytes = made Order (new_order.read bytes)
act_at kind.ChangeOrder on bytes = made ChangeOrder (order_change.read bytes)
act_at kind.CancelOrder on bytes = made CancelOrder (word.read bytes)
act_at kind.Voucher on bytes = made Voucher (new_voucher.read bytes)
act_at kind.VoidVoucher on bytes = made VoidVoucher (word.read bytes)
act_at kind.Pay on bytes = made Pay (payment.read bytes)
act_at kind.Bill on bytes = made Bill (new_bill.read bytes)
act_at kind.Collect on bytes = made Collect (bill_amount.read bytes)
act_at kind.Receive on bytes = made Receive (source_amount.read bytes)
act_at kind.WriteOff on bytes = made WriteOff (bill_amount.read bytes)
act_at kind.Asset on bytes = made Asset (asset_act.read bytes)
act_at kind.Issue on bytes = made Issue ((issue on).read bytes)
act_at kind.PayDue on bytes = made PayDue (debt_payment.read bytes)
act_at kind.Leave on bytes = made Leave (leave_act.read bytes)
act_at kind.Interfund on bytes = made Interfund (fund_move.read bytes)
act_at kind.Close on bytes = made Close (closed_period.read bytes)
act_at kind.Lease on bytes = made Lease ((lease on).read bytes)

abbrev pub act_for : ActKind → Day → Format Act
act_for kind on = record
    { bytes = act_bytes on; size = act_size on; fits = act_fits on; read = act_at kind on }
