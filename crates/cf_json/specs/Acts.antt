-- The fields of each changing call, in order, with the rules of form where they speak.
use Rattle.std.specs.Prelude.{ℕ, ◌+◌, ◌*◌, ◌==◌, not, nat_le, nat_lt, sum, length, List, [], ◌∷◌, false, unwrap_or, Result, Ok, codes}
use Rattle.serde_json.specs.Data.{Data}
use Rattle.serde_json.specs.Find.{as_bool}
use Rattle.cf_base.specs.declared.calendar.Day.{Day}
use Rattle.cf_base.specs.Common.{last_year}
use Rattle.cf_calls.specs.declared.acts.Act.{Act}
use Rattle.cf_calls.specs.declared.acts.Act.TheVariants.{Adopt, Amend, Transfer, Requisition, Withdraw, Order, ChangeOrder, CancelOrder, Voucher, VoidVoucher, Pay, Bill, Collect, Receive, WriteOff, Asset, Issue, PayDue, Leave, Interfund, Close, Lease}
use Rattle.cf_calls.specs.declared.acts.BillAmount.{BillAmount}
use Rattle.cf_calls.specs.declared.acts.AssetAct.TheVariants.{Donate, Dispose}
use Rattle.cf_calls.specs.declared.acts.LeaveAct.TheVariants.{Earn, Use, Mature}
use Rattle.cf_calls.specs.declared.acts.LeaveAmount.{LeaveAmount}
use Rattle.cf_calls.specs.declared.acts.LeaveMaturity.{LeaveMaturity}
use Rattle.cf_calls.specs.declared.acts.Period.TheVariants as period
use Rattle.cf_calls.specs.declared.acts.Terms.{Terms}
use Rattle.cf_calls.specs.Common.{is_period, month_number}
use Rattle.cf_json_members.specs.declared.fault.FormFault.{FormFault}
use Rattle.cf_calls.specs.declared.kind.ActKind.{ActKind}
use Rattle.cf_calls.specs.declared.kind.ActKind.TheVariants as word
use Rattle.cf_json.specs.declared.words.AssetWord.{AssetWord}
use Rattle.cf_json.specs.declared.words.AssetWord.TheVariants as asset
use Rattle.cf_json.specs.declared.words.LeaveWord.{LeaveWord}
use Rattle.cf_json.specs.declared.words.LeaveWord.TheVariants as leave
use Rattle.cf_json.specs.declared.words.PeriodWord.{PeriodWord}
use Rattle.cf_json.specs.declared.words.PeriodWord.TheVariants as closed
use Rattle.cf_json_members.specs.Faults.{◌>>=◌, must}
use Rattle.cf_json_members.specs.Fields.{field, optional}
use Rattle.cf_json_members.specs.Kinds.{as_n16, as_n32, as_count, as_year, as_by, as_month, as_word}
use Rattle.cf_json.specs.Items.{as_line_amounts, as_source_amounts, as_account_items, as_voucher_items, as_vouchers, as_principals}
use Rattle.cf_json.specs.Words.{asset_words, leave_words, move_words, period_words}

abbrev pub adoption_of : Data → Result Act FormFault
adoption_of d = do
  fund ← field as_n16 (codes "fund") d
  year ← field as_year (codes "year") d
  lines ← field as_line_amounts (codes "lines") d
  estimates ← field as_source_amounts (codes "estimates") d
  Ok (Adopt (record { fund = fund; year = year; lines = lines; estimates = estimates }))

abbrev pub amendment_of : Data → Result Act FormFault
amendment_of d = do
  fund ← field as_n16 (codes "fund") d
  year ← field as_year (codes "year") d
  line ← field as_n16 (codes "line") d
  by ← field as_by (codes "by") d
  Ok (Amend (record { fund = fund; year = year; line = line; by = by }))

abbrev pub transfer_of : Data → Result Act FormFault
transfer_of d = do
  fund ← field as_n16 (codes "fund") d
  year ← field as_year (codes "year") d
  from ← field as_n16 (codes "from") d
  to ← field as_n16 (codes "to") d
  _ ← must (not (from == to)) (codes "to")
  amount ← field as_count (codes "amount") d
  Ok (Transfer (record { fund = fund; year = year; from = from; to = to; amount = amount }))

abbrev pub new_requisition_of : Data → Result Act FormFault
new_requisition_of d = do
  items ← field as_account_items (codes "items") d
  Ok (Requisition (record { items = items }))

abbrev pub new_order_of : Data → Result Act FormFault
new_order_of d = do
  vendor ← field as_n32 (codes "vendor") d
  requisition ← optional as_n32 (codes "requisition") d
  items ← field as_account_items (codes "items") d
  Ok (Order (record { vendor = vendor; requisition = requisition; items = items }))

-- items of an order count from 1
abbrev pub order_change_of : Data → Result Act FormFault
order_change_of d = do
  order ← field as_n32 (codes "order") d
  item ← field as_n16 (codes "item") d
  _ ← must (nat_le 1 item) (codes "item")
  fund ← field as_n16 (codes "fund") d
  dept ← field as_n16 (codes "dept") d
  object ← field as_n16 (codes "object") d
  by ← field as_by (codes "by") d
  Ok (ChangeOrder (record
      { order = order; item = item; fund = fund; dept = dept; object = object; by = by }))

-- an absent `back` is false
abbrev pub new_voucher_of : Data → Result Act FormFault
new_voucher_of d = do
  vendor ← field as_n32 (codes "vendor") d
  back ← optional as_bool (codes "back") d
  items ← field as_voucher_items (codes "items") d
  Ok (Voucher (record { vendor = vendor; back = unwrap_or back false; items = items }))

abbrev pub payment_of : Data → Result Act FormFault
payment_of d = do
  vouchers ← field as_vouchers (codes "vouchers") d
  Ok (Pay (record { vouchers = vouchers }))

abbrev pub new_bill_of : Data → Result Act FormFault
new_bill_of d = do
  source ← field as_n16 (codes "source") d
  levy_year ← field as_year (codes "levy_year") d
  payer ← field as_n32 (codes "payer") d
  amount ← field as_count (codes "amount") d
  Ok (Bill (record { source = source; levy_year = levy_year; payer = payer; amount = amount }))

abbrev pub bill_amount_of : Data → Result BillAmount FormFault
bill_amount_of d = do
  bill ← field as_n32 (codes "bill") d
  amount ← field as_count (codes "amount") d
  Ok (record { bill = bill; amount = amount })

abbrev pub receipt_of : Data → Result Act FormFault
receipt_of d = do
  source ← field as_n16 (codes "source") d
  amount ← field as_count (codes "amount") d
  Ok (Receive (record { source = source; amount = amount }))

abbrev pub donation_of : Data → Result Act FormFault
donation_of d = do
  dept ← field as_n16 (codes "dept") d
  object ← field as_n16 (codes "object") d
  amount ← field as_count (codes "amount") d
  Ok (Asset (Donate (record { dept = dept; object = object; amount = amount })))

abbrev pub disposal_of : Data → Result Act FormFault
disposal_of d = do
  asset ← field as_n32 (codes "asset") d
  fund ← field as_n16 (codes "fund") d
  proceeds ← field as_count (codes "proceeds") d
  Ok (Asset (Dispose (record { asset = asset; fund = fund; proceeds = proceeds })))

abbrev pub asset_act_by : AssetWord → Data → Result Act FormFault
asset_act_by asset.Donate d = donation_of d
asset_act_by asset.Dispose d = disposal_of d

abbrev pub asset_act_of : Data → Result Act FormFault
asset_act_of d = field (as_word asset_words) (codes "what") d >>= (λ what. asset_act_by what d)

-- the terms of an amount: the principals come to it, and the last payment is due by the end of 2199
abbrev pub terms_of : Day → ℕ → Data → Result Terms FormFault
terms_of on amount d = do
  rate_bp ← field as_n16 (codes "rate_bp") d
  _ ← must (nat_le rate_bp 10000) (codes "rate_bp")
  every ← field as_n16 (codes "every") d
  _ ← must (is_period every) (codes "every")
  principals ← field as_principals (codes "principals") d
  _ ← must (sum principals == amount) (codes "principals")
  _ ← must (nat_le (month_number on.year on.month + every * length principals)
      (month_number last_year 12)) (codes "principals")
  Ok (record { rate_bp = rate_bp; every = every; principals = principals })

-- the day of the month is at most 28
abbrev pub issue_of : Day → Data → Result Act FormFault
issue_of on d = do
  _ ← must (nat_le on.day 28) (codes "on")
  fund ← field as_n16 (codes "fund") d
  amount ← field as_count (codes "amount") d
  terms ← terms_of on amount d
  Ok (Issue (record { fund = fund; amount = amount; terms = terms }))

-- the same, and the term is above 12 months (GASB Statement 87: a shorter lease is no lease
-- liability)
abbrev pub lease_of : Day → Data → Result Act FormFault
lease_of on d = do
  _ ← must (nat_le on.day 28) (codes "on")
  vendor ← field as_n32 (codes "vendor") d
  fund ← field as_n16 (codes "fund") d
  dept ← field as_n16 (codes "dept") d
  object ← field as_n16 (codes "object") d
  amount ← field as_count (codes "amount") d
  terms ← terms_of on amount d
  _ ← must (nat_lt 12 (terms.every * length terms.principals)) (codes "principals")
  Ok (Lease (record {
    vendor = vendor;
    account = record { fund = fund; dept = dept; object = object; amount = amount };
    terms = terms;
  }))

abbrev pub debt_payment_of : Data → Result Act FormFault
debt_payment_of d = do
  bond ← field as_n32 (codes "bond") d
  fund ← field as_n16 (codes "fund") d
  dept ← field as_n16 (codes "dept") d
  principal ← field as_n16 (codes "principal") d
  interest ← field as_n16 (codes "interest") d
  Ok (PayDue (record {
    bond = bond;
    fund = fund;
    dept = dept;
    principal = principal;
    interest = interest;
  }))

abbrev pub leave_amount_of : Data → Result LeaveAmount FormFault
leave_amount_of d = do
  fund ← field as_n16 (codes "fund") d
  dept ← field as_n16 (codes "dept") d
  amount ← field as_count (codes "amount") d
  Ok (record { fund = fund; dept = dept; amount = amount })

abbrev pub maturity_of : Data → Result LeaveMaturity FormFault
maturity_of d = do
  fund ← field as_n16 (codes "fund") d
  dept ← field as_n16 (codes "dept") d
  object ← field as_n16 (codes "object") d
  amount ← field as_count (codes "amount") d
  Ok (record { fund = fund; dept = dept; object = object; amount = amount })

abbrev pub leave_act_by : LeaveWord → Data → Result Act FormFault
leave_act_by leave.Earn d = leave_amount_of d >>= (λ a. Ok (Leave (Earn a)))
leave_act_by leave.Use d = leave_amount_of d >>= (λ a. Ok (Leave (Use a)))
leave_act_by leave.Mature d = maturity_of d >>= (λ m. Ok (Leave (Mature m)))

abbrev pub leave_act_of : Data → Result Act FormFault
leave_act_of d = field (as_word leave_words) (codes "what") d >>= (λ what. leave_act_by what d)

abbrev pub fund_move_of : Data → Result Act FormFault
fund_move_of d = do
  what ← field (as_word move_words) (codes "what") d
  from ← field as_n16 (codes "from") d
  to ← field as_n16 (codes "to") d
  _ ← must (not (from == to)) (codes "to")
  amount ← field as_count (codes "amount") d
  Ok (Interfund (record { what = what; from = from; to = to; amount = amount }))

abbrev pub period_by : PeriodWord → Data → Result Act FormFault
period_by closed.Month d = field as_month (codes "month") d >>= (λ m. Ok (Close (period.Month m)))
period_by closed.Year d = field as_year (codes "year") d >>= (λ y. Ok (Close (period.Year y)))

abbrev pub period_of : Data → Result Act FormFault
period_of d = field (as_word period_words) (codes "what") d >>= (λ what. period_by what d)

-- the act of a changing call on a day
abbrev pub act_of : ActKind → Day → Data → Result Act FormFault
act_of word.Adopt on d = adoption_of d
act_of word.Amend on d = amendment_of d
act_of word.Transfer on d = transfer_of d
act_of word.Requisition on d = new_requisition_of d
act_of word.Withdraw on d = field as_n32 (codes "requisition") d >>= (λ n. Ok (Withdraw n))
act_of word.Order on d = new_order_of d
act_of word.ChangeOrder on d = order_change_of d
act_of word.CancelOrder on d = field as_n32 (codes "order") d >>= (λ n. Ok (CancelOrder n))
act_of word.Voucher on d = new_voucher_of d
act_of word.VoidVoucher on d = field as_n32 (codes "voucher") d >>= (λ n. Ok (VoidVoucher n))
act_of word.Pay on d = payment_of d
act_of word.Bill on d = new_bill_of d
act_of word.Collect on d = bill_amount_of d >>= (λ b. Ok (Collect b))
act_of word.Receive on d = receipt_of d
act_of word.WriteOff on d = bill_amount_of d >>= (λ b. Ok (WriteOff b))
act_of word.Asset on d = asset_act_of d
act_of word.Issue on d = issue_of on d
act_of word.PayDue on d = debt_payment_of d
act_of word.Leave on d = leave_act_of d
act_of word.Interfund on d = fund_move_of d
act_of word.Close on d = period_of d
act_of word.Lease on d = lease_of on d

-- the fields of an act, beside those that every changing call has
abbrev pub own_names : Act → List (List ℕ)
own_names (Adopt a) = codes "fund" ∷ codes "year" ∷ codes "lines" ∷ codes "estimates" ∷ []
own_names (Amend a) = codes "fund" ∷ codes "year" ∷ codes "line" ∷ codes "by" ∷ []
own_names (Transfer t) =
    codes "fund" ∷ codes "year" ∷ codes "from" ∷ codes "to" ∷ codes "amount" ∷ []
own_names (Requisition r) = codes "items" ∷ []
own_names (Withdraw n) = codes "requisition" ∷ []
own_names (Order p) = codes "vendor" ∷ codes "requisition" ∷ codes "items" ∷ []
own_names (ChangeOrder c) =
    codes "order" ∷ codes "item" ∷ codes "fund" ∷ codes "dept" ∷ codes "object" ∷ codes "by" ∷ []
own_names (CancelOrder n) = codes "order" ∷ []
own_names (Voucher i) = codes "vendor" ∷ codes "back" ∷ codes "items" ∷ []
own_names (VoidVoucher n) = codes "voucher" ∷ []
own_names (Pay p) = codes "vouchers" ∷ []
own_names (Bill l) = codes "source" ∷ codes "levy_year" ∷ codes "payer" ∷ codes "amount" ∷ []
own_names (Collect b) = codes "bill" ∷ codes "amount" ∷ []
own_names (Receive r) = codes "source" ∷ codes "amount" ∷ []
own_names (WriteOff b) = codes "bill" ∷ codes "amount" ∷ []
own_names (Asset (Donate a)) = codes "what" ∷ codes "dept" ∷ codes "object" ∷ codes "amount" ∷ []
own_names (Asset (Dispose a)) = codes "what" ∷ codes "asset" ∷ codes "fund" ∷ codes "proceeds" ∷ []
own_names (Issue i) =
    codes "fund" ∷ codes "amount" ∷ codes "rate_bp" ∷ codes "every" ∷ codes "principals" ∷ []
own_names (PayDue p) =
    codes "bond" ∷ codes "fund" ∷ codes "dept" ∷ codes "principal" ∷ codes "interest" ∷ []
own_names (Leave (Earn a)) = codes "what" ∷ codes "fund" ∷ codes "dept" ∷ codes "amount" ∷ []
own_names (Leave (Use a)) = codes "what" ∷ codes "fund" ∷ codes "dept" ∷ codes "amount" ∷ []
own_names (Leave (Mature m)) =
    codes "what" ∷ codes "fund" ∷ codes "dept" ∷ codes "object" ∷ codes "amount" ∷ []
own_names (Interfund m) = codes "what" ∷ codes "from" ∷ codes "to" ∷ codes "amount" ∷ []
own_names (Close (period.Month m)) = codes "what" ∷ codes "month" ∷ []
own_names (Close (period.Year y)) = codes "what" ∷ codes "year" ∷ []
own_names (Lease l) =
    codes "vendor" ∷ codes "fund" ∷ codes "dept" ∷ codes "object" ∷ codes "amount" ∷ codes "rate_bp"
    ∷ codes "every" ∷ codes "principals" ∷ []
