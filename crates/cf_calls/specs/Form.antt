-- What it means that a call is in form: the types, ranges and rules that are tested before the
-- office is asked.
use Rattle.std.specs.Prelude.{◌≡◌, ◌≢◌, ℕ, ◌+◌, ◌*◌, ◌<◌, ◌≤◌, Bool, true, false, not, ◌==◌, ◌||◌, ◌&&◌, nat_le, List, [], ◌∷◌, length, sum, None, ℤ, negsuc, int_lt, unsigned_abs}
use Rattle.std.specs.List.{list_any, list_all}
use Rattle.cf_base.specs.declared.calendar.Day.{Day}
use Rattle.cf_base.specs.declared.calendar.Month.{Month}
use Rattle.cf_base.specs.Common.{is_day, is_amount, last_year, most_cents}
use Rattle.cf_calls.specs.declared.acts.Act.{Act}
use Rattle.cf_calls.specs.declared.acts.Act.TheVariants.{Adopt, Amend, Transfer, Requisition, Order, ChangeOrder, Voucher, Pay, Bill, Collect, Receive, WriteOff, Asset, Issue, PayDue, Leave, Interfund, Close, Lease}
use Rattle.cf_calls.specs.declared.acts.Adoption.{Adoption}
use Rattle.cf_calls.specs.declared.acts.NewLease.{NewLease}
use Rattle.cf_calls.specs.declared.acts.Terms.{Terms}
use Rattle.cf_calls.specs.Acts.{term_of}
use Rattle.cf_calls.specs.declared.acts.Period.{Period}
use Rattle.cf_calls.specs.declared.acts.Period.TheVariants as period
use Rattle.cf_calls.specs.declared.items.LineAmount.{LineAmount}
use Rattle.cf_calls.specs.declared.items.SourceAmount.{SourceAmount}
use Rattle.cf_calls.specs.declared.items.VoucherItem.{VoucherItem}
use Rattle.cf_calls.specs.declared.items.Charge.{Charge}
use Rattle.cf_calls.specs.declared.items.Charge.TheVariants.{Direct, OnOrder}
use Rattle.cf_calls.specs.declared.items.Liquidation.{Liquidation}
use Rattle.cf_calls.specs.declared.items.Liquidation.TheVariants.{Recorded}
use Rattle.cf_calls.specs.declared.call.Call.{Call}
use Rattle.cf_calls.specs.declared.call.Call.TheVariants as call
use Rattle.cf_calls.specs.declared.call.Change.{Change}
use Rattle.cf_calls.specs.declared.call.Look.{Look}
use Rattle.cf_calls.specs.declared.acts.AssetAct.TheVariants.{Donate, Dispose}
use Rattle.cf_calls.specs.declared.acts.LeaveAct.TheVariants.{Earn, Use, Mature}
use Rattle.cf_calls.specs.declared.entry.Drawn.{Drawn}
use Rattle.cf_calls.specs.declared.kind.Draws.{Draws}
use Rattle.cf_calls.specs.declared.kind.Draws.TheVariants.{Nothing, Number, Both, Payment}
use Rattle.cf_calls.specs.Kinds.{draws_of}
use Rattle.cf_calls.specs.declared.entry.Entry.{Entry}
use Rattle.cf_calls.specs.declared.read.Read.{Read}
use Rattle.cf_calls.specs.declared.read.Read.TheVariants as read

-- no two elements clash
abbrev pub is_distinct : {A : Type 0} → (A → A → Bool) → List A → Bool
is_distinct clash [] = true
is_distinct clash (x ∷ xs) = not (list_any (clash x) xs) && is_distinct clash xs

-- two amounts for one line, or for one source
abbrev pub same_line : LineAmount → LineAmount → Bool
same_line a b = a.line == b.line

abbrev pub same_source : SourceAmount → SourceAmount → Bool
same_source a b = a.source == b.source

abbrev pub same_number : ℕ → ℕ → Bool
same_number a b = a == b

-- two voucher items against one order item
abbrev pub same_charge : Charge → Charge → Bool
same_charge (OnOrder i o h) (OnOrder j p k) = (o == p) && (i == j)
same_charge _ _ = false

abbrev pub same_order_item : VoucherItem → VoucherItem → Bool
same_order_item a b = same_charge a.charge b.charge

-- a recorded amount is from 1 to 10^13 cents
abbrev pub is_liquidation_form : Liquidation → Bool
is_liquidation_form (Recorded r) = is_amount r
is_liquidation_form _ = true

abbrev pub is_charge_form : Charge → Bool
is_charge_form Direct = true
is_charge_form (OnOrder i o h) = is_liquidation_form h

-- a year that a call may state
pub record IsYear (y : ℕ) : Type 0 where
  pub from : 1971 ≤ y
  pub to : y ≤ last_year

-- a month that a call may state
pub record IsCallMonth (m : Month) : Type 0 where
  pub from : 1970 ≤ m.year
  pub to : m.year ≤ last_year
  pub first : 1 ≤ m.month
  pub last : m.month ≤ 12

-- a signed change: from -(2^63 - 1) to 2^63 - 1 cents
abbrev pub is_by : ℤ → Bool
is_by by = int_lt (negsuc 9223372036854775807) by

pub record IsCount (least most n : ℕ) : Type 0 where
  pub from : least ≤ n
  pub to : n ≤ most

pub record IsAdoptionForm (a : Adoption) : Type 0 where
  pub year : IsYear a.year
  pub few_lines : length a.lines ≤ 4096
  pub lines : is_distinct same_line a.lines ≡ true
  pub few_estimates : length a.estimates ≤ 256
  pub estimates : is_distinct same_source a.estimates ≡ true

-- the months between the payments of a debt
abbrev pub is_period : ℕ → Bool
is_period n = (n == 1) || (n == 2) || (n == 3) || (n == 4) || (n == 6) || (n == 12)

-- a month counted from the year 0
abbrev pub month_number : ℕ → ℕ → ℕ
month_number year month = 12 * year + month

-- the terms of a debt of this amount, owed from a day on: the principals come to the amount, and
-- the last payment's month is at most December 2199
pub record IsTermsForm (on : Day) (amount : ℕ) (t : Terms) : Type 0 where
  pub day : on.day ≤ 28
  pub rate : t.rate_bp ≤ 10000
  pub every : is_period t.every ≡ true
  pub principals : IsCount 1 120 (length t.principals)
  pub total : sum t.principals ≡ amount
  pub last_due : month_number on.year on.month + t.every * length t.principals
      ≤ month_number last_year 12

-- a lease's term is above 12 months (GASB Statement 87: a shorter lease is no lease liability)
pub record IsLeaseForm (on : Day) (l : NewLease) : Type 0 where
  pub terms : IsTermsForm on l.account.amount l.terms
  pub term : 12 < term_of l

pub record IsVoucherForm (items : List VoucherItem) : Type 0 where
  pub count : IsCount 1 32 (length items)
  pub charges : list_all (λ i. is_charge_form i.charge) items ≡ true
  pub apart : is_distinct same_order_item items ≡ true

abbrev pub IsPeriodForm : Period → Type 0
IsPeriodForm (period.Month m) = IsCallMonth m
IsPeriodForm (period.Year y) = IsYear y

abbrev pub IsActInForm : Day → Act → Type 0
IsActInForm on (Adopt a) = IsAdoptionForm a
IsActInForm on (Amend a) = IsYear a.year × (is_by a.by ≡ true)
IsActInForm on (Transfer t) = IsYear t.year × (t.from ≢ t.to)
IsActInForm on (Requisition r) = IsCount 1 32 (length r.items)
IsActInForm on (Order o) = IsCount 1 32 (length o.items)
IsActInForm on (ChangeOrder c) = (1 ≤ c.item) × (is_by c.by ≡ true)
IsActInForm on (Voucher v) = IsVoucherForm v.items
IsActInForm on (Pay p) = IsCount 1 64 (length p.vouchers)
    × (is_distinct same_number p.vouchers ≡ true)
IsActInForm on (Bill b) = IsYear b.levy_year
IsActInForm on (Issue i) = IsTermsForm on i.amount i.terms
IsActInForm on (Interfund m) = m.from ≢ m.to
IsActInForm on (Close p) = IsPeriodForm p
IsActInForm on (Lease l) = IsLeaseForm on l
IsActInForm on _ = Unit {0}

-- a key has 1 to 40 bytes from 0x21 to 0x7E
abbrev pub is_key_byte : ℕ → Bool
is_key_byte c = nat_le 33 c && nat_le c 126

abbrev pub is_key : List ℕ → Bool
is_key k = nat_le 1 (length k) && nat_le (length k) 40 && list_all is_key_byte k

-- a change in form
pub record IsChangeInForm (c : Change) : Type 0 where
  pub key : is_key c.key ≡ true
  pub on : is_day c.on ≡ true
  pub act : IsActInForm c.on c.act

abbrev pub IsReadInForm : Read → Type 0
IsReadInForm (read.Line l y) = IsYear y
IsReadInForm (read.Account b y f a) = IsYear y
IsReadInForm (read.Reconcile y) = IsYear y
IsReadInForm (read.Report y k) = IsYear y
IsReadInForm _ = Unit {0}

abbrev pub IsCallInForm : Call → Type 0
IsCallInForm (call.Change c) = IsChangeInForm c
IsCallInForm (call.Look l) = IsReadInForm l.read

-- ---- entries

-- the amounts of an act keep the limits: from 1 to 10^13 cents each, for a signed change its size,
-- and for proceeds and principals at most 10^13
abbrev pub is_most : ℕ → Bool
is_most n = nat_le n most_cents

abbrev pub IsWithinLimits : Act → Type 0
IsWithinLimits (Adopt a) = (list_all (λ x. is_amount x.amount) a.lines ≡ true)
    × (list_all (λ x. is_amount x.amount) a.estimates ≡ true)
IsWithinLimits (Amend a) = is_amount (unsigned_abs a.by) ≡ true
IsWithinLimits (Transfer t) = is_amount t.amount ≡ true
IsWithinLimits (Requisition r) = list_all (λ x. is_amount x.amount) r.items ≡ true
IsWithinLimits (Order o) = list_all (λ x. is_amount x.amount) o.items ≡ true
IsWithinLimits (ChangeOrder c) = is_amount (unsigned_abs c.by) ≡ true
IsWithinLimits (Voucher v) = list_all (λ x. is_amount x.account.amount) v.items ≡ true
IsWithinLimits (Bill b) = is_amount b.amount ≡ true
IsWithinLimits (Collect a) = is_amount a.amount ≡ true
IsWithinLimits (Receive a) = is_amount a.amount ≡ true
IsWithinLimits (WriteOff a) = is_amount a.amount ≡ true
IsWithinLimits (Asset (Donate d)) = is_amount d.amount ≡ true
IsWithinLimits (Asset (Dispose d)) = is_most d.proceeds ≡ true
IsWithinLimits (Issue i) = (is_amount i.amount ≡ true)
    × (list_all is_most i.terms.principals ≡ true)
IsWithinLimits (Leave (Earn a)) = is_amount a.amount ≡ true
IsWithinLimits (Leave (Use a)) = is_amount a.amount ≡ true
IsWithinLimits (Leave (Mature m)) = is_amount m.amount ≡ true
IsWithinLimits (Interfund m) = is_amount m.amount ≡ true
IsWithinLimits (Lease l) = (is_amount l.account.amount ≡ true)
    × (list_all is_most l.terms.principals ≡ true)
IsWithinLimits _ = Unit {0}

-- a debt payment's number is at most 65,535
abbrev pub IsPaymentNumber : Act → Drawn → Type 0
IsPaymentNumber (PayDue p) d = d.number < 65536
IsPaymentNumber _ d = Unit {0}

-- a number that isn't drawn is 0
abbrev pub HasDrawn : Draws → Drawn → Type 0
HasDrawn Nothing d = (d.number ≡ 0) × (d.second ≡ 0)
HasDrawn Number d = d.second ≡ 0
HasDrawn Both d = Unit {0}
HasDrawn Payment d = d.second ≡ 0

abbrev pub IsDrawn : Act → Drawn → Type 0
IsDrawn a d = HasDrawn (draws_of a) d

-- an entry in form: its change is, has no `after` and keeps the limits, and its drawn numbers are
-- those of its kind
pub record IsEntryInForm (e : Entry) : Type 0 where
  pub change : IsChangeInForm e.change
  pub no_after : e.change.after ≡ None
  pub limits : IsWithinLimits e.change.act
  pub drawn : IsDrawn e.change.act e.drawn
  pub payment : IsPaymentNumber e.change.act e.drawn
