-- What payments come to, by the entries before them.
use Rattle.std.specs.Prelude.{ℕ, ◌+◌, ◌-◌, ◌==◌, if◌then◌else◌, ℤ, pos, Option, Some, None, option_map, unwrap_or, false, slice_get, sum_by}
use Rattle.cf_calls.specs.Common.{schedule_of}
use Rattle.cf_model.specs.Common.{Act, Voucher, Pay, Issue, PayDue, Lease, BondIssue, Drawn, Entry, Bond, coupon, dues}
use Rattle.cf_books_payments.specs.Amounts.{amount_of}

-- what entries say of later payments: the amount of each voucher, and the schedule of each bond and
-- lease, by number
pub record Payable : Type 0 where
  pub vouchers : ℕ → Option ℕ
  pub debts : ℕ → Option BondIssue

abbrev pub none_payable : Payable
none_payable = record { vouchers = λ n. None; debts = λ n. None }

-- ---- what an entry enters; a number that is drawn twice is the later entry's

abbrev pub entered : {A : Type 0} → ℕ → A → (ℕ → Option A) → ℕ → Option A
entered number x before n = if number == n then Some x else before n

abbrev pub vouchers_after : Act → Drawn → (ℕ → Option ℕ) → ℕ → Option ℕ
vouchers_after (Voucher v) drawn before =
    entered drawn.number (sum_by (λ i. i.account.amount) v.items) before
vouchers_after _ drawn before = before

abbrev pub debts_after : Act → Drawn → (ℕ → Option BondIssue) → ℕ → Option BondIssue
debts_after (Issue i) drawn before = entered drawn.number i before
debts_after (Lease l) drawn before = entered drawn.second (schedule_of l) before
debts_after _ drawn before = before

abbrev pub payable_after : Payable → Entry → Payable
payable_after s e =
    record {
      vouchers = vouchers_after e.change.act e.drawn s.vouchers;
      debts = debts_after e.change.act e.drawn s.debts;
    }

-- ---- what a payment comes to

-- a voucher that wasn't entered counts for nothing
abbrev pub voucher_in : (ℕ → Option ℕ) → ℕ → ℕ
voucher_in vouchers n = unwrap_or (vouchers n) 0

-- the bond of a schedule, but for its number, its day and what is paid
abbrev pub bond_of : BondIssue → Bond
bond_of i = record {
  number = 0;
  is_lease = false;
  fund = i.fund;
  amount = i.amount;
  year = 0;
  month = 0;
  day = 0;
  rate_bp = i.terms.rate_bp;
  every = i.terms.every;
  principals = i.terms.principals;
  paid = 0;
}

-- the payment of this number of a bond, counted from 1: its principal, with the interest of its
-- period
abbrev pub due_amount : ℕ → Bond → Option ℤ
due_amount number b =
    option_map (λ p. pos (p.principal + coupon b p)) (slice_get (dues b) (number - 1))

abbrev pub due_of : ℕ → Option BondIssue → Option ℤ
due_of number None = None
due_of number (Some i) = due_amount number (bond_of i)

-- the amount of an act over the entries before it: a payment's is that of its vouchers, and that of
-- a debt its principal and interest
abbrev pub amount_after : Payable → Drawn → Act → Option ℤ
amount_after s drawn (Pay p) = Some (pos (sum_by (voucher_in s.vouchers) p.vouchers))
amount_after s drawn (PayDue p) = due_of drawn.number (s.debts p.bond)
amount_after s drawn act = amount_of act
