-- The tables of what payments come to, as those who list entries keep them.
use Rattle.std.specs.Prelude.{◌≡◌, ◌<◌, ◌^◌, ℕ, List, Option, Some, None, option_and_then, slice_get}
use Rattle.std.specs.BTreeMap.{get}
use Rattle.std.specs.Ordering.{nat_cmp}
use Rattle.cf_calls.specs.Common.{schedule_of}
use Rattle.cf_model.specs.Common.{Act, Issue, Lease, BondIssue, Drawn, Entry}
use Rattle.cf_books_payments.specs.Payments.{Payable, entered, voucher_in, vouchers_after}
use Rattle.cf_books_payments.specs.declared.payments.Schedule.{Schedule}
use Rattle.cf_books_payments.specs.declared.payments.Tables.{Tables}

abbrev pub issue_of : Schedule → BondIssue
issue_of s = record { fund = s.fund; amount = s.amount; terms = s.terms.now }

-- the schedule that an act enters
abbrev pub schedule_in : Act → Option BondIssue
schedule_in (Issue i) = Some i
schedule_in (Lease l) = Some (schedule_of l)
schedule_in _ = None

-- the schedule that the entry at a place enters, from 0
abbrev pub schedule_at : List Entry → ℕ → Option BondIssue
schedule_at entries at = option_and_then (λ e. schedule_in e.change.act) (slice_get entries at)

-- the places of the entries of bonds and leases, behind an entry
abbrev pub debts_noted : Act → Drawn → ℕ → (ℕ → Option ℕ) → ℕ → Option ℕ
debts_noted (Issue i) drawn at before = entered drawn.number at before
debts_noted (Lease l) drawn at before = entered drawn.second at before
debts_noted _ drawn at before = before

-- each voucher's amount is small
abbrev pub AreSmall : (ℕ → Option ℕ) → Type 0
AreSmall vouchers = (n : ℕ) → voucher_in vouchers n < 2 ^ 76

-- an entry's voucher was noted; the amounts stay small
pub record NotesVoucher (e : Entry) (before after : ℕ → Option ℕ) : Type 0 where
  pub put : (n : ℕ) → after n ≡ vouchers_after e.change.act e.drawn before n
  pub small : AreSmall before → AreSmall after

-- the tables say what the entries before a place do
pub record Knows (entries : List Entry) (t : Tables) (s : Payable) : Type 0 where
  pub vouchers : (n : ℕ) → get nat_cmp t.vouchers n ≡ s.vouchers n
  pub debts : (n : ℕ) → option_and_then (schedule_at entries) (get nat_cmp t.debts n) ≡ s.debts n
  pub small : AreSmall s.vouchers
