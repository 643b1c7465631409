-- What was paid to vendors in a calendar year: vouchers, and payments of leases.
use Rattle.std.specs.Prelude.{◌≡◌, ℕ, ◌+◌, ◌==◌, nat_le, Bool, true, false, if◌then◌else◌, ℤ, pos, ◌+ℤ◌, List, [], ◌∷◌, ◌++◌, Option, Some, None, option_and_then, option_map, option_to_list, unwrap_or, flat_map, slice_get, sum_by}
use Rattle.cf_calls.specs.Common.{schedule_of}
use Rattle.cf_model.specs.Common.{Act, Voucher, Pay, PayDue, Lease, Drawn, Entry, int_sum}
use Rattle.cf_books_payments.specs.Payments.{Payable, amount_after, bond_of, due_amount, entered, none_payable, payable_after}
use Rattle.cf_books_payments.specs.Tables.{debts_noted}
use Rattle.cf_books_payments.specs.declared.entered.Paid.{Paid}
use Rattle.cf_books_payments.specs.declared.entered.PaidKind.TheVariants as kind

-- ---- which entry entered a document

-- the places, from 0, of the entries of vouchers, and of bonds and leases, by number; a number that
-- is drawn twice is the later entry's
pub record Places : Type 0 where
  pub vouchers : ℕ → Option ℕ
  pub debts : ℕ → Option ℕ

abbrev pub no_places : Places
no_places = record { vouchers = λ n. None; debts = λ n. None }

abbrev pub vouchers_noted : Act → Drawn → ℕ → (ℕ → Option ℕ) → ℕ → Option ℕ
vouchers_noted (Voucher v) drawn at before = entered drawn.number at before
vouchers_noted _ drawn at before = before

-- the places behind the entry at a place
abbrev pub places_after : Places → Entry → ℕ → Places
places_after s e at = record {
  vouchers = vouchers_noted e.change.act e.drawn at s.vouchers;
  debts = debts_noted e.change.act e.drawn at s.debts;
}

-- ---- what the entry at a place, `by`, paid

-- a voucher comes to its items
abbrev pub voucher_paid : ℕ → ℕ → ℕ → Act → Option Paid
voucher_paid by number at (Voucher v) =
    Some (record {
      vendor = v.vendor;
      kind = kind.Voucher;
      number = number;
      at = at;
      by = by;
      amount = pos (sum_by (λ i. i.account.amount) v.items);
    })
voucher_paid by number at _ = None

-- a lease's payment comes to the principal and the interest of its schedule
abbrev pub lease_paid : ℕ → ℕ → ℕ → ℕ → Act → Option Paid
lease_paid by bond number at (Lease l) =
    option_map (λ amount.
    record {
      vendor = l.vendor;
      kind = kind.Lease;
      number = bond;
      at = at;
      by = by;
      amount = amount;
    })
    (due_amount number (bond_of (schedule_of l)))
lease_paid by bond number at _ = None

-- by the entry at the place that is known for a number
abbrev pub paid_at : List Entry → (ℕ → Act → Option Paid) → Option ℕ → Option Paid
paid_at history paid place =
    option_and_then (λ at. option_and_then (λ e. paid at e.change.act) (slice_get history at)) place

abbrev pub paid_voucher : List Entry → (ℕ → Option ℕ) → ℕ → ℕ → List Paid
paid_voucher history vouchers by number =
    option_to_list (paid_at history (voucher_paid by number) (vouchers number))

abbrev pub paid_lease : List Entry → (ℕ → Option ℕ) → ℕ → ℕ → ℕ → List Paid
paid_lease history debts by bond number =
    option_to_list (paid_at history (lease_paid by bond number) (debts bond))

-- a payment pays its vouchers in their order, and the payment of a debt pays a vendor where the
-- debt is a lease
abbrev pub paid_by : List Entry → Places → ℕ → Drawn → Act → List Paid
paid_by history s by drawn (Pay p) = flat_map (paid_voucher history s.vouchers by) p.vouchers
paid_by history s by drawn (PayDue p) = paid_lease history s.debts by p.bond drawn.number
paid_by history s by drawn _ = []

-- ---- all that was paid in a calendar year, in the order of the payments

abbrev pub paid_if : ℕ → List Entry → Places → ℕ → Entry → List Paid
paid_if year history s by e = if e.change.on.year == year
    then paid_by history s by e.drawn e.change.act else []

abbrev pub paid_after : ℕ → List Entry → Places → ℕ → List Entry → List Paid
paid_after year history s by [] = []
paid_after year history s by (e ∷ later) =
    paid_if year history s by e ++ paid_after year history (places_after s e by) (by + 1) later

abbrev pub paid_in : ℕ → List Entry → List Paid
paid_in year history = paid_after year history no_places 0 history

-- ---- by vendor

-- the first of these stands before those of the same vendor, and of vendors of a greater number
abbrev pub placed : Paid → List Paid → List Paid
placed p [] = p ∷ []
placed p (q ∷ rest) = if nat_le p.vendor q.vendor then p ∷ (q ∷ rest) else q ∷ placed p rest

-- by rising vendor; what a vendor was paid stays in its order
abbrev pub by_vendor : List Paid → List Paid
by_vendor [] = []
by_vendor (p ∷ rest) = placed p (by_vendor rest)

-- what a vendor was paid
abbrev pub paid_to : ℕ → List Paid → ℤ
paid_to vendor paid = int_sum (λ p. if p.vendor == vendor then p.amount else pos 0) paid

-- ---- what the payments of a calendar year come to, by the amounts that each entry has in the list
-- of entries

abbrev pub is_lease : Act → Bool
is_lease (Lease l) = true
is_lease _ = false

abbrev pub enters_lease : Option Entry → Bool
enters_lease None = false
enters_lease (Some e) = is_lease e.change.act

abbrev pub is_lease_at : List Entry → Option ℕ → Bool
is_lease_at history None = false
is_lease_at history (Some at) = enters_lease (slice_get history at)

-- a payment pays vendors all that it comes to, and so does the payment of a debt that is a lease
abbrev pub vendors_share : List Entry → Places → Payable → Drawn → Act → ℤ
vendors_share history s known drawn (Pay p) = unwrap_or (amount_after known drawn (Pay p)) (pos 0)
vendors_share history s known drawn (PayDue p) = if is_lease_at history (s.debts p.bond)
    then unwrap_or (amount_after known drawn (PayDue p)) (pos 0) else pos 0
vendors_share history s known drawn _ = pos 0

abbrev pub payments_after : ℕ → List Entry → Places → Payable → ℕ → List Entry → ℤ
payments_after year history s known by [] = pos 0
payments_after year history s known by (e ∷ later) =
    (if e.change.on.year == year then vendors_share history s known e.drawn e.change.act else pos 0)
    +ℤ payments_after year history (places_after s e by) (payable_after known e) (by + 1) later

abbrev pub payments_in : ℕ → List Entry → ℤ
payments_in year history = payments_after year history no_places none_payable 0 history

-- what is listed by vendor is all that was paid: each vendor's rows sum to its total, and all rows
-- to what the payments come to
pub record ListsAll (year : ℕ) (history : List Entry) : Type 0 where
  pub totals : (vendor : ℕ)
      → paid_to vendor (by_vendor (paid_in year history)) ≡ paid_to vendor (paid_in year history)
  pub all : int_sum (λ p. p.amount) (by_vendor (paid_in year history)) ≡ payments_in year history
