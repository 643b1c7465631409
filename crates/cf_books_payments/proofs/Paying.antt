-- What is listed of a calendar year's payments is all that they come to.
use Rattle.std.proofs.Common.{◌≡◌, ◌∙◌, ◌+◌, ◌+ℤ◌, ◌==◌, nat_le, ℕ, zero, suc, ℤ, pos, Bool, true, false, if◌then◌else◌, List, [], ◌∷◌, Option, Some, None, refl, sym, ap, ap₂, arith, drop, flat_map, option_and_then, option_map, option_to_list, slice_get, sum_by, unwrap_or}
use Rattle.cf_base.proofs.Common.{ints, sum_by-cons}
use Rattle.cf_calls.specs.Common.{schedule_of}
use Rattle.cf_model.specs.Common.{Act, Voucher, Pay, PayDue, Lease, BondIssue, Drawn, Entry, int_sum}
use Rattle.cf_model.proofs.Common.{sum_append}
use Rattle.cf_books_payments.specs.Paid.{ListsAll, Places, by_vendor, enters_lease, is_lease, is_lease_at, lease_paid, no_places, paid_after, paid_at, paid_by, paid_if, paid_in, paid_voucher, payments_after, placed, places_after, vendors_share, voucher_paid, vouchers_noted}
use Rattle.cf_books_payments.specs.Payments.{Payable, bond_of, due_amount, due_of, none_payable, payable_after, voucher_in, vouchers_after}
use Rattle.cf_books_payments.specs.Tables.{schedule_at, schedule_in}
use Rattle.cf_books_payments.specs.declared.entered.Paid.{Paid}
use Rattle.cf_books_payments.specs.declared.entered.PaidKind.{PaidKind}
use Rattle.cf_books_payments.specs.declared.entered.PaidKind.TheVariants as kind
use Rattle.cf_books_payments.proofs.Noted.{debts_next}

-- ---- by vendor

placed_sum_if : (f : Paid → ℤ) (p q : Paid) (rest : List Paid) (b : Bool) → int_sum f (placed p rest) ≡ f p +ℤ int_sum f rest
    → int_sum f (if b then p ∷ (q ∷ rest) else q ∷ placed p rest) ≡ f p +ℤ (f q +ℤ int_sum f rest)
placed_sum_if f p q rest true later = refl
placed_sum_if f p q rest false later = omega (arith, ints, later)

placed_sum : (f : Paid → ℤ) (p : Paid) (ps : List Paid) → int_sum f (placed p ps) ≡ f p +ℤ int_sum f ps
placed_sum f p [] = refl
placed_sum f p (q ∷ rest) = placed_sum_if f p q rest (nat_le p.vendor q.vendor) (placed_sum f p rest)

by_vendor_sum : (f : Paid → ℤ) (ps : List Paid) → int_sum f (by_vendor ps) ≡ int_sum f ps
by_vendor_sum f [] = refl
by_vendor_sum f (p ∷ rest) = placed_sum f p (by_vendor rest) ∙ ap (λ n. f p +ℤ n) (by_vendor_sum f rest)

-- ---- what a place comes to

abbrev amount : Paid → ℤ
amount p = p.amount

abbrev voucher_cents : Act → Option ℕ
voucher_cents (Voucher v) = Some (sum_by (λ i. i.account.amount) v.items)
voucher_cents _ = None

abbrev cents_at : List Entry → ℕ → Option ℕ
cents_at history at = option_and_then (λ e. voucher_cents e.change.act) (slice_get history at)

voucher_act : (by number at : ℕ) (act : Act) → int_sum amount (option_to_list (voucher_paid by number at act)) ≡ pos (unwrap_or (voucher_cents act) 0)
voucher_act by number at (Voucher v) = let n = sum_by (λ i. i.account.amount) v.items in omega (arith, ints)
voucher_act by number at _ = refl

voucher_found : (by number at : ℕ) (o : Option Entry) →
    int_sum amount (option_to_list (option_and_then (λ e. voucher_paid by number at e.change.act) o)) ≡ pos (unwrap_or (option_and_then (λ e. voucher_cents e.change.act) o) 0)
voucher_found by number at None = refl
voucher_found by number at (Some e) = voucher_act by number at e.change.act

voucher_place : (history : List Entry) (by number : ℕ) (place : Option ℕ) →
    int_sum amount (option_to_list (paid_at history (voucher_paid by number) place)) ≡ pos (unwrap_or (option_and_then (cents_at history) place) 0)
voucher_place history by number None = refl
voucher_place history by number (Some at) = voucher_found by number at (slice_get history at)

due_sum : (vendor bond at by : ℕ) (is : PaidKind) (due : Option ℤ) →
    int_sum amount (option_to_list (option_map (λ n. record { vendor = vendor; kind = is; number = bond; at = at; by = by; amount = n }) due)) ≡ unwrap_or due (pos 0)
due_sum vendor bond at by is None = refl
due_sum vendor bond at by is (Some n) = omega (arith, ints)

lease_act : (by bond number at : ℕ) (act : Act) →
    int_sum amount (option_to_list (lease_paid by bond number at act)) ≡ (if is_lease act then unwrap_or (due_of number (schedule_in act)) (pos 0) else pos 0)
lease_act by bond number at (Lease l) = due_sum l.vendor bond at by kind.Lease (due_amount number (bond_of (schedule_of l)))
lease_act by bond number at _ = refl

lease_found : (by bond number at : ℕ) (o : Option Entry) →
    int_sum amount (option_to_list (option_and_then (λ e. lease_paid by bond number at e.change.act) o))
    ≡ (if enters_lease o then unwrap_or (due_of number (option_and_then (λ e. schedule_in e.change.act) o)) (pos 0) else pos 0)
lease_found by bond number at None = refl
lease_found by bond number at (Some e) = lease_act by bond number at e.change.act

lease_place : (history : List Entry) (by bond number : ℕ) (place : Option ℕ) →
    int_sum amount (option_to_list (paid_at history (lease_paid by bond number) place))
    ≡ (if is_lease_at history place then unwrap_or (due_of number (option_and_then (schedule_at history) place)) (pos 0) else pos 0)
lease_place history by bond number None = refl
lease_place history by bond number (Some at) = lease_found by bond number at (slice_get history at)

-- ---- the places that are known, and the amounts

record Agrees (history : List Entry) (s : Places) (known : Payable) : Type 0 where
  pub vouchers : (n : ℕ) → known.vouchers n ≡ option_and_then (cents_at history) (s.vouchers n)
  pub debts : (n : ℕ) → option_and_then (schedule_at history) (s.debts n) ≡ known.debts n

voucher_if : (b : Bool) (history : List Entry) (at x : ℕ) (o y : Option ℕ) → cents_at history at ≡ Some x → y ≡ option_and_then (cents_at history) o
    → (if b then Some x else y) ≡ option_and_then (cents_at history) (if b then Some at else o)
voucher_if true history at x o y found same = sym found
voucher_if false history at x o y found same = same

vouchers_next : (history : List Entry) (at : ℕ) (act : Act) (drawn : Drawn) (places known : ℕ → Option ℕ) → cents_at history at ≡ voucher_cents act
    → ((n : ℕ) → known n ≡ option_and_then (cents_at history) (places n)) → (n : ℕ) → vouchers_after act drawn known n ≡ option_and_then (cents_at history) (vouchers_noted act drawn at places n)
vouchers_next history at (Voucher v) drawn places known found same n = voucher_if (drawn.number == n) history at _ (places n) (known n) found (same n)
vouchers_next history at act drawn places known found same n = same n

agrees_next : (history : List Entry) (s : Places) (known : Payable) (e : Entry) (by : ℕ) → slice_get history by ≡ Some e → Agrees history s known
    → Agrees history (places_after s e by) (payable_after known e)
agrees_next history s known e by found same = record {
  vouchers = vouchers_next history by e.change.act e.drawn s.vouchers known.vouchers (ap (option_and_then (λ (x : Entry). voucher_cents x.change.act)) found) same.vouchers;
  debts = debts_next history by e.change.act e.drawn s.debts known.debts (ap (option_and_then (λ (x : Entry). schedule_in x.change.act)) found) same.debts;
}

-- ---- what an entry pays

adds : (a b : ℤ) (x y : ℕ) → a ≡ pos x → b ≡ pos y → a +ℤ b ≡ pos (x + y)
adds a b x y p q = omega (arith, ints, p, q)

module _ (history : List Entry) (s : Places) (known : Payable) (same : Agrees history s known) where
  each_voucher : (by : ℕ) (numbers : List ℕ) → int_sum amount (flat_map (paid_voucher history s.vouchers by) numbers) ≡ pos (sum_by (voucher_in known.vouchers) numbers)
  each_voucher by [] = refl
  each_voucher by (n ∷ numbers) =
      let one : int_sum amount (paid_voucher history s.vouchers by n) ≡ pos (voucher_in known.vouchers n) =
      voucher_place history by n (s.vouchers n) ∙ ap (λ (o : Option ℕ). pos (unwrap_or o 0)) (sym (same.vouchers n)) in
      sum_append amount (paid_voucher history s.vouchers by n) (flat_map (paid_voucher history s.vouchers by) numbers) ∙ adds _ _ _ _ one (each_voucher by numbers)
      ∙ ap (λ (x : ℕ). pos x) (sym (sum_by-cons (voucher_in known.vouchers) n numbers))

  share : (by : ℕ) (drawn : Drawn) (act : Act) → int_sum amount (paid_by history s by drawn act) ≡ vendors_share history s known drawn act
  share by drawn (Pay p) = each_voucher by p.vouchers
  share by drawn (PayDue p) =
      lease_place history by p.bond drawn.number (s.debts p.bond)
      ∙ ap (λ (o : Option BondIssue). if is_lease_at history (s.debts p.bond) then unwrap_or (due_of drawn.number o) (pos 0) else pos 0) (same.debts p.bond)
  share by drawn _ = refl

-- ---- all entries

at_drop : {A : Type 0} (xs : List A) (n : ℕ) (x : A) (rest : List A) → drop n xs ≡ x ∷ rest → (slice_get xs n ≡ Some x) × (drop (n + 1) xs ≡ rest)
at_drop [] zero x rest is = cc
at_drop [] (suc n) x rest is = cc
at_drop (y ∷ ys) zero x rest is = let first : y ≡ x = cc in let more : ys ≡ rest = cc in (ap (λ z. Some z) first, more)
at_drop (y ∷ ys) (suc n) x rest is =
    let found = at_drop ys n x rest is in
    let next : suc n + 1 ≡ suc (n + 1) = omega arith in
    (found.0, ap (λ k. drop k (y ∷ ys)) next ∙ found.1)

sum_if : (b : Bool) (xs : List Paid) (n : ℤ) → int_sum amount xs ≡ n → int_sum amount (if b then xs else []) ≡ (if b then n else pos 0)
sum_if true xs n is = is
sum_if false xs n is = refl

all_paid : (year : ℕ) (history : List Entry) (s : Places) (known : Payable) (by : ℕ) (later : List Entry) → Agrees history s known → drop by history ≡ later
    → int_sum amount (paid_after year history s by later) ≡ payments_after year history s known by later
all_paid year history s known by [] same is = refl
all_paid year history s known by (e ∷ later) same is =
    let found = at_drop history by e later is in
    sum_append amount (paid_if year history s by e) (paid_after year history (places_after s e by) (by + 1) later)
    ∙ ap₂ (λ a b. a +ℤ b)
    (sum_if (e.change.on.year == year) (paid_by history s by e.drawn e.change.act) (vendors_share history s known e.drawn e.change.act) (share history s known same by e.drawn e.change.act))
    (all_paid year history (places_after s e by) (payable_after known e) (by + 1) later (agrees_next history s known e by found.0 same) found.1)

pub lists_all : (year : ℕ) (history : List Entry) → ListsAll year history
lists_all year history = record {
  totals = λ vendor. by_vendor_sum (λ (p : Paid). if p.vendor == vendor then p.amount else pos 0) (paid_in year history);
  all =
      by_vendor_sum amount (paid_in year history)
      ∙ all_paid year history no_places none_payable 0 history (record { vouchers = λ n. refl; debts = λ n. refl }) refl;
}
