-- The tables of payments, entry by entry.
use Rattle.std.proofs.Common.{◌≡◌, ◌<◌, ◌^◌, ◌==◌, ◌+◌, ◌-◌, ◌∙◌, ℕ, suc, Bool, true, false, if◌then◌else◌, List, ◌∷◌, Option, Some, sym, ap, arith, option_and_then, slice_get, sum_by, nat_cmp, is_eq}
use Rattle.cf_base.proofs.Common.{common_steps, get}
use Rattle.cf_model.specs.Common.{Act, Voucher, Issue, Lease, BondIssue, NewVoucher, Drawn, Entry, Due, dues_from}
use Rattle.cf_books_payments.specs.Payments.{Payable, debts_after, entered, payable_after, voucher_in, vouchers_after}
use Rattle.cf_books_payments.specs.Tables.{AreSmall, Knows, NotesVoucher, debts_noted, schedule_at, schedule_in}
use Rattle.cf_books_payments.specs.declared.payments.Tables.{Tables}

pub same_number : (a b : ℕ) → is_eq (nat_cmp a b) ≡ (a == b)
same_number a b = grind (arith, common_steps)

-- ---- amounts of vouchers

small_if : (test : Bool) (v : ℕ) (x : Option ℕ) (n : ℕ) → v < 2 ^ 76 → voucher_in (λ m. x) n < 2 ^ 76 → voucher_in (λ m. if test then Some v else x) n < 2 ^ 76
small_if true v x n small rest = small
small_if false v x n small rest = rest

pub small_entered : (number v : ℕ) (before : ℕ → Option ℕ) → v < 2 ^ 76 → AreSmall before → AreSmall (entered number v before)
small_entered number v before small rest n = small_if (number == n) v (before n) n small (rest n)

pub small_same : (before after : ℕ → Option ℕ) → ((n : ℕ) → after n ≡ before n) → AreSmall before → AreSmall after
small_same before after same small n = let is : voucher_in after n ≡ voucher_in before n = ap (λ (x : Option ℕ). voucher_in (λ m. x) n) (same n) in let low = small n in omega (arith, is, low)

-- a voucher's entry notes its amount
pub noted : (e : Entry) (v : NewVoucher) (amount : ℕ) (before after : ℕ → Option ℕ) → e.change.act ≡ Voucher v → amount ≡ sum_by (λ i. i.account.amount) v.items → amount < 2 ^ 76
    → ((n : ℕ) → after n ≡ entered e.drawn.number amount before n) → NotesVoucher e before after
noted e v amount before after is sum small put = record {
  put = λ n. put n ∙ ap (λ x. entered e.drawn.number x before n) sum ∙ ap (λ a. vouchers_after a e.drawn before n) (sym is);
  small = λ low. small_same (entered e.drawn.number amount before) after put (small_entered e.drawn.number amount before small low);
}

entered_same : {A : Type 0} (number : ℕ) (x : A) (f g : ℕ → Option A) → ((n : ℕ) → f n ≡ g n) → (n : ℕ) → entered number x f n ≡ entered number x g n
entered_same number x f g same n = ap (λ y. if number == n then Some x else y) (same n)

vouchers_same : (act : Act) (drawn : Drawn) (f g : ℕ → Option ℕ) → ((n : ℕ) → f n ≡ g n) → (n : ℕ) → vouchers_after act drawn f n ≡ vouchers_after act drawn g n
vouchers_same (Voucher v) drawn f g same n = entered_same drawn.number (sum_by (λ i. i.account.amount) v.items) f g same n
vouchers_same act drawn f g same n = same n

-- ---- schedules of bonds and leases

debt_if : (test : Bool) (entries : List Entry) (at : ℕ) (i : BondIssue) (x : Option ℕ) (y : Option BondIssue) → schedule_at entries at ≡ Some i → option_and_then (schedule_at entries) x ≡ y
    → option_and_then (schedule_at entries) (if test then Some at else x) ≡ (if test then Some i else y)
debt_if true entries at i x y found rest = found
debt_if false entries at i x y found rest = rest

pub debts_next : (entries : List Entry) (at : ℕ) (act : Act) (drawn : Drawn) (places : ℕ → Option ℕ) (debts : ℕ → Option BondIssue) → schedule_at entries at ≡ schedule_in act
    → ((n : ℕ) → option_and_then (schedule_at entries) (places n) ≡ debts n) → (n : ℕ) → option_and_then (schedule_at entries) (debts_noted act drawn at places n) ≡ debts_after act drawn debts n
debts_next entries at (Issue i) drawn places debts found known n = debt_if (drawn.number == n) entries at i (places n) (debts n) found (known n)
debts_next entries at (Lease l) drawn places debts found known n = debt_if (drawn.second == n) entries at _ (places n) (debts n) found (known n)
debts_next entries at act drawn places debts found known n = known n

-- ---- payments of a schedule

dues_behind : (every from owed p k n : ℕ) (ys : List ℕ) (x : Option Due) → n ≡ suc k → slice_get (dues_from every from owed (p ∷ ys)) n ≡ x → slice_get (dues_from every (from + every) (owed - p) ys) k ≡ x
dues_behind every from owed p k n ys x e found = rw e at found

-- the payment at a place stands behind the first ones
pub due_behind : (every from owed n i p : ℕ) (xs ys : List ℕ) (x : Option Due) → xs ≡ p ∷ ys → i < n → slice_get (dues_from every from owed xs) (n - i) ≡ x
    → slice_get (dues_from every (from + every) (owed - p) ys) (n - (i + 1)) ≡ x
due_behind every from owed n i p xs ys x split below found = dues_behind every from owed p (n - (i + 1)) (n - i) ys x (omega arith) (rw split at found)

-- ---- both

-- the tables behind an entry
pub knows_next : (entries : List Entry) (t t' : Tables) (s : Payable) (e : Entry) (at : ℕ) → slice_get entries at ≡ Some e → Knows entries t s
    → NotesVoucher e (get nat_cmp t.vouchers) (get nat_cmp t'.vouchers)
    → ((n : ℕ) → get nat_cmp t'.debts n ≡ debts_noted e.change.act e.drawn at (get nat_cmp t.debts) n) → Knows entries t' (payable_after s e)
knows_next entries t t' s e at found known noted debts = record {
  vouchers = after;
  debts = λ n. ap (option_and_then (schedule_at entries)) (debts n)
      ∙ debts_next entries at e.change.act e.drawn (get nat_cmp t.debts) s.debts (ap (option_and_then (λ (x : Entry). schedule_in x.change.act)) found) known.debts n;
  small = small_same (get nat_cmp t'.vouchers) (vouchers_after e.change.act e.drawn s.vouchers) (λ n. sym (after n))
      (noted.small (small_same s.vouchers (get nat_cmp t.vouchers) known.vouchers known.small));
}
  where
    after : (n : ℕ) → get nat_cmp t'.vouchers n ≡ vouchers_after e.change.act e.drawn s.vouchers n
    after n = noted.put n ∙ vouchers_same e.change.act e.drawn (get nat_cmp t.vouchers) s.vouchers known.vouchers n

-- the tables' amounts are small
pub knows_small : (entries : List Entry) (t : Tables) (s : Payable) → Knows entries t s → AreSmall (get nat_cmp t.vouchers)
knows_small entries t s known = small_same s.vouchers (get nat_cmp t.vouchers) known.vouchers known.small
