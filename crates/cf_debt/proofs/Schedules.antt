-- The payments of a bond among those of all bonds.
use Rattle.std.proofs.Common.{◌≡◌, ℕ, zero, suc, ◌+◌, ◌-◌, ◌*◌, ◌<◌, ◌≤◌, List, [], ◌∷◌, ◌++◌, length, map, take, drop, get_or, slice_get, sum, sum_by, Some, None, refl, sym, subst, ap, ◌∙◌, arith, append_assoc}
use Rattle.cf_base.proofs.Common.{length-append, length-map, length-drop, length-take-le, get_or-take, get_or-drop, drop-append-le, take-append-le, drop_at, drop_more, take_all, sum_by-cons, sum_by_more, slice_get-get_or, slice_get_past}
use Rattle.cf_debt.specs.declared.rows.BondRow.{BondRow}
use Rattle.cf_debt.specs.declared.rows.Payment.{Payment}
use Rattle.cf_debt.specs.Rows.{IsBond, IsSmallDue, schedule, view_bond, view_payment, view_payments}
use Rattle.cf_model.specs.Common.{Bond, Due, dues, dues_from, next_due}
use Rattle.cf_base.specs.Common.{most_cents}
use Rattle.cf_register_parts.proofs.Lists.{map-push}

pub length_dues : (every from owed : ℕ) (principals : List ℕ) → length (dues_from every from owed principals) ≡ length principals
length_dues every from owed [] = refl
length_dues every from owed (p ∷ principals) = ap suc (length_dues every (from + every) (owed - p) principals)

pub principals_of : (every from owed : ℕ) (principals : List ℕ) → map (λ (p : Due). p.principal) (dues_from every from owed principals) ≡ principals
principals_of every from owed [] = refl
principals_of every from owed (p ∷ principals) = ap (λ qs. p ∷ qs) (principals_of every (from + every) (owed - p) principals)

-- each payment is due so many months after the one before
pub due_month : (every from owed k : ℕ) (principals : List ℕ) (d : Due) → k < length principals → (get_or (dues_from every from owed principals) k d).month ≡ from + every * (k + 1)
due_month every from owed k [] d l = absurd (omega arith)
due_month every from owed zero (p ∷ principals) d l = omega arith
due_month every from owed (suc k) (p ∷ principals) d l = due_month every (from + every) (owed - p) k principals d (omega arith) ∙ next every from k
  where
    next : (a b c : ℕ) → (b + a) + a * (c + 1) ≡ b + a * (suc c + 1)
    next a b c = omega arith

pub small_dues : (every from owed : ℕ) (principals : List ℕ) → owed ≤ most_cents → sum principals ≤ most_cents → from + every * length principals ≤ 2759 →
    (k : ℕ) (d : Due) → k < length principals → IsSmallDue (get_or (dues_from every from owed principals) k d)
small_dues every from owed [] most total last k d l = absurd (omega arith)
small_dues every from owed (p ∷ principals) most total last zero d l =
    record {
      from = omega (arith, last);
      month = omega (arith, times every (length principals), last);
      owed = most;
      principal = omega (arith, total, sum_by-cons (λ (x : ℕ). x) p principals);
    }
  where
    times : (a b : ℕ) → a * suc b ≡ a + a * b
    times a b = omega arith
small_dues every from owed (p ∷ principals) most total last (suc k) d l =
    small_dues every (from + every) (owed - p) principals (omega (arith, most)) (omega (arith, total, sum_by-cons (λ (x : ℕ). x) p principals)) (omega (arith, times every (length principals), last)) k d (omega arith)
  where
    times : (a b : ℕ) → a * suc b ≡ a + a * b
    times a b = omega arith

-- ---- reading

pub at_schedule : (all : List Due) (r : BondRow) (k : ℕ) (d : Due) → k < r.count → get_or (schedule all r) k d ≡ get_or all (r.start + k) d
at_schedule all r k d l = get_or-take r.count (drop r.start all) k d l ∙ get_or-drop r.start all k d

within : (all : List Due) (r : BondRow) → r.start + r.count ≤ length all → r.count ≤ length (drop r.start all)
within all r l = rw (length-drop r.start all) (omega arith)

pub length_schedule : (all : List Due) (r : BondRow) → r.start + r.count ≤ length all → length (schedule all r) ≡ r.count
length_schedule all r l = length-take-le r.count (drop r.start all) (within all r l)

pub length_principals : (all : List Due) (r : BondRow) → r.start + r.count ≤ length all → length (map (λ (p : Due). p.principal) (schedule all r)) ≡ r.count
length_principals all r l = length-map (schedule all r) (λ (p : Due). p.principal) ∙ length_schedule all r l

pub next_is : (all : List Due) (r : BondRow) (d : Due) → IsBond all r → r.paid < r.count → next_due (view_bond all r) ≡ Some (get_or all (r.start + r.paid) d)
next_is all r d bond l =
    let in_schedule : r.paid < length (schedule all r) = omega (arith, length_schedule all r bond.range, l) in
    ap (λ ps. slice_get ps r.paid) bond.dues ∙ slice_get-get_or (schedule all r) r.paid d in_schedule ∙ ap Some (at_schedule all r r.paid d l)

pub next_none : (all : List Due) (r : BondRow) → IsBond all r → r.count ≤ r.paid → next_due (view_bond all r) ≡ None
next_none all r bond l =
    let past : length (schedule all r) ≤ r.paid = omega (arith, length_schedule all r bond.range, l) in
    ap (λ ps. slice_get ps r.paid) bond.dues ∙ slice_get_past (schedule all r) r.paid past

pub month_at_place : (all : List Due) (r : BondRow) (k : ℕ) (d : Due) → IsBond all r → k < r.count → (get_or all (r.start + k) d).month ≡ r.month + r.terms.every * (k + 1)
month_at_place all r k d bond l =
    let in_principals : k < length (map (λ (p : Due). p.principal) (schedule all r)) = omega (arith, length_principals all r bond.range, l) in
    ap (λ (p : Due). p.month) (sym (at_schedule all r k d l))
    ∙ ap (λ ps. (get_or ps k d).month) (sym bond.dues)
    ∙ due_month r.terms.every r.month r.amount k (map (λ (p : Due). p.principal) (schedule all r)) d in_principals

-- what is paid with the next payment
pub paid_step : (f : Due → ℕ) (all : List Due) (r : BondRow) (d : Due) → IsBond all r → r.paid < r.count →
    sum_by f (take (r.paid + 1) (dues (view_bond all r))) ≡ sum_by f (take r.paid (dues (view_bond all r))) + f (get_or all (r.start + r.paid) d)
paid_step f all r d bond l =
    let in_schedule : r.paid < length (schedule all r) = omega (arith, length_schedule all r bond.range, l) in
    subst (λ (ps : List Due). sum_by f (take (r.paid + 1) ps) ≡ sum_by f (take r.paid ps) + f (get_or all (r.start + r.paid) d)) (sym bond.dues)
    (sum_by_more f (schedule all r) r.paid d in_schedule ∙ ap (λ p. sum_by f (take r.paid (schedule all r)) + f p) (at_schedule all r r.paid d l))

-- ---- the payments of another bond follow

-- a bond with these principals, and with this schedule
abbrev pub bond_paying : BondRow → List ℕ → Bond
bond_paying r principals = record {
  number = r.number;
  is_lease = r.is_lease;
  fund = r.fund;
  amount = r.amount;
  year = r.year;
  month = r.month;
  day = r.terms.day;
  rate_bp = r.terms.rate_bp;
  every = r.terms.every;
  principals = principals;
  paid = r.paid;
}

abbrev bond_with : BondRow → List Due → Bond
bond_with r ps = bond_paying r (map (λ p. p.principal) ps)

pub schedule_more : (all new : List Due) (r : BondRow) → r.start + r.count ≤ length all → schedule (all ++ new) r ≡ schedule all r
schedule_more all new r l =
    ap (take r.count) (drop-append-le r.start all new (omega (arith, l))) ∙ take-append-le r.count (drop r.start all) new (within all r l)

pub bond_more : (all new : List Due) (r : BondRow) → IsBond all r → view_bond (all ++ new) r ≡ view_bond all r
bond_more all new r bond = ap (bond_with r) (schedule_more all new r bond.range)

pub is_bond_more : (all new : List Due) (r : BondRow) → IsBond all r → IsBond (all ++ new) r
is_bond_more all new r bond =
    record {
      amount = bond.amount;
      rate = bond.rate;
      every = bond.every;
      day = bond.day;
      count = bond.count;
      paid = bond.paid;
      range = omega (arith, bond.range, length-append all new);
      last = bond.last;
      within = bond.within;
      dues = subst (λ (ps : List Due). dues (bond_with r ps) ≡ ps) (sym (schedule_more all new r bond.range)) bond.dues;
    }

pub new_schedule : (all new : List Due) (r : BondRow) → r.start ≡ length all → r.count ≡ length new → schedule (all ++ new) r ≡ new
new_schedule all new r start count = ap (take r.count) (drop_at all new r.start (sym start)) ∙ take_all r.count new (omega (arith, count))

-- a bond whose schedule is that of its terms
pub new_dues : (all : List Due) (r : BondRow) (principals : List ℕ) → r.start ≡ length all → r.count ≡ length principals →
    dues (view_bond (all ++ dues_from r.terms.every r.month r.amount principals) r) ≡ schedule (all ++ dues_from r.terms.every r.month r.amount principals) r
new_dues all r principals start count =
    let new = dues_from r.terms.every r.month r.amount principals in
    subst (λ (ps : List Due). dues (bond_with r ps) ≡ ps) (sym (new_schedule all new r start (count ∙ sym (length_dues r.terms.every r.month r.amount principals))))
    (ap (dues_from r.terms.every r.month r.amount) (principals_of r.terms.every r.month r.amount principals))

pub new_view : (all : List Due) (r : BondRow) (principals : List ℕ) → r.start ≡ length all → r.count ≡ length principals →
    view_bond (all ++ dues_from r.terms.every r.month r.amount principals) r
    ≡ bond_paying r principals
new_view all r principals start count =
    let new = dues_from r.terms.every r.month r.amount principals in
    ap (bond_with r) (new_schedule all new r start (count ∙ sym (length_dues r.terms.every r.month r.amount principals)))
    ∙ ap (bond_paying r) (principals_of r.terms.every r.month r.amount principals)

-- ---- a schedule that is built payment by payment

pub built_step : (items : List Payment) (every from owed k p : ℕ) (principals : List ℕ) → k < length principals → p ≡ get_or principals k p →
    view_payments (items ++ record { from = from; month = from + every; owed = owed; principal = p } ∷ []) ++ dues_from every (from + every) (owed - p) (drop (k + 1) principals)
    ≡ view_payments items ++ dues_from every from owed (drop k principals)
built_step items every from owed k p principals l at =
    ap (λ xs. xs ++ dues_from every (from + every) (owed - p) (drop (k + 1) principals)) (map-push view_payment items (record { from = from; month = from + every; owed = owed; principal = p }))
    ∙ append_assoc (view_payments items) (record { from = from; month = from + every; owed = owed; principal = p } ∷ []) (dues_from every (from + every) (owed - p) (drop (k + 1) principals))
    ∙ sym (ap (λ qs. view_payments items ++ dues_from every from owed qs) (drop_more principals k p l ∙ ap (λ q. q ∷ drop (k + 1) principals) (sym at)))
