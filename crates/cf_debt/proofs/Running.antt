-- Which payment of a bond runs in a month, and what a month charges.
use Rattle.std.proofs.Common.{◌≡◌, ◌⊎◌, inl, inr, ℕ, suc, ◌+◌, ◌-◌, ◌*◌, ◌/◌, ◌<◌, ◌≤◌, min, Bool, true, false, if◌then◌else◌, nat_lt, List, [], ◌∷◌, length, map, drop, refl, sym, ap, ◌∙◌, arith}
use Rattle.cf_base.proofs.Common.{leb_tells, add-div_left, div-eq_of_lt, drop-nil}
use Rattle.cf_debt.specs.declared.rows.BondRow.{BondRow}
use Rattle.cf_debt.specs.Rows.{IsBond, schedule, view_bond}
use Rattle.cf_debt.proofs.Schedules.{length_principals}
use Rattle.cf_model.specs.Common.{Due, dues_from, interest_charge}
use Rattle.cf_model.proofs.Common.{running, running_charge, charge_is}

abbrev Less : Bool → ℕ → ℕ → Type 0
Less b m n = ((b ≡ true) × (suc m ≤ n)) ⊎ ((b ≡ false) × (n < suc m))

-- how many payments are due before a month, if there were enough
abbrev pub due_before : ℕ → ℕ → ℕ → ℕ
due_before every from month = (month - (from + 1)) / every

one_more : (every from month : ℕ) → 1 ≤ every → from + every < month → due_before every from month ≡ suc (due_before every (from + every) month)
one_more every from month some l =
    let split : month - (from + 1) ≡ every + (month - ((from + every) + 1)) = omega (arith, l) in
    ap (λ n. n / every) split ∙ add-div_left (month - ((from + every) + 1)) {k = every} (omega (arith, some)) ∙ omega arith

none_yet : (every from month : ℕ) → 1 ≤ every → month ≤ from + every → due_before every from month ≡ 0
none_yet every from month some l = div-eq_of_lt {n = month - (from + 1)} {m = every} (omega (arith, l, some))

-- the payments from the first on that isn't due before a month: those after so many
pub running_is : (every from owed month : ℕ) (principals : List ℕ) → 1 ≤ every →
    running month (dues_from every from owed principals) ≡ drop (min (due_before every from month) (length principals)) (dues_from every from owed principals)
running_is every from owed month [] some = sym (drop-nil (min (due_before every from month) 0))
running_is every from owed month (p ∷ principals) some = by_test (nat_lt (from + every) month) (leb_tells (suc (from + every)) month) (running_is every (from + every) (owed - p) month principals some)
  where
    by_test : (b : Bool) → Less b (from + every) month →
        running month (dues_from every (from + every) (owed - p) principals) ≡ drop (min (due_before every (from + every) month) (length principals)) (dues_from every (from + every) (owed - p) principals) →
        (if b then running month (dues_from every (from + every) (owed - p) principals) else record { from = from; month = from + every; owed = owed; principal = p } ∷ dues_from every (from + every) (owed - p) principals)
        ≡ drop (min (due_before every from month) (suc (length principals))) (record { from = from; month = from + every; owed = owed; principal = p } ∷ dues_from every (from + every) (owed - p) principals)
    by_test true (inl h) more =
        let count : min (due_before every from month) (suc (length principals)) ≡ suc (min (due_before every (from + every) month) (length principals)) = omega (arith, one_more every from month some (omega (arith, h.1))) in
        more ∙ sym (ap (λ n. drop n (record { from = from; month = from + every; owed = owed; principal = p } ∷ dues_from every (from + every) (owed - p) principals)) count)
    by_test true (inr h) more = cc
    by_test false (inl h) more = cc
    by_test false (inr h) more =
        let count : min (due_before every from month) (suc (length principals)) ≡ 0 = omega (arith, none_yet every from month some (omega (arith, h.1))) in
        sym (ap (λ n. drop n (record { from = from; month = from + every; owed = owed; principal = p } ∷ dues_from every (from + every) (owed - p) principals)) count)

pub none_running : (every from owed month : ℕ) (principals : List ℕ) → from + every * length principals < month → running month (dues_from every from owed principals) ≡ []
none_running every from owed month [] l = refl
none_running every from owed month (p ∷ principals) l =
    by_test (nat_lt (from + every) month) (leb_tells (suc (from + every)) month) (none_running every (from + every) (owed - p) month principals (omega (arith, l, times every (length principals))))
  where
    times : (a b : ℕ) → a * suc b ≡ a + a * b
    times a b = omega arith

    by_test : (b : Bool) → Less b (from + every) month → running month (dues_from every (from + every) (owed - p) principals) ≡ [] →
        (if b then running month (dues_from every (from + every) (owed - p) principals) else record { from = from; month = from + every; owed = owed; principal = p } ∷ dues_from every (from + every) (owed - p) principals) ≡ []
    by_test true h more = more
    by_test false (inl h) more = cc
    by_test false (inr h) more = absurd (omega (arith, h.1, l, times every (length principals)))

-- what a month charges of a bond
pub charge_at : (all : List Due) (r : BondRow) (month : ℕ) → IsBond all r →
    interest_charge month (view_bond all r) ≡ running_charge (view_bond all r) month (drop (min (due_before r.terms.every r.month month) r.count) (schedule all r))
charge_at all r month bond =
    let b = view_bond all r in
    charge_is b month bond.every.from bond.day.from bond.day.to
    ∙ ap (running_charge b month)
    (running_is r.terms.every r.month r.amount month (map (λ (p : Due). p.principal) (schedule all r)) bond.every.from
    ∙ (λ i. drop (min (due_before r.terms.every r.month month) (length_principals all r bond.range i)) (bond.dues i)))

-- .. and of one whose payments are all due in closed months
pub no_charge : (all : List Due) (r : BondRow) (month : ℕ) → IsBond all r → r.last < month → interest_charge month (view_bond all r) ≡ 0
no_charge all r month bond l =
    let b = view_bond all r in
    let past : r.month + r.terms.every * length (map (λ (p : Due). p.principal) (schedule all r)) < month = omega (arith, ap (λ n. r.month + r.terms.every * n) (length_principals all r bond.range), bond.last, l) in
    charge_is b month bond.every.from bond.day.from bond.day.to
    ∙ ap (running_charge b month) (none_running r.terms.every r.month r.amount month (map (λ (p : Due). p.principal) (schedule all r)) past)
