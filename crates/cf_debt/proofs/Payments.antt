-- What is read of the payments of all bonds.
use Rattle.std.proofs.Common.{◌≡◌, ℕ, zero, suc, ◌+◌, ◌-◌, ◌*◌, ◌<◌, ◌≤◌, min, List, [], ◌∷◌, length, take, drop, get_or, sum_by, Some, refl, sym, subst, ap, ◌∙◌, arith}
use Rattle.cf_base.proofs.Common.{length-map, length-take, length-drop, get_or-take, get_or-drop, take-map, drop-map, drop-drop, drop-take, take_all, sum_by_more}
use Rattle.cf_debt.specs.declared.rows.BondRow.{BondRow}
use Rattle.cf_debt.specs.declared.rows.Payment.{Payment}
use Rattle.cf_debt.specs.declared.rows.RowTerms.{RowTerms}
use Rattle.cf_debt.specs.Charges.{bond_of, running_charge}
use Rattle.cf_debt.specs.Rows.{AreSmallDues, IsBond, IsSmallDue, schedule, view_bond, view_payment, view_payments}
use Rattle.cf_debt.proofs.Running.{charge_at, due_before}
use Rattle.cf_debt.proofs.Schedules.{next_is, month_at_place}
use Rattle.cf_model.specs.Common.{Due, interest_charge, next_due}
use Rattle.cf_model.proofs.RunningInterest as model

pub payment_at : (payments : List Payment) (i : ℕ) (d : Payment) → get_or (view_payments payments) i (view_payment d) ≡ view_payment (get_or payments i d)
payment_at [] i d = refl
payment_at (p ∷ payments) zero d = refl
payment_at (p ∷ payments) (suc i) d = payment_at payments i d

pub small_at : (payments : List Payment) (i : ℕ) (d : Payment) → AreSmallDues (view_payments payments) → i < length payments → IsSmallDue (view_payment (get_or payments i d))
small_at payments i d small l = subst IsSmallDue (payment_at payments i d) (small i (view_payment d) (omega (arith, l, length-map payments view_payment)))

-- ---- the next payment of a bond

pub next_value : (payments : List Payment) (r : BondRow) (i : ℕ) (d : Payment) → IsBond (view_payments payments) r → r.paid < r.count → i ≡ r.start + r.paid →
    Some (view_payment (get_or payments i d)) ≡ next_due (view_bond (view_payments payments) r)
next_value payments r i d bond l e =
    sym (next_is (view_payments payments) r (view_payment d) bond l ∙ ap (λ j. Some (get_or (view_payments payments) j (view_payment d))) (sym e) ∙ ap Some (payment_at payments i d))

pub next_month : (payments : List Payment) (r : BondRow) (i : ℕ) (d : Payment) → IsBond (view_payments payments) r → r.paid < r.count → i ≡ r.start + r.paid →
    (get_or payments i d).month ≡ r.month + r.terms.every * (r.paid + 1)
next_month payments r i d bond l e =
    ap (λ (p : Due). p.month) (sym (payment_at payments i d))
    ∙ ap (λ j. (get_or (view_payments payments) j (view_payment d)).month) e
    ∙ month_at_place (view_payments payments) r r.paid (view_payment d) bond l

-- ---- what a month charges of a bond

-- a part of small payments
pub small_part : (payments : List Payment) (from count : ℕ) → AreSmallDues (view_payments payments) → AreSmallDues (view_payments (take count (drop from payments)))
small_part payments from count small =
    subst AreSmallDues (ap (take count) (drop-map view_payment from payments) ∙ take-map view_payment count (drop from payments)) inside
  where
    inside : AreSmallDues (take count (drop from (view_payments payments)))
    inside k d l =
        let short : k < min count (length (view_payments payments) - from) = omega (arith, l, length-take count (drop from (view_payments payments)), length-drop from (view_payments payments)) in
        subst IsSmallDue (sym (get_or-take count (drop from (view_payments payments)) k d (omega (arith, short)) ∙ get_or-drop from (view_payments payments) k d))
        (small (from + k) d (omega (arith, short)))

same_charge : (t : RowTerms) (all : List Due) (r : BondRow) (month : ℕ) (ps : List Due) → t ≡ r.terms → running_charge (bond_of t) month ps ≡ model.running_charge (view_bond all r) month ps
same_charge t all r month ps e = ap (λ (u : RowTerms). running_charge (bond_of u) month ps) e ∙ by_list ps
  where
    by_list : (ps : List Due) → running_charge (bond_of r.terms) month ps ≡ model.running_charge (view_bond all r) month ps
    by_list [] = refl
    by_list (p ∷ []) = refl
    by_list (p ∷ q ∷ ps) = refl

rest_of : (payments : List Payment) (r : BondRow) (begun : ℕ) → begun ≤ r.count →
    view_payments (take (r.start + r.count - (r.start + begun)) (drop (r.start + begun) payments)) ≡ drop begun (schedule (view_payments payments) r)
rest_of payments r begun l =
    let all = view_payments payments in
    let more : ℕ = r.start + r.count - (r.start + begun) in
    let whole : begun + more ≡ r.count = omega (arith, l) in
    sym (ap (take more) (drop-map view_payment (r.start + begun) payments) ∙ take-map view_payment more (drop (r.start + begun) payments))
    ∙ ap (take more) (sym (drop-drop begun r.start all))
    ∙ sym (drop-take begun more (drop r.start all))
    ∙ ap (λ n. drop begun (take n (drop r.start all))) whole

pub charge_from : (payments : List Payment) (r : BondRow) (closed begun charge : ℕ) → IsBond (view_payments payments) r → begun ≡ min (due_before r.terms.every r.month closed) r.count →
    charge ≡ running_charge (bond_of r.terms) closed (view_payments (take (r.start + r.count - (r.start + begun)) (drop (r.start + begun) payments))) →
    charge ≡ interest_charge closed (view_bond (view_payments payments) r)
charge_from payments r closed begun charge bond is e =
    let all = view_payments payments in
    e
    ∙ ap (running_charge (bond_of r.terms) closed) (rest_of payments r begun (omega (arith, is)))
    ∙ same_charge r.terms all r closed (drop begun (schedule all r)) refl
    ∙ ap (λ n. model.running_charge (view_bond all r) closed (drop n (schedule all r))) is
    ∙ sym (charge_at all r closed bond)

-- ---- a sum over payments, one by one

pub sum_step : (f : Due → ℕ) (payments : List Payment) (k : ℕ) (d : Payment) → k < length payments →
    sum_by f (take (k + 1) (view_payments payments)) ≡ sum_by f (take k (view_payments payments)) + f (view_payment (get_or payments k d))
sum_step f payments k d l =
    sum_by_more f (view_payments payments) k (view_payment d) (omega (arith, l, length-map payments view_payment))
    ∙ ap (λ p. sum_by f (take k (view_payments payments)) + f p) (payment_at payments k d)

pub sum_all : (f : Due → ℕ) (payments : List Payment) (k : ℕ) → length payments ≤ k → sum_by f (take k (view_payments payments)) ≡ sum_by f (view_payments payments)
sum_all f payments k l = ap (sum_by f) (take_all k (view_payments payments) (omega (arith, l, length-map payments view_payment)))

-- ---- the payments of a bond, and those that are paid

pub own_payments : (payments : List Payment) (r : BondRow) (count : ℕ) → count ≡ r.count → view_payments (take (r.start + count - r.start) (drop r.start payments)) ≡ schedule (view_payments payments) r
own_payments payments r count e =
    let more : r.start + count - r.start ≡ r.count = omega (arith, e) in
    sym (ap (take (r.start + count - r.start)) (drop-map view_payment r.start payments) ∙ take-map view_payment (r.start + count - r.start) (drop r.start payments))
    ∙ ap (λ n. take n (drop r.start (view_payments payments))) more

pub paid_payments : (payments : List Payment) (r : BondRow) (count paid : ℕ) → count ≡ r.count → paid ≡ r.paid →
    view_payments (take paid (take (r.start + count - r.start) (drop r.start payments))) ≡ take r.paid (schedule (view_payments payments) r)
paid_payments payments r count paid e h =
    sym (take-map view_payment paid (take (r.start + count - r.start) (drop r.start payments))) ∙ (λ i. take (h i) (own_payments payments r count e i))
