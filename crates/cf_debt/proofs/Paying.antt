-- A payment of a bond that is paid, and the close of a month.
use Rattle.std.proofs.Common.{◌≡◌, ℕ, zero, suc, ◌+◌, ◌*◌, ◌/◌, ◌<◌, min, Bool, true, false, if◌then◌else◌, ◌==◌, nat_lt, nat_le, List, [], ◌∷◌, length, map, set, take, get_or, Option, None, sum_by, refl, sym, ap, ◌∙◌, arith}
use Rattle.cf_base.proofs.Common.{common_steps}
use Rattle.cf_calls.specs.declared.acts.Act.TheVariants as act
use Rattle.cf_model.specs.Common.{DebtPayment, Refusal, Bond, Due, bond_step, coupon, dues, earned, unpaid, first_refusal, refuse_if}
use Rattle.cf_chart.specs.Common.{Plan}
use Rattle.cf_debt.specs.declared.rows.BondRow.{BondRow}
use Rattle.cf_debt.specs.Register.{unpaid_of}
use Rattle.cf_debt.specs.RegisterView.{AreRows, HasBonds, HasSums, is_live, lease_amount, lease_principal, paid_in, principal_of}
use Rattle.cf_debt.specs.Rows.{IsRow, view_bond, view_bonds}
use Rattle.cf_debt.specs.Steps.{paid_row}
use Rattle.cf_debt.specs.Rows.{lease_part}
use Rattle.cf_debt.proofs.Finding.{agree, differ}
use Rattle.cf_debt.proofs.Lists.{among_set, sum_set}
use Rattle.cf_debt.proofs.Refusing.{or_none}
use Rattle.cf_debt.proofs.Schedules.{month_at_place, next_is, paid_step}
use Rattle.cf_debt.proofs.RunningSums.{Rise}
use Rattle.cf_register_parts.proofs.Lists.{each_set, map_set}

pub rows_paid : (closed : ℕ) (all : List Due) (rows : List BondRow) (k : ℕ) (d : BondRow) → AreRows closed all rows → k < length rows → (get_or rows k d).paid < (get_or rows k d).count →
    AreRows closed all (set rows k (paid_row (get_or rows k d)))
rows_paid closed all rows k d each l left = each_set (IsRow closed all) rows k (paid_row (get_or rows k d)) l here (λ j e jl apart. each j e jl)
  where
    times : (a b : ℕ) → a * (b + 1 + 1) ≡ a * (b + 1) + a
    times a b = omega arith

    here : IsRow closed all k (paid_row (get_or rows k d))
    here =
        let was : IsRow closed all k (get_or rows k d) = each k d l in
        record {
          number = was.number;
          bond = record {
            amount = was.bond.amount;
            rate = was.bond.rate;
            every = was.bond.every;
            day = was.bond.day;
            count = was.bond.count;
            paid = omega (arith, left);
            range = was.bond.range;
            last = was.bond.last;
            within = was.bond.within;
            dues = was.bond.dues;
          };
          unpaid = λ h. omega (arith, was.unpaid left, times (get_or rows k d).terms.every (get_or rows k d).paid);
        }

-- the definitions' step of a payment
pub bonds_paid : (closed : ℕ) (all : List Due) (rows : List BondRow) (k : ℕ) (d : BondRow) (p : DebtPayment) → AreRows closed all rows → k < length rows → p.bond ≡ k + 1 →
    view_bonds all (set rows k (paid_row (get_or rows k d))) ≡ map (bond_step (act.PayDue p)) (view_bonds all rows)
bonds_paid closed all rows k d p each l is =
    map_set (view_bond all) (view_bond all) (bond_step (act.PayDue p)) rows k (paid_row (get_or rows k d)) d l
    (taken ((get_or rows k d).number == p.bond) (view_bond all (paid_row (get_or rows k d))) (view_bond all (get_or rows k d)) (agree (get_or rows k d).number p.bond (omega (arith, is, (each k d l).number))))
    (λ j jl apart. left_out ((get_or rows j d).number == p.bond) (view_bond all (paid_row (get_or rows j d))) (view_bond all (get_or rows j d))
    (differ (get_or rows j d).number p.bond (λ e. apart (omega (arith, e, is, (each j d jl).number)))))
  where
    taken : (t : Bool) (b c : Bond) → t ≡ true → b ≡ (if t then b else c)
    taken t b c e = rw e refl

    left_out : (t : Bool) (b c : Bond) → t ≡ false → c ≡ (if t then b else c)
    left_out t b c e = rw e refl

pub has_paid : (closed : ℕ) (all : List Due) (rows : List BondRow) (live : List ℕ) (k : ℕ) (d : BondRow) → HasBonds closed all rows live → k < length rows → (get_or rows k d).paid < (get_or rows k d).count →
    HasBonds closed all (set rows k (paid_row (get_or rows k d))) live
has_paid closed all rows live k d was l left =
    record {
      sizes = was.sizes;
      each = rows_paid closed all rows k d was.each l left;
      lasting = was.lasting ∙ sym (among_set (λ (r : BondRow). r.number) (is_live closed) rows k (paid_row (get_or rows k d)) d l refl refl);
    }

no_more : (n : ℕ) → n ≡ n + 0
no_more n = omega arith

-- the sums of what was paid rise by the payment's principal and coupon, in the year in which it was
-- due
pub sums_paid : (closed : ℕ) (all : List Due) (rows : List BondRow) (k : ℕ) (d : BondRow) (q : Due) (issued leased repaid repaid_now leases_repaid leases_now coupons coupons_now charged : List ℕ) → AreRows closed all rows → k < length rows →
    (get_or rows k d).paid < (get_or rows k d).count → get_or all ((get_or rows k d).start + (get_or rows k d).paid) q ≡ q → HasSums closed (view_bonds all rows) issued leased repaid leases_repaid coupons charged →
    Rise repaid repaid_now (q.month / 12) q.principal → Rise leases_repaid leases_now (q.month / 12) (lease_part (get_or rows k d).is_lease q.principal) → Rise coupons coupons_now (q.month / 12) (coupon (view_bond all (get_or rows k d)) q) →
    HasSums closed (view_bonds all (set rows k (paid_row (get_or rows k d)))) issued leased repaid_now leases_now coupons_now charged
sums_paid closed all rows k d q issued leased repaid repaid_now leases_repaid leases_now coupons coupons_now charged each l left at was more part interest =
    record {
      issues = λ year. was.issues year ∙ no_more _ ∙ sym (sum_set (λ (b : Bond). if nat_le b.year year then b.amount else 0) (view_bond all) rows k 0 (paid_row r) d l (no_more _));
      leases = λ year. was.leases year ∙ no_more _ ∙ sym (sum_set (λ (b : Bond). if nat_le b.year year then lease_amount b else 0) (view_bond all) rows k 0 (paid_row r) d l (no_more _));
      principals = λ n. more n ∙ ap (λ x. x + (if nat_lt (q.month / 12) n then q.principal else 0)) (was.principals n)
          ∙ sym (sum_set (paid_in n principal_of) (view_bond all) rows k (if nat_lt (q.month / 12) n then q.principal else 0) (paid_row r) d l
          (step (λ (p : Due). if nat_lt (p.month / 12) n then p.principal else 0)));
      lease_principals = λ n. part n ∙ ap (λ x. x + (if nat_lt (q.month / 12) n then lease_principal b q else 0)) (was.lease_principals n)
          ∙ sym (sum_set (paid_in n lease_principal) (view_bond all) rows k (if nat_lt (q.month / 12) n then lease_principal b q else 0) (paid_row r) d l
          (step (λ (p : Due). if nat_lt (p.month / 12) n then lease_principal b p else 0)));
      interests = λ n. interest n ∙ ap (λ x. x + (if nat_lt (q.month / 12) n then coupon b q else 0)) (was.interests n)
          ∙ sym (sum_set (paid_in n coupon) (view_bond all) rows k (if nat_lt (q.month / 12) n then coupon b q else 0) (paid_row r) d l
          (step (λ (p : Due). if nat_lt (p.month / 12) n then coupon b p else 0)));
      charges = λ n. was.charges n ∙ no_more _ ∙ sym (sum_set (earned (min closed (12 * n))) (view_bond all) rows k 0 (paid_row r) d l (no_more _));
    }
  where
    r : BondRow
    r = get_or rows k d

    b : Bond
    b = view_bond all (get_or rows k d)

    step : (f : Due → ℕ) → sum_by f (take (r.paid + 1) (dues (view_bond all r))) ≡ sum_by f (take r.paid (dues (view_bond all r))) + f q
    step f = paid_step f all (get_or rows k d) q (each k d l).bond left ∙ ap (λ p. sum_by f (take r.paid (dues (view_bond all r))) + f p) at

-- ---- the close of a month

none_each : {A : Type 0} (f : Bond → Option Refusal) (v : A → Bond) (xs : List A) → first_refusal f (map v xs) ≡ None → (k : ℕ) (d : A) → k < length xs → f (v (get_or xs k d)) ≡ None
none_each f v [] e k d l = absurd (omega arith)
none_each f v (x ∷ xs) e zero d l = (or_none (f (v x)) (first_refusal f (map v xs)) e).0
none_each f v (x ∷ xs) e (suc k) d l = none_each f v xs (or_none (f (v x)) (first_refusal f (map v xs)) e).1 k d (omega arith)

not_late : (m n : ℕ) (r : Refusal) → refuse_if (nat_le m n) r ≡ None → n < m
not_late m n r e = grind (arith, common_steps)

pub rows_closed : (plan : Plan) (closed : ℕ) (all : List Due) (rows : List BondRow) → AreRows closed all rows → first_refusal (unpaid_of plan closed) (view_bonds all rows) ≡ None → AreRows (closed + 1) all rows
rows_closed plan closed all rows each none k d l =
    let was = each k d l in
    record {
      number = was.number;
      bond = was.bond;
      unpaid = λ left.
          let q : Due = record { from = 0; month = 0; owed = 0; principal = 0 } in
          let p : Due = get_or all ((get_or rows k d).start + (get_or rows k d).paid) q in
          let late = not_late p.month closed _ (sym (ap (unpaid plan closed (view_bond all (get_or rows k d))) (next_is all (get_or rows k d) q was.bond left)) ∙ none_each (unpaid_of plan closed) (view_bond all) rows none k d l) in
          omega (arith, late, month_at_place all (get_or rows k d) (get_or rows k d).paid q was.bond left);
    }
