-- A bond that is issued, with its payments.
use Rattle.std.proofs.Common.{◌≡◌, ℕ, ◌+◌, ◌-◌, ◌*◌, ◌≤◌, Bool, true, false, if◌then◌else◌, ◌==◌, ◌||◌, nat_lt, nat_le, List, [], ◌∷◌, ◌++◌, length, take, get_or, sum, sum_by, refl, sym, ap, ◌∙◌, arith}
use Rattle.cf_base.proofs.Common.{common_steps, length-append, parts}
use Rattle.cf_model.specs.Common.{Day, BondIssue, Bond, Due, coupon, dues, dues_from, year_of_day, number_of_day}
use Rattle.cf_base.specs.Common.{is_day, most_cents}
use Rattle.cf_calls.specs.Common.{IsCount, IsTermsForm, is_period}
use Rattle.cf_chart.specs.Common.{Plan}
use Rattle.cf_debt.specs.declared.rows.BondRow.{BondRow}
use Rattle.cf_debt.specs.RegisterView.{AreRows, HasBonds, HasSums, amount_of, is_live, lease_amount, lease_principal, principal_of}
use Rattle.cf_debt.specs.Rows.{IsBond, IsRow, IsSmallDue, view_bond, view_bonds}
use Rattle.cf_debt.specs.Steps.{bond_row}
use Rattle.cf_debt.specs.Rows.{lease_part}
use Rattle.cf_debt.proofs.Lists.{among_push}
use Rattle.cf_debt.proofs.Schedules.{bond_more, bond_paying, is_bond_more, length_dues, new_dues, new_view, small_dues}
use Rattle.cf_debt.proofs.RunningSums.{Rise, charged_push, issued_push, paid_push}
use Rattle.cf_model.proofs.Common.{early_dues}
use Rattle.cf_register_parts.proofs.Lists.{each_append, each_push, map-push, map_same}

months_between : (n : ℕ) → is_period n ≡ true → IsCount 1 12 n
months_between n e = record { from = grind (arith, common_steps); to = grind (arith, common_steps) }

-- the payments of a new bond
abbrev pub new_payments : BondRow → List ℕ → List Due
new_payments r principals = dues_from r.terms.every r.month r.amount principals

-- what is known of a new bond's row
pub record IsNew (closed : ℕ) (all : List Due) (count : ℕ) (r : BondRow) (principals : List ℕ) : Type 0 where
  pub number : r.number ≡ count + 1
  pub year : 1970 ≤ r.year
  pub amount : r.amount ≤ most_cents
  pub rate : r.terms.rate_bp ≤ 10000
  pub every : IsCount 1 12 r.terms.every
  pub day : IsCount 1 28 r.terms.day
  pub payments : IsCount 1 120 r.count
  pub paid : r.paid ≡ 0
  pub start : r.start ≡ length all
  pub length_is : r.count ≡ length principals
  pub total : sum principals ≡ r.amount
  pub last : r.last ≡ r.month + r.terms.every * r.count
  pub within : r.last ≤ 2759
  pub early : closed ≤ r.month

pub new_row : (plan : Plan) (on : Day) (number : ℕ) (is_lease : Bool) (i : BondIssue) (closed : ℕ) (all : List Due) (count : ℕ) → is_day on ≡ true → IsTermsForm on i.amount i.terms → number ≡ count + 1 → i.amount ≤ most_cents →
    1970 ≤ (bond_row plan on number is_lease i (length all)).year → (bond_row plan on number is_lease i (length all)).last ≤ 2759 → closed ≤ number_of_day plan on → IsNew closed all count (bond_row plan on number is_lease i (length all)) i.terms.principals
new_row plan on number is_lease i closed all count day form is amount year within early =
    record {
      number = is;
      year = year;
      amount = amount;
      rate = form.rate;
      every = months_between i.terms.every form.every;
      day = record { from = (parts on day).first_day; to = form.day };
      payments = form.principals;
      paid = refl;
      start = refl;
      length_is = refl;
      total = form.total;
      last = refl;
      within = within;
      early = early;
    }

bond_entered : (closed : ℕ) (all : List Due) (count : ℕ) (r : BondRow) (principals : List ℕ) → IsNew closed all count r principals → IsBond (all ++ new_payments r principals) r
bond_entered closed all count r principals is =
    record {
      amount = is.amount;
      rate = is.rate;
      every = is.every;
      day = is.day;
      count = is.payments;
      paid = omega (arith, is.paid);
      range = omega (arith, is.start, is.length_is, length-append all (new_payments r principals), length_dues r.terms.every r.month r.amount principals);
      last = is.last;
      within = is.within;
      dues = new_dues all r principals is.start is.length_is;
    }

pub bonds_entered : (closed : ℕ) (all : List Due) (rows : List BondRow) (r : BondRow) (principals : List ℕ) → AreRows closed all rows → IsNew closed all (length rows) r principals →
    view_bonds (all ++ new_payments r principals) (rows ++ r ∷ []) ≡ view_bonds all rows ++ bond_paying r principals ∷ []
bonds_entered closed all rows r principals each is =
    map-push (view_bond (all ++ new_payments r principals)) rows r
    ∙ (λ i. map_same (view_bond all) (view_bond (all ++ new_payments r principals)) rows (λ k d l. bond_more all (new_payments r principals) (get_or rows k d) (each k d l).bond) i
    ++ new_view all r principals is.start is.length_is i ∷ [])

le_true : (m n : ℕ) → m ≤ n → nat_le m n ≡ true
le_true m n l = grind (arith, common_steps)

pub has_entered : (closed : ℕ) (all : List Due) (rows : List BondRow) (live : List ℕ) (r : BondRow) (principals : List ℕ) → HasBonds closed all rows live → IsNew closed all (length rows) r principals →
    HasBonds closed (all ++ new_payments r principals) (rows ++ r ∷ []) (live ++ r.number ∷ [])
has_entered closed all rows live r principals was is =
    record {
      sizes = each_append (λ k p. IsSmallDue p) all (new_payments r principals) was.sizes
          (λ k d l. small_dues r.terms.every r.month r.amount principals is.amount (omega (arith, is.total, is.amount)) last k d (omega (arith, l, length_dues r.terms.every r.month r.amount principals)));
      each = each_push (IsRow closed (all ++ new_payments r principals)) rows r
          (λ k d l. record { number = (was.each k d l).number; bond = is_bond_more all (new_payments r principals) (get_or rows k d) (was.each k d l).bond; unpaid = (was.each k d l).unpaid })
          (record { number = is.number; bond = bond_entered closed all (length rows) r principals is; unpaid = λ h. omega (arith, is.early) });
      lasting = ap (λ ns. ns ++ r.number ∷ []) was.lasting ∙ sym (among_push (λ (x : BondRow). x.number) (is_live closed) rows r (le_true closed r.last (omega (arith, is.last, is.early))));
    }
  where
    last : r.month + r.terms.every * length principals ≤ 2759
    last = omega (arith, is.last, is.within, ap (λ n. r.month + r.terms.every * n) is.length_is)

nothing_paid : (f : Due → ℕ) (ps : List Due) (paid : ℕ) → paid ≡ 0 → sum_by f (take paid ps) ≡ 0
nothing_paid f ps paid e = ap (λ n. sum_by f (take n ps)) e ∙ none ps
  where
    none : (ps : List Due) → sum_by f (take 0 ps) ≡ 0
    none [] = refl
    none (p ∷ ps) = refl

pub sums_entered : (closed : ℕ) (all : List Due) (count : ℕ) (bonds : List Bond) (r : BondRow) (principals issued new leased leased_now repaid leases_repaid coupons charged : List ℕ) → IsNew closed all count r principals →
    HasSums closed bonds issued leased repaid leases_repaid coupons charged → Rise issued new (r.year - 1970) r.amount → Rise leased leased_now (r.year - 1970) (lease_part r.is_lease r.amount) →
    HasSums closed (bonds ++ bond_paying r principals ∷ []) new leased_now repaid leases_repaid coupons charged
sums_entered closed all count bonds r principals issued new leased leased_now repaid leases_repaid coupons charged is was rise part =
    let b = bond_paying r principals in
    record {
      issues = issued_push amount_of bonds b issued new is.year was.issues rise;
      leases = issued_push lease_amount bonds b leased leased_now is.year was.leases part;
      principals = paid_push principal_of bonds b repaid (λ n. nothing_paid _ (dues b) r.paid is.paid) was.principals;
      lease_principals = paid_push lease_principal bonds b leases_repaid (λ n. nothing_paid _ (dues b) r.paid is.paid) was.lease_principals;
      interests = paid_push coupon bonds b coupons (λ n. nothing_paid _ (dues b) r.paid is.paid) was.interests;
      charges = charged_push closed bonds b charged (λ m l. early_dues b m r.month r.amount principals (omega (arith, l, is.early)) is.day.from) was.charges;
    }

pub year_from : (plan : Plan) (on : Day) → is_day on ≡ true → 1970 ≤ year_of_day plan on
year_from plan on day = by_test ((plan.first_month == 1) || nat_lt on.month plan.first_month)
  where
    by_test : (b : Bool) → 1970 ≤ (if b then on.year else on.year + 1)
    by_test true = omega (arith, (parts on day).from)
    by_test false = omega (arith, (parts on day).from)
