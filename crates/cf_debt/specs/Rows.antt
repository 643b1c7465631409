-- What the register's rows stand for.
use Rattle.std.specs.Prelude.{◌≡◌, ℕ, Bool, ◌+◌, ◌*◌, ◌<◌, ◌≤◌, if◌then◌else◌, List, length, map, take, drop, get_or, pos, ◌-ℤ◌}
use Rattle.cf_calls.specs.Common.{IsCount}
use Rattle.cf_debt.specs.declared.rows.BondRow.{BondRow}
use Rattle.cf_debt.specs.declared.rows.LeaveRow.{LeaveRow}
use Rattle.cf_debt.specs.declared.rows.Payment.{Payment}
use Rattle.cf_model.specs.Common.{Bond, Due, dues, LeaveChange}
use Rattle.cf_base.specs.Common.{most_cents}

abbrev pub view_payment : Payment → Due
view_payment p = record { from = p.from; month = p.month; owed = p.owed; principal = p.principal }

-- the payments of all bonds
abbrev pub view_payments : List Payment → List Due
view_payments payments = map view_payment payments

-- the payments of a bond among those of all
abbrev pub schedule : List Due → BondRow → List Due
schedule all r = take r.count (drop r.start all)

abbrev pub view_bond : List Due → BondRow → Bond
view_bond all r = record {
  number = r.number;
  is_lease = r.is_lease;
  fund = r.fund;
  amount = r.amount;
  year = r.year;
  month = r.month;
  day = r.terms.day;
  rate_bp = r.terms.rate_bp;
  every = r.terms.every;
  principals = map (λ p. p.principal) (schedule all r);
  paid = r.paid;
}

abbrev pub view_bonds : List Due → List BondRow → List Bond
view_bonds all rows = map (view_bond all) rows

abbrev pub view_leave : LeaveRow → LeaveChange
view_leave r = record {
  fund = r.fund;
  dept = r.dept;
  year = r.year;
  by = if r.is_earned then pos r.amount
      else pos 0 -ℤ pos r.amount;
}

-- a payment's months and amounts are small
pub record IsSmallDue (p : Due) : Type 0 where
  pub from : p.from ≤ 2759
  pub month : p.month ≤ 2759
  pub owed : p.owed ≤ most_cents
  pub principal : p.principal ≤ most_cents

abbrev pub AreSmallDues : List Due → Type 0
AreSmallDues all = (k : ℕ) (d : Due) → k < length all → IsSmallDue (get_or all k d)

-- a bond's payments stand among those of all, as its terms make them
pub record IsBond (all : List Due) (r : BondRow) : Type 0 where
  pub amount : r.amount ≤ most_cents
  pub rate : r.terms.rate_bp ≤ 10000
  pub every : IsCount 1 12 r.terms.every
  pub day : IsCount 1 28 r.terms.day
  pub count : IsCount 1 120 r.count
  pub paid : r.paid ≤ r.count
  pub range : r.start + r.count ≤ length all
  pub last : r.last ≡ r.month + r.terms.every * r.count
  pub within : r.last ≤ 2759
  pub dues : dues (view_bond all r) ≡ schedule all r

-- a row stands where its number says, and what it has to pay is due in a month that isn't closed
pub record IsRow (closed : ℕ) (all : List Due) (k : ℕ) (r : BondRow) : Type 0 where
  pub number : r.number ≡ k + 1
  pub bond : IsBond all r
  pub unpaid : r.paid < r.count → closed ≤ r.month + r.terms.every * (r.paid + 1)

-- what of an amount is of a lease
abbrev pub lease_part : Bool → ℕ → ℕ
lease_part is_lease amount = if is_lease then amount else 0
