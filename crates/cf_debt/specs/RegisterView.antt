-- What the register's fields stand for.
use Rattle.std.specs.Prelude.{◌≡◌, ℕ, ◌-◌, ◌*◌, ◌/◌, ◌<◌, ◌≤◌, min, if◌then◌else◌, Bool, nat_lt, nat_le, List, length, map, get_or, sum, sum_by, pos, ◌-ℤ◌}
use Rattle.std.specs.List.{filter}
use Rattle.std.specs.Vec.{vec_capacity}
use Rattle.cf_base.specs.Common.{most_entries, most_cents}
use Rattle.cf_debt.specs.declared.debt.Debt.TheInside.{Inside}
use Rattle.cf_debt.specs.declared.rows.BondRow.{BondRow}
use Rattle.cf_debt.specs.Register.{Register}
use Rattle.cf_debt.specs.Rows.{AreSmallDues, IsRow, view_bonds, view_leave, view_payments}
use Rattle.cf_debt.specs.Rows.{lease_part}
use Rattle.cf_register_parts.specs.Pairs.{Pairs, amount_at}
use Rattle.cf_register_parts.specs.Years.{sum_of, sum_through}
use Rattle.cf_model.specs.Common.{Bond, Due, coupon, earned, paid_dues, LeaveChange, leave_left, leave_through}

abbrev pub register_of : Inside → Register
register_of a = record {
  debts = record {
    bonds = view_bonds (view_payments a.payments.items) a.bonds.items;
    leave = map view_leave a.leave.items;
    closed = a.closed;
  };
  acts = a.acts;
  room = record {
    bonds = vec_capacity a.bonds - length a.bonds.items;
    live = vec_capacity a.live - length a.live.items;
    payments = vec_capacity a.payments - length a.payments.items;
    leave = vec_capacity a.leave - length a.leave.items;
    left = a.left.entries;
  };
}

abbrev pub AreRows : ℕ → List Due → List BondRow → Type 0
AreRows closed all rows = (k : ℕ) (d : BondRow) → k < length rows
    → IsRow closed all k (get_or rows k d)

-- the numbers of the bonds of which a payment is due in a month that isn't closed
abbrev pub is_live : ℕ → BondRow → Bool
is_live closed r = nat_le closed r.last

abbrev pub live_of : ℕ → List BondRow → List ℕ
live_of closed rows = map (λ r. r.number) (filter (is_live closed) rows)

-- ---- running sums: of so many fiscal years of the chart, or through a fiscal year

-- what is issued, of each bond so much
abbrev pub AreIssued : (Bond → ℕ) → List Bond → List ℕ → Type 0
AreIssued f bonds cells = (year : ℕ)
    → sum_through year cells ≡ sum_by (λ b. if nat_le b.year year then f b else 0) bonds

abbrev pub amount_of : Bond → ℕ
amount_of b = b.amount

abbrev pub lease_amount : Bond → ℕ
lease_amount b = lease_part b.is_lease b.amount

-- what was paid of payments that were due in so many years
abbrev pub paid_in : ℕ → (Bond → Due → ℕ) → Bond → ℕ
paid_in n f b = sum_by (λ p. if nat_lt (p.month / 12) n then f b p else 0) (paid_dues b)

abbrev pub principal_of : Bond → Due → ℕ
principal_of b p = p.principal

abbrev pub lease_principal : Bond → Due → ℕ
lease_principal b p = lease_part b.is_lease p.principal

abbrev pub ArePaid : (Bond → Due → ℕ) → List Bond → List ℕ → Type 0
ArePaid f bonds cells = (n : ℕ) → sum_of n cells ≡ sum_by (paid_in n f) bonds

-- the interest charged in so many years
abbrev pub AreCharged : ℕ → List Bond → List ℕ → Type 0
AreCharged closed bonds cells = (n : ℕ)
    → sum_of n cells ≡ sum_by (earned (min closed (12 * n))) bonds

-- leave, as it was earned and as it was used or paid
abbrev pub AreLeave : List LeaveChange → List ℕ → List ℕ → Type 0
AreLeave leave earned taken = (year : ℕ)
    → pos (sum_through year earned) -ℤ pos (sum_through year taken) ≡ leave_through year leave

abbrev pub AreLeft : List LeaveChange → Pairs ℕ → Type 0
AreLeft leave table = (fund dept : ℕ) → pos (amount_at table fund dept) ≡ leave_left fund dept leave

-- the most interest of a month, in cents: in one month at most two payments of a bond earn
abbrev pub most_interest : ℕ
most_interest = 2 * most_cents * most_entries

-- each act adds at most 10^13 cents to what is issued, paid, earned or taken, and a close at most 2
-- * 10^13 a bond to the interest
pub record IsSmall (a : Inside) : Type 0 where
  pub acts : a.acts ≤ most_entries
  pub bonds : length a.bonds.items ≤ a.acts
  pub closed : a.closed ≤ 2760
  pub issued : sum a.issued ≤ most_cents * a.acts
  pub leased : sum a.leased ≤ most_cents * a.acts
  pub repaid : sum a.repaid ≤ most_cents * a.acts
  pub leases_repaid : sum a.leases_repaid ≤ most_cents * a.acts
  pub coupons : sum a.coupons ≤ most_cents * a.acts
  pub charged : sum a.charged ≤ most_interest * a.acts
  pub earned : sum a.earned ≤ most_cents * a.acts
  pub taken : sum a.taken ≤ most_cents * a.acts
  pub left : (fund dept : ℕ) → amount_at a.left.entries fund dept ≤ most_cents * a.acts

-- bonds, their payments, and the list of those that are live
pub record HasBonds (closed : ℕ) (all : List Due) (rows : List BondRow)
    (live : List ℕ) : Type 0 where
  pub sizes : AreSmallDues all
  pub each : AreRows closed all rows
  pub lasting : live ≡ live_of closed rows

pub record HasSums (closed : ℕ) (bonds : List Bond)
    (issued leased repaid leases_repaid coupons charged : List ℕ) : Type 0 where
  pub issues : AreIssued amount_of bonds issued
  pub leases : AreIssued lease_amount bonds leased
  pub principals : ArePaid principal_of bonds repaid
  pub lease_principals : ArePaid lease_principal bonds leases_repaid
  pub interests : ArePaid coupon bonds coupons
  pub charges : AreCharged closed bonds charged

pub record HasLeave (leave : List LeaveChange) (table : Pairs ℕ)
    (earned taken : List ℕ) : Type 0 where
  pub left : AreLeft leave table
  pub years : AreLeave leave earned taken

pub record IsSound (a : Inside) : Type 0 where
  pub small : IsSmall a
  pub bonds : HasBonds a.closed (view_payments a.payments.items) a.bonds.items a.live.items
  pub sums : HasSums a.closed
      (view_bonds (view_payments a.payments.items) a.bonds.items) a.issued a.leased a.repaid
      a.leases_repaid a.coupons a.charged
  pub leave : HasLeave (map view_leave a.leave.items) a.left.entries a.earned a.taken
