use Rattle.std.proofs.Common.{◌≡◌, ◌+◌, ◌-◌, ◌/◌, ◌<◌, ◌∙◌, ℕ, Bool, true, false, ◌≤◌, length, map, get_or, ap, arith, sym, subst, refl}
use Rattle.cf_base.proofs.Common.{length-map, length-set}
use Rattle.cf_debt.specs.declared.debt.Debt.TheInside.{Inside}
use Rattle.cf_debt.specs.declared.rows.BondRow.{BondRow}
use Rattle.cf_debt.specs.declared.rows.Payment.{Payment}
use Rattle.cf_debt.specs.Register.{Register}
use Rattle.cf_debt.specs.RegisterView.{AreRows, register_of}
use Rattle.cf_debt.specs.Rows.{AreSmallDues, IsRow, IsSmallDue, view_bond, view_bonds, view_leave, view_payment, view_payments}
use Rattle.cf_debt.specs.Steps.{CanPay}
use Rattle.cf_debt.specs.Rows.{lease_part}
use Rattle.cf_debt.proofs.Finding.{Pays, found_left, found_row, pays}
use Rattle.cf_debt.proofs.Paying.{bonds_paid, has_paid, sums_paid}
use Rattle.cf_debt.proofs.Payments.{payment_at, small_at}
use Rattle.cf_debt.proofs.RunningSums.{Rise}
use Rattle.cf_model.specs.Common.{coupon}
use Rattle.cf_debt.proofs.debt.Debt.pay.Goals as goal
use Rattle.cf_base.specs.Common.{most_entries}

found : (a : Inside) (r : Register) (n : ℕ) → register_of a ≡ r → AreRows a.closed (view_payments a.payments.items) a.bonds.items → CanPay n r.debts → Pays a.bonds.items n
found a r n view each can =
    pays (register_of a).debts a.closed (view_payments a.payments.items) a.bonds.items n refl each (subst (λ (q : Register). CanPay n q.debts) (sym view) can)

-- the row of the bond, which stands in its place and has a payment left
record Payable (a : Inside) (n : ℕ) (r : BondRow) : Type 0 where
  place : Pays a.bonds.items n
  row : IsRow a.closed (view_payments a.payments.items) (n - 1) r
  left : r.paid < r.count

payable : (a : Inside) (r : Register) (n : ℕ) (b : BondRow) → register_of a ≡ r → AreRows a.closed (view_payments a.payments.items) a.bonds.items → CanPay n r.debts → b ≡ get_or a.bonds.items (n - 1) b → Payable a n b
payable a r n b view each can at =
    let p = found a r n view each can in
    record {
      place = p;
      row = found_row a.closed (view_payments a.payments.items) a.bonds.items n b each p at;
      left = found_left a.bonds.items n b p at;
    }

within : (a : Inside) (n k : ℕ) (b : BondRow) → Payable a n b → k ≡ b.paid → b.start + k < length a.payments.items
within a n k b p e = omega (arith, p.row.bond.range, p.left, e, length-map a.payments.items view_payment)

-- the payment is small
small_of : (a : Inside) (n k : ℕ) (b : BondRow) (q : Payment) → AreSmallDues (view_payments a.payments.items) → Payable a n b → k ≡ b.paid → q ≡ get_or a.payments.items (b.start + k) q → IsSmallDue (view_payment q)
small_of a n k b q small p e at = subst (λ (x : Payment). IsSmallDue (view_payment x)) (sym at) (small_at a.payments.items (b.start + k) q small (within a n k b p e))

pub overflow_sub-place : goal.overflow_sub-place
overflow_sub-place c = (found c.self.inside _ c.args.debt_payment.now.bond c.self.view_is c.self.invariant.bonds.each c.requires.left).first

pub index-row-requires : goal.index-row-requires
index-row-requires c =
    let p = found c.self.inside _ c.args.debt_payment.now.bond c.self.view_is c.self.invariant.bonds.each c.requires.left in
    omega (arith, p.first, p.within)

pub overflow_add-row : goal.overflow_add-row
overflow_add-row c =
    let p = payable c.self.inside _ c.args.debt_payment.now.bond c.index-row.result.now c.self.view_is c.self.invariant.bonds.each c.requires.left c.index-row.ensures in
    omega (arith, within c.self.inside c.args.debt_payment.now.bond c.from.result c.index-row.result.now p c.from.ensures)

pub index-requires : goal.index-requires
index-requires c =
    let p = payable c.self.inside _ c.args.debt_payment.now.bond c.index-row.result.now c.self.view_is c.self.invariant.bonds.each c.requires.left c.index-row.ensures in
    omega (arith, within c.self.inside c.args.debt_payment.now.bond c.from.result c.index-row.result.now p c.from.ensures)

pub coupon-interest-requires-clause-every : goal.coupon-interest-requires-clause-every
coupon-interest-requires-clause-every c =
    (payable c.self.inside _ c.args.debt_payment.now.bond c.index-row.result.now c.self.view_is c.self.invariant.bonds.each c.requires.left c.index-row.ensures).row.bond.every.to

pub coupon-interest-requires-clause-rate : goal.coupon-interest-requires-clause-rate
coupon-interest-requires-clause-rate c =
    (payable c.self.inside _ c.args.debt_payment.now.bond c.index-row.result.now c.self.view_is c.self.invariant.bonds.each c.requires.left c.index-row.ensures).row.bond.rate

pub coupon-interest-requires-clause-owed : goal.coupon-interest-requires-clause-owed
coupon-interest-requires-clause-owed c =
    let p = payable c.self.inside _ c.args.debt_payment.now.bond c.index-row.result.now c.self.view_is c.self.invariant.bonds.each c.requires.left c.index-row.ensures in
    (small_of c.self.inside c.args.debt_payment.now.bond c.from.result c.index-row.result.now c.index.result.now c.self.invariant.bonds.sizes p c.from.ensures c.index.ensures).owed

pub add_at-requires-clause-within : goal.add_at-requires-clause-within
add_at-requires-clause-within c =
    let p = payable c.self.inside _ c.args.debt_payment.now.bond c.index-row.result.now c.self.view_is c.self.invariant.bonds.each c.requires.left c.index-row.ensures in
    let s = small_of c.self.inside c.args.debt_payment.now.bond c.from.result c.index-row.result.now c.index.result.now c.self.invariant.bonds.sizes p c.from.ensures c.index.ensures in
    omega (arith, s.month)

pub add_at-requires-clause-fits : goal.add_at-requires-clause-fits
add_at-requires-clause-fits c =
    let p = payable c.self.inside _ c.args.debt_payment.now.bond c.index-row.result.now c.self.view_is c.self.invariant.bonds.each c.requires.left c.index-row.ensures in
    let s = small_of c.self.inside c.args.debt_payment.now.bond c.from.result c.index-row.result.now c.index.result.now c.self.invariant.bonds.sizes p c.from.ensures c.index.ensures in
    omega (arith, s.principal, c.from-2.ensures, c.self.invariant.small.repaid, c.self.invariant.small.acts)

pub add_at-requires-2-clause-within : goal.add_at-requires-2-clause-within
add_at-requires-2-clause-within c =
    let p = payable c.self.inside _ c.args.debt_payment.now.bond c.index-row.result.now c.self.view_is c.self.invariant.bonds.each c.requires.left c.index-row.ensures in
    let s = small_of c.self.inside c.args.debt_payment.now.bond c.from.result c.index-row.result.now c.index.result.now c.self.invariant.bonds.sizes p c.from.ensures c.index.ensures in
    omega (arith, s.month)

pub count_payment-requires-clause-within : goal.count_payment-requires-clause-within
count_payment-requires-clause-within c =
    let p = found c.self.inside _ c.args.debt_payment.now.bond c.self.view_is c.self.invariant.bonds.each c.requires.left in
    omega (arith, p.first, p.within)

pub count_payment-requires-clause-fits : goal.count_payment-requires-clause-fits
count_payment-requires-clause-fits c d =
    let p = found c.self.inside _ c.args.debt_payment.now.bond c.self.view_is c.self.invariant.bonds.each c.requires.left in
    let row = c.self.invariant.bonds.each (c.args.debt_payment.now.bond - 1) d (omega (arith, p.first, p.within)) in
    omega (arith, p.left d, row.bond.count.to)

lease_most : (b : Bool) (n : ℕ) → lease_part b n ≤ n
lease_most true n = omega arith
lease_most false n = omega arith

pub add_at-requires-2-clause-fits : goal.add_at-requires-2-clause-fits
add_at-requires-2-clause-fits c =
    let p = payable c.self.inside _ c.args.debt_payment.now.bond c.index-row.result.now c.self.view_is c.self.invariant.bonds.each c.requires.left c.index-row.ensures in
    let s = small_of c.self.inside c.args.debt_payment.now.bond c.from.result c.index-row.result.now c.index.result.now c.self.invariant.bonds.sizes p c.from.ensures c.index.ensures in
    omega (arith, s.principal, c.lease_part-of_lease.ensures, lease_most c.index-row.result.now.is_lease c.index.result.now.principal, c.self.invariant.small.leases_repaid, c.self.invariant.small.acts)

pub add_at-requires-3-clause-within : goal.add_at-requires-3-clause-within
add_at-requires-3-clause-within c =
    let p = payable c.self.inside _ c.args.debt_payment.now.bond c.index-row.result.now c.self.view_is c.self.invariant.bonds.each c.requires.left c.index-row.ensures in
    let s = small_of c.self.inside c.args.debt_payment.now.bond c.from.result c.index-row.result.now c.index.result.now c.self.invariant.bonds.sizes p c.from.ensures c.index.ensures in
    omega (arith, s.month)

pub invariant_of-self : goal.invariant_of-self
invariant_of-self c =
    let was = c.self.invariant in
    let few = subst (λ r. r.acts < most_entries) (sym c.self.view_is) c.requires.few in
    let n = c.args.debt_payment.now.bond in
    let k = c.args.debt_payment.now.bond - 1 in
    let r = c.index-row.result.now in
    let q = c.index.result.now in
    let all = view_payments c.self.inside.payments.items in
    let rows = c.self.inside.bonds.items in
    let p = payable c.self.inside _ n r c.self.view_is was.bonds.each c.requires.left c.index-row.ensures in
    let s = small_of c.self.inside n c.from.result r q was.bonds.sizes p c.from.ensures c.index.ensures in
    let l : c.args.debt_payment.now.bond - 1 < length c.self.inside.bonds.items = omega (arith, p.place.first, p.place.within) in
    let at : get_or all ((get_or rows k r).start + (get_or rows k r).paid) (view_payment q) ≡ view_payment q =
    ap (λ (b : BondRow). get_or all (b.start + b.paid) (view_payment q)) (sym c.index-row.ensures)
    ∙ ap (λ j. get_or all (r.start + j) (view_payment q)) (sym c.from.ensures)
    ∙ payment_at c.self.inside.payments.items (r.start + c.from.result) q
    ∙ ap view_payment (sym c.index.ensures) in
    let of_lease : c.lease_part-of_lease.result ≡ lease_part (get_or c.self.inside.bonds.items (c.args.debt_payment.now.bond - 1) c.index-row.result.now).is_lease c.index.result.now.principal =
    c.lease_part-of_lease.ensures ∙ ap (λ (b : BondRow). lease_part b.is_lease c.index.result.now.principal) c.index-row.ensures in
    let interest : c.from-3.result ≡ coupon (view_bond all (get_or rows k r)) (view_payment q) =
    c.from-3.ensures ∙ c.coupon-interest.ensures.value ∙ ap (λ (b : BondRow). coupon (view_bond all b) (view_payment q)) c.index-row.ensures in
    record {
      small = record {
        acts = omega (arith, few);
        bonds = rw (c.count_payment.ensures r, length-set) (omega (arith, was.small.bonds));
        closed = was.small.closed;
        issued = omega (arith, was.small.issued);
        leased = omega (arith, was.small.leased);
        repaid = omega (arith, was.small.repaid, c.add_at.ensures.total, c.from-2.ensures, s.principal);
        leases_repaid = omega (arith, was.small.leases_repaid, c.add_at-2.ensures.total, c.lease_part-of_lease.ensures, lease_most r.is_lease q.principal, s.principal);
        coupons = omega (arith, was.small.coupons, c.add_at-3.ensures.total, c.from-3.ensures, c.coupon-interest.ensures.small);
        charged = omega (arith, was.small.charged);
        earned = omega (arith, was.small.earned);
        taken = omega (arith, was.small.taken);
        left = λ fund dept. omega (arith, was.small.left fund dept);
      };
      bonds = rw (c.count_payment.ensures r) (has_paid c.self.inside.closed all rows c.self.inside.live.items k r was.bonds l (p.place.left r));
      sums = rw (c.count_payment.ensures r) (sums_paid c.self.inside.closed all rows k r (view_payment q) c.self.inside.issued c.self.inside.leased c.self.inside.repaid c.add_at.new.cells c.self.inside.leases_repaid c.add_at-2.new.cells c.self.inside.coupons c.add_at-3.new.cells c.self.inside.charged
          was.bonds.each l (p.place.left r) at was.sums
          (subst (Rise c.self.inside.repaid c.add_at.new.cells (q.month / 12)) c.from-2.ensures c.add_at.ensures.years)
          (subst (Rise c.self.inside.leases_repaid c.add_at-2.new.cells (q.month / 12)) of_lease c.add_at-2.ensures.years)
          (subst (Rise c.self.inside.coupons c.add_at-3.new.cells (q.month / 12)) interest c.add_at-3.ensures.years));
      leave = was.leave;
    }

pub returns-clause-debts : goal.returns-clause-debts
returns-clause-debts c =
    let n = c.args.debt_payment.now.bond in
    let r = c.index-row.result.now in
    let p = found c.self.inside _ n c.self.view_is c.self.invariant.bonds.each c.requires.left in
    let l : c.args.debt_payment.now.bond - 1 < length c.self.inside.bonds.items = omega (arith, p.first, p.within) in
    let is : c.args.debt_payment.now.bond ≡ (c.args.debt_payment.now.bond - 1) + 1 = omega (arith, p.first) in
    let all = view_payments c.self.inside.payments.items in
    let bonds = ap (view_bonds all) (c.count_payment.ensures r) ∙ bonds_paid c.self.inside.closed all c.self.inside.bonds.items (n - 1) r c.args.debt_payment.now c.self.invariant.bonds.each l is in
    rw (← c.self.view_is) (λ i. record { bonds = bonds i; leave = map view_leave c.self.inside.leave.items; closed = c.self.inside.closed })
