use Rattle.std.proofs.Common.{◌≡◌, ◌+◌, ◌-◌, ◌<◌, ◌≤◌, ◌++◌, ◌∷◌, [], ℕ, Bool, true, false, List, length, map, ap, arith, sym, subst, ◌∙◌}
use Rattle.cf_base.proofs.Common.{length-append, length-map}
use Rattle.cf_debt.specs.declared.rows.BondRow.{BondRow}
use Rattle.cf_debt.specs.Register.{Register}
use Rattle.cf_debt.specs.RegisterView.{HasSums}
use Rattle.cf_debt.specs.Rows.{view_bond, view_bonds, view_leave, view_payment, view_payments}
use Rattle.cf_debt.specs.Steps.{bond_row, issue_of}
use Rattle.cf_debt.specs.Rows.{lease_part}
use Rattle.cf_debt.proofs.Entering.{IsNew, bonds_entered, has_entered, new_payments, new_row, sums_entered, year_from}
use Rattle.cf_debt.proofs.RunningSums.{Rise}
use Rattle.cf_debt.proofs.Schedules.{bond_paying}
use Rattle.cf_model.specs.Common.{Bond, dues_from, number_of_day}
use Rattle.cf_debt.proofs.debt.Debt.enter_debt.Goals as goal
use Rattle.cf_base.specs.Common.{most_entries}

pub add_schedule-requires-clause-within : goal.add_schedule-requires-clause-within
add_schedule-requires-clause-within c =
    let is = c.new_bond-row.ensures.row in
    rw c.as_slice.ensures (omega (arith, ap (λ (r : BondRow). r.month) is, ap (λ (r : BondRow). r.last) is, c.new_bond-row.ensures.last))

-- the new row
is_new : (c : goal.After-self-1) → IsNew c.self.inside.closed (view_payments c.self.inside.payments.items) (length c.self.inside.bonds.items) c.new_bond-row.result c.args.terms.now.principals
is_new c =
    let all = view_payments c.self.inside.payments.items in
    let start : c.len.result ≡ length (view_payments c.self.inside.payments.items) = omega (arith, c.len.ensures, length-map c.self.inside.payments.items view_payment) in
    let is = c.new_bond-row.ensures.row ∙ ap (bond_row c.args.chart.now c.args.on c.args.number c.args.debt.is_lease (issue_of c.args.debt c.args.terms.now)) start in
    let early = subst (λ (r : Register). r.debts.closed ≤ number_of_day c.args.chart.now c.args.on) (sym c.self.view_is) c.requires.early in
    let number = subst (λ (r : Register). c.args.number ≡ length r.debts.bonds + 1) (sym c.self.view_is) c.requires.number in
    subst (λ (r : BondRow). IsNew c.self.inside.closed all (length c.self.inside.bonds.items) r c.args.terms.now.principals) (sym is)
    (new_row c.args.chart.now c.args.on c.args.number c.args.debt.is_lease (issue_of c.args.debt c.args.terms.now) c.self.inside.closed all (length c.self.inside.bonds.items) c.requires.day c.requires.form
    (omega (arith, number, length-map c.self.inside.bonds.items (view_bond all))) c.requires.amount (year_from c.args.chart.now c.args.on c.requires.day) (subst (λ (r : BondRow). r.last ≤ 2759) is c.new_bond-row.ensures.last) early)

-- its payments follow those of all
payments_are : (c : goal.After-self-1) → view_payments c.add_schedule.new.payments.items ≡ view_payments c.self.inside.payments.items ++ new_payments c.new_bond-row.result c.args.terms.now.principals
payments_are c =
    let every = ap (λ (r : BondRow). r.terms.every) (sym c.new_bond-row.ensures.row) in
    c.add_schedule.ensures
    ∙ (λ i. view_payments c.self.inside.payments.items ++ dues_from (every i) c.new_bond-row.result.month c.new_bond-row.result.amount (c.as_slice.ensures i))

bonds_are : (c : goal.After-self-1) →
    view_bonds (view_payments c.add_schedule.new.payments.items) c.push_reserved.new.self.items
    ≡ view_bonds (view_payments c.self.inside.payments.items) c.self.inside.bonds.items ++ bond_paying c.new_bond-row.result c.args.terms.now.principals ∷ []
bonds_are c =
    (λ i. view_bonds (payments_are c i) (c.push_reserved.ensures.items i))
    ∙ bonds_entered c.self.inside.closed (view_payments c.self.inside.payments.items) c.self.inside.bonds.items c.new_bond-row.result c.args.terms.now.principals c.self.invariant.bonds.each (is_new c)

lease_most : (b : Bool) (n : ℕ) → lease_part b n ≤ n
lease_most true n = omega arith
lease_most false n = omega arith

pub invariant_of-self : goal.invariant_of-self
invariant_of-self c =
    let was = c.self.invariant in
    let few = subst (λ r. r.acts < most_entries) (sym c.self.view_is) c.requires.few in
    let row = c.new_bond-row.result in
    let all = view_payments c.self.inside.payments.items in
    let principals = c.args.terms.now.principals in
    let same = sym c.new_bond-row.ensures.row in
    let leased : c.lease_part-leased.result ≡ lease_part c.new_bond-row.result.is_lease c.new_bond-row.result.amount = c.lease_part-leased.ensures ∙ ap (λ (r : BondRow). lease_part r.is_lease r.amount) same in
    let number : c.args.number ≡ row.number = ap (λ (r : BondRow). r.number) (sym c.new_bond-row.ensures.row) in
    record {
      small = record {
        acts = omega (arith, few);
        bonds = rw (c.push_reserved.ensures.items, length-append c.self.inside.bonds.items) (omega (arith, was.small.bonds));
        closed = was.small.closed;
        issued = omega (arith, was.small.issued, c.add_at.ensures.total, c.from.ensures, (is_new c).amount);
        leased = omega (arith, was.small.leased, c.add_at-2.ensures.total, leased, lease_most row.is_lease row.amount, (is_new c).amount);
        repaid = omega (arith, was.small.repaid);
        leases_repaid = omega (arith, was.small.leases_repaid);
        coupons = omega (arith, was.small.coupons);
        charged = omega (arith, was.small.charged);
        earned = omega (arith, was.small.earned);
        taken = omega (arith, was.small.taken);
        left = λ fund dept. omega (arith, was.small.left fund dept);
      };
      bonds = rw (payments_are c, c.push_reserved.ensures.items, c.push_reserved-2.ensures.items, number) (has_entered c.self.inside.closed all c.self.inside.bonds.items c.self.inside.live.items row principals was.bonds (is_new c));
      sums = subst (λ (bs : List Bond). HasSums c.self.inside.closed bs c.add_at.new.cells c.add_at-2.new.cells c.self.inside.repaid c.self.inside.leases_repaid c.self.inside.coupons c.self.inside.charged) (sym (bonds_are c))
          (sums_entered c.self.inside.closed all (length c.self.inside.bonds.items) (view_bonds all c.self.inside.bonds.items) row principals c.self.inside.issued c.add_at.new.cells c.self.inside.leased c.add_at-2.new.cells c.self.inside.repaid c.self.inside.leases_repaid c.self.inside.coupons c.self.inside.charged (is_new c) was.sums
          (subst (Rise c.self.inside.issued c.add_at.new.cells (row.year - 1970)) c.from.ensures c.add_at.ensures.years)
          (subst (Rise c.self.inside.leased c.add_at-2.new.cells (row.year - 1970)) leased c.add_at-2.ensures.years));
      leave = was.leave;
    }

pub returns-clause-debts : goal.returns-clause-debts
returns-clause-debts c =
    let all = view_payments c.self.inside.payments.items in
    let bonds = bonds_are c ∙ ap (λ (r : BondRow). view_bonds all c.self.inside.bonds.items ++ bond_paying r c.args.terms.now.principals ∷ []) c.new_bond-row.ensures.row in
    rw (← c.self.view_is) (λ i. record { bonds = bonds i; leave = map view_leave c.self.inside.leave.items; closed = c.self.inside.closed })
