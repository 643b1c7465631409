use Rattle.std.proofs.Common.{◌≡◌, ◌+◌, ◌/◌, ◌<◌, ℕ, None, sum_by, arith, sym, subst, ◌∙◌}
use Rattle.cf_debt.specs.Register.{Register, unpaid_of}
use Rattle.cf_debt.specs.RegisterView.{live_of}
use Rattle.cf_debt.specs.Rows.{view_bonds, view_payments}
use Rattle.cf_debt.proofs.Paying.{rows_closed}
use Rattle.cf_debt.proofs.RunningSums.{Rise, charged_close}
use Rattle.cf_model.specs.Common.{interest_charge, month_at, first_refusal}
use Rattle.cf_debt.proofs.debt.Debt.close_month.Goals as goal
use Rattle.cf_base.specs.Common.{most_entries}

pub invariant_of-self : goal.invariant_of-self
invariant_of-self c =
    let was = c.self.invariant in
    let all = view_payments c.self.inside.payments.items in
    let rows = c.self.inside.bonds.items in
    let few = subst (λ r. r.acts < most_entries) (sym c.self.view_is) c.requires.few in
    let next : c.number_of_month-number.result ≡ c.self.inside.closed = c.number_of_month-number.ensures.named c.self.inside.closed (subst (λ (r : Register). c.args.month ≡ month_at c.args.chart.now r.debts.closed) (sym c.self.view_is) c.requires.next) in
    let interest = c.interest_of-interest.ensures.value ∙ (λ i. sum_by (interest_charge c.self.inside.closed) (view_bonds (view_payments (c.deref.ensures.value i)) (c.deref-2.ensures.value i))) in
    let paid = subst (λ (r : Register). first_refusal (unpaid_of c.args.chart.now r.debts.closed) r.debts.bonds ≡ None) (sym c.self.view_is) c.requires.paid in
    rw next (record {
      small = record {
        acts = omega (arith, few);
        bonds = omega (arith, was.small.bonds);
        closed = omega (arith, next, c.number_of_month-number.ensures.most);
        issued = omega (arith, was.small.issued);
        leased = omega (arith, was.small.leased);
        repaid = omega (arith, was.small.repaid);
        leases_repaid = omega (arith, was.small.leases_repaid);
        coupons = omega (arith, was.small.coupons);
        charged = omega (arith, was.small.charged, c.add_at.ensures.total, c.interest_of-interest.ensures.most);
        earned = omega (arith, was.small.earned);
        taken = omega (arith, was.small.taken);
        left = λ fund dept. omega (arith, was.small.left fund dept);
      };
      bonds = record {
        sizes = was.bonds.sizes;
        each = rows_closed c.args.chart.now c.self.inside.closed all rows was.bonds.each paid;
        lasting = c.keep_live.ensures.items ∙ (λ i. live_of (next i + 1) (c.deref-4.ensures.value i));
      };
      sums = record {
        issues = was.sums.issues;
        leases = was.sums.leases;
        principals = was.sums.principals;
        lease_principals = was.sums.lease_principals;
        interests = was.sums.interests;
        charges = charged_close c.self.inside.closed (view_bonds all rows) c.self.inside.charged c.add_at.new.cells was.sums.charges
            (subst (Rise c.self.inside.charged c.add_at.new.cells (c.self.inside.closed / 12)) interest
            (subst (λ (n : ℕ). Rise c.self.inside.charged c.add_at.new.cells (n / 12) c.interest_of-interest.result) next c.add_at.ensures.years));
      };
      leave = was.leave;
    })
