use Rattle.std.proofs.Common.{◌<◌, ◌+◌, ◌*◌, map, ap, arith, sym, subst, ◌≡◌, ◌∙◌}
use Rattle.cf_debt.specs.Rows.{view_leave}
use Rattle.cf_register_parts.proofs.Lists.{map-push}
use Rattle.cf_register_parts.specs.declared.pairs.NumberPair.{NumberPair}
use Rattle.cf_register_parts.specs.Pairs.{PutsValue, amount_at}
use Rattle.cf_register_parts.proofs.PairFacts.{puts_amount}
use Rattle.cf_debt.proofs.Leaving.{earned_left, earned_row, left_kept, put_small, years_earned}
use Rattle.cf_debt.proofs.debt.Debt.earn.Goals as goal
use Rattle.cf_base.specs.Common.{most_entries, most_cents}

pub invariant_of-self : goal.invariant_of-self
invariant_of-self c =
    let was = c.self.invariant in
    let few = subst (λ r. r.acts < most_entries) (sym c.self.view_is) c.requires.few in
    let row = c.args.row in
    let table = c.self.inside.left.entries in
    let at : c.amount_at.result ≡ amount_at table row.fund row.dept = c.amount_at.ensures ∙ ap (λ (k : NumberPair). amount_at table k.first k.second) c.leave_key-key.ensures in
    let puts = puts_amount table c.put_in.new.map.entries row.fund row.dept (c.amount_at.result + row.amount)
    (subst (λ (k : NumberPair). PutsValue table c.put_in.new.map.entries k.first k.second (c.amount_at.result + row.amount)) c.leave_key-key.ensures c.put_in.ensures.value) in
    let by = earned_row row c.requires.earned in
    record {
      small = record {
        acts = omega (arith, few);
        bonds = omega (arith, was.small.bonds);
        closed = was.small.closed;
        issued = omega (arith, was.small.issued);
        leased = omega (arith, was.small.leased);
        repaid = omega (arith, was.small.repaid);
        leases_repaid = omega (arith, was.small.leases_repaid);
        coupons = omega (arith, was.small.coupons);
        charged = omega (arith, was.small.charged);
        earned = omega (arith, was.small.earned, c.raise.ensures.total, c.requires.amount);
        taken = omega (arith, was.small.taken);
        left = put_small c.self.inside.left.entries c.put_in.new.map.entries row.fund row.dept (c.amount_at.result + row.amount) (most_cents * (c.self.inside.acts + 1)) puts (omega (arith, was.small.left row.fund row.dept, at, c.requires.amount))
            (λ d e. omega (arith, was.small.left d e));
      };
      bonds = was.bonds;
      sums = was.sums;
      leave = rw (c.push_reserved.ensures.items, map-push view_leave c.self.inside.leave.items row) (record {
        left = left_kept (map view_leave c.self.inside.leave.items) (view_leave row) c.self.inside.left.entries c.put_in.new.map.entries (c.amount_at.result + row.amount) was.leave.left puts (earned_left (amount_at c.self.inside.left.entries row.fund row.dept) row.amount (c.amount_at.result + row.amount) (view_leave row).by (ap (λ n. n + row.amount) at) by);
        years = years_earned (map view_leave c.self.inside.leave.items) (view_leave row) row.amount c.self.inside.earned c.raise.new.cells c.self.inside.taken by was.leave.years c.raise.ensures.through;
      });
    }
