use Rattle.std.proofs.Common.{◌≡◌, ◌+◌, ◌-◌, ◌∙◌, ◌-ℤ◌, Some, pos, option_map, sum_by, take, drop, ap, sym, rules}
use Rattle.cf_base.proofs.Common.{to_z-of_z}
use mir.Val.{SFits}
use mir.Syntax.{w128}
use Rattle.cf_calls.specs.declared.shown.Shown.TheVariants as shown
use Rattle.cf_debt.specs.Charges.{bond_of}
use Rattle.cf_debt.specs.Rows.{view_bond, view_payments}
use Rattle.cf_debt.proofs.Payments.{own_payments, paid_payments, small_part}
use Rattle.cf_model.specs.Common.{Due, coupon, days_by, dues, interest_for, due_day}
use Rattle.cf_debt.proofs.look.shown_of.Goals as goal
use Rattle.cf_debt.proofs.look.shown_of.Goals.{in-None, in-Some}

pub earned_of-requires-clause-small : goal.earned_of-requires-clause-small
earned_of-requires-clause-small c = small_part c.args.payments.now c.args.bond.now.start (c.args.bond.now.start + c.from.result - c.args.bond.now.start) c.requires.small

pub coupons_of-requires-clause-small : goal.coupons_of-requires-clause-small
coupons_of-requires-clause-small c =
    let n = c.args.bond.now.start + c.from.result - c.args.bond.now.start in
    small_part (take n (drop c.args.bond.now.start c.args.payments.now)) 0 c.from-2.result (small_part c.args.payments.now c.args.bond.now.start n c.requires.small)

pub principal_of-requires-clause-small : goal.principal_of-requires-clause-small
principal_of-requires-clause-small c =
    let n = c.args.bond.now.start + c.from.result - c.args.bond.now.start in
    small_part (take n (drop c.args.bond.now.start c.args.payments.now)) 0 c.from-2.result (small_part c.args.payments.now c.args.bond.now.start n c.requires.small)

accrued_is : (c : goal.After-saturating_sub) → c.difference.result ≡ pos (sum_by (λ (p : Due). interest_for (bond_of c.args.bond.now.terms) p (days_by c.args.closed (bond_of c.args.bond.now.terms) p)) (dues (view_bond (view_payments c.args.payments.now) c.args.bond.now)))
    -ℤ pos (sum_by (coupon (bond_of c.args.bond.now.terms)) (take c.args.bond.now.paid (dues (view_bond (view_payments c.args.payments.now) c.args.bond.now))))
accrued_is c =
    let r = c.args.bond.now in
    let ps = c.args.payments.now in
    let earned = c.earned_of.ensures.value ∙ ap (sum_by (λ (p : Due). interest_for (bond_of r.terms) p (days_by c.args.closed (bond_of r.terms) p))) (own_payments ps r c.from.result c.from.ensures ∙ sym c.requires.bond.dues) in
    let coupons = c.coupons_of.ensures.value ∙ ap (sum_by (coupon (bond_of r.terms))) (paid_payments ps r c.from.result c.from-2.result c.from.ensures c.from-2.ensures ∙ ap (take r.paid) (sym c.requires.bond.dues)) in
    c.difference.ensures.value ∙ (λ i. pos (earned i) -ℤ pos (coupons i))

outstanding_is : (c : goal.After-saturating_sub) → c.saturating_sub.result ≡ c.args.bond.now.amount - sum_by (λ (p : Due). p.principal) (take c.args.bond.now.paid (dues (view_bond (view_payments c.args.payments.now) c.args.bond.now)))
outstanding_is c =
    let r = c.args.bond.now in
    let ps = c.args.payments.now in
    c.saturating_sub.ensures
    ∙ ap (λ n. r.amount - n) (c.principal_of.ensures ∙ ap (sum_by (λ (p : Due). p.principal)) (paid_payments ps r c.from.result c.from-2.result c.from.ensures c.from-2.ensures ∙ ap (take r.paid) (sym c.requires.bond.dues)))

pub returns : goal.returns
returns c =
    let f : SFits w128 c.difference.result = search rules in
    let b = view_bond (view_payments c.args.payments.now) c.args.bond.now in
    let accrued = to_z-of_z w128 c.difference.result f ∙ accrued_is c in
    elim c.match-next_of.branch [
      | in-None w ↦ λ i. shown.Bond (accrued i) ((w.next-is ∙ ap (option_map (due_day c.args.chart.now b)) w.in-None.ensures.value) i) (outstanding_is c i)
      | in-Some w ↦ λ i. shown.Bond (accrued i) ((w.next-is ∙ ap Some (w.due_day.ensures (view_payments c.args.payments.now)) ∙ ap (option_map (due_day c.args.chart.now b)) w.in-Some.ensures.value) i) (outstanding_is c i)
    ]
