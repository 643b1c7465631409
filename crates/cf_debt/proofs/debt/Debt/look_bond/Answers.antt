use Rattle.std.proofs.Common.{◌≡◌, ◌+◌, ◌-◌, List, Some, ap, arith, option_map, sym, ◌∙◌}
use Rattle.cf_debt.specs.declared.rows.BondRow.{BondRow}
use Rattle.cf_debt.specs.declared.rows.Payment.{Payment}
use Rattle.cf_debt.specs.DebtNow.{show_bond}
use Rattle.cf_debt.specs.Register.{Register}
use Rattle.cf_debt.specs.Rows.{view_bond, view_payments}
use Rattle.cf_debt.proofs.Finding.{found, none_at_zero, none_past}
use Rattle.cf_model.specs.Common.{bond_shown}
use Rattle.cf_debt.proofs.debt.Debt.look_bond.Goals as goal
use Rattle.cf_debt.proofs.debt.Debt.look_bond.Goals.{then-number-eq0-via-then-number-eq0, then-number-eq0-via-else-number-eq0+then-number-len}

pub returns-then-number-eq0 : goal.returns-then-number-eq0
returns-then-number-eq0 c =
    let closed = c.self.inside.closed in
    sym (ap (λ (r : Register). bond_shown c.args.chart.now c.args.number r.debts.closed r.debts.bonds) (sym c.self.view_is)
    ∙ ap (option_map (show_bond c.args.chart.now closed)) (elim c.then-number-eq0.branch [
      | then-number-eq0-via-then-number-eq0 w ↦ none_at_zero closed (view_payments c.self.inside.payments.items) c.self.inside.bonds.items c.args.number c.self.invariant.bonds.each w.if-number-eq0.true
      | then-number-eq0-via-else-number-eq0+then-number-len w ↦ none_past closed (view_payments c.self.inside.payments.items) c.self.inside.bonds.items c.args.number c.self.invariant.bonds.each (omega (arith, w.len.ensures, w.if-number-len.true))
    ]))

pub returns : goal.returns
returns c =
    let closed = c.self.inside.closed in
    let all = view_payments c.self.inside.payments.items in
    let r = c.index-bond.result.now in
    let n : c.args.number ≡ (c.args.number - 1) + 1 = omega (arith, c.if-number-eq0.false) in
    ap Some (c.shown_of.ensures ∙ ap (λ (ps : List Payment). show_bond c.args.chart.now closed (view_bond (view_payments ps) r)) c.deref.ensures.value)
    ∙ sym (ap (λ (s : Register). bond_shown c.args.chart.now c.args.number s.debts.closed s.debts.bonds) (sym c.self.view_is)
    ∙ ap (option_map (show_bond c.args.chart.now closed))
    (found closed all c.self.inside.bonds.items (c.args.number - 1) c.args.number r c.self.invariant.bonds.each (omega (arith, n, c.len.ensures, c.if-number-len.false)) n
    ∙ ap (λ (b : BondRow). Some (view_bond all b)) (sym c.index-bond.ensures)))
