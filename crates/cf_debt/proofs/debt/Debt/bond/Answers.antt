use Rattle.std.proofs.Common.{◌≡◌, ◌+◌, ◌-◌, List, option_map, ap, arith, refl, sym, subst, ◌∙◌}
use Rattle.cf_debt.specs.Register.{Register}
use Rattle.cf_debt.specs.declared.rows.Payment.{Payment}
use Rattle.cf_debt.specs.Rows.{view_bond, view_payment, view_payments}
use Rattle.cf_debt.specs.Steps.{ShowsBond}
use Rattle.cf_debt.proofs.Finding.{none_at_zero, none_past, shows}
use Rattle.cf_model.specs.Common.{next_due, bond_at}
use Rattle.cf_debt.proofs.debt.Debt.bond.Goals as goal
use Rattle.cf_debt.proofs.debt.Debt.bond.Goals.{then-number-eq0-via-then-number-eq0, then-number-eq0-via-else-number-eq0+then-number-len}

pub returns-then-number-eq0 : goal.returns-then-number-eq0
returns-then-number-eq0 c =
    ap (λ (r : Register). bond_at c.args.number r.debts.bonds) (sym c.self.view_is)
    ∙ elim c.then-number-eq0.branch [
      | then-number-eq0-via-then-number-eq0 w ↦ none_at_zero _ _ c.self.inside.bonds.items c.args.number c.self.invariant.bonds.each w.if-number-eq0.true
      | then-number-eq0-via-else-number-eq0+then-number-len w ↦ none_past _ _ c.self.inside.bonds.items c.args.number c.self.invariant.bonds.each (omega (arith, w.len.ensures, w.if-number-len.true))
    ]

pub returns : goal.returns
returns c =
    let n : c.args.number ≡ (c.args.number - 1) + 1 = omega (arith, c.if-number-eq0.false) in
    subst (λ (r : Register). ShowsBond c.args.number r.debts (record { row = c.index.result.now; next = c.next_of-next.result })) c.self.view_is
    (shows _ _ _ c.self.inside.bonds.items (c.args.number - 1) c.args.number _ refl c.self.invariant.bonds.each (omega (arith, n, c.len.ensures, c.if-number-len.false)) n c.index.ensures
    (subst (λ (ps : List Payment). option_map view_payment c.next_of-next.result ≡ next_due (view_bond (view_payments ps) c.index.result.now)) c.deref.ensures.value c.next_of-next.ensures.value)
    c.next_of-next.ensures.small)
