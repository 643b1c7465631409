use Rattle.std.proofs.Common.{◌≡◌, ◌+◌, Some, None, Option, sym, ◌∙◌, ap, arith}
use Rattle.cf_debt.specs.declared.debt.Due.{Due}
use Rattle.cf_debt.specs.Register.{due_now}
use Rattle.cf_model.specs.Common.{cash_short, cash_of, registers_of, bond_at}
use Rattle.cf_model.proofs.Common.{bonds_named}
use Rattle.cf_registers.specs.Dues.{due_amount}
use Rattle.cf_office_rules.proofs.Dues.{due_over}
use Rattle.cf_office_rules.proofs.Short.{payment_short}
use Rattle.cf_office_rules.proofs.cash.payment_refusal.Goals as goal

pub returns-in-Some : goal.returns-in-Some
returns-in-Some c =
    let plan = c.args.history.now.plan in
    let h = c.args.history.now.entries in
    let p = c.args.payment.now in
    let d = c.in-Some.due in
    let due : due_now plan (bond_at p.bond (registers_of plan h).bonds) ≡ Some d = due_over plan h _ _ p.bond _ c.chart.ensures.value c.debt.ensures c.due.ensures ∙ c.in-Some.is in
    let taken : c.from.result + c.from-in-Some.result ≡ d.principal + d.interest = omega (arith, c.from.ensures, c.from-in-Some.ensures) in
    c.fund_cash_refusal.ensures ∙ ap (cash_short p.fund (cash_of plan p.fund h)) (taken ∙ ap due_amount (sym due))
    ∙ payment_short plan h c.args.on p (bonds_named plan h c.chart.ensures.legal p.bond) c.requires

pub returns-in-None : goal.returns-in-None
returns-in-None c =
    let plan = c.args.history.now.plan in
    let h = c.args.history.now.entries in
    let p = c.args.payment.now in
    let due : due_now plan (bond_at p.bond (registers_of plan h).bonds) ≡ None = due_over plan h _ _ p.bond _ c.chart.ensures.value c.debt.ensures c.due.ensures ∙ c.in-None.is in
    ap (λ (o : Option Due). cash_short p.fund (cash_of plan p.fund h) (due_amount o)) (sym due)
    ∙ payment_short plan h c.args.on p (bonds_named plan h c.chart.ensures.legal p.bond) c.requires
