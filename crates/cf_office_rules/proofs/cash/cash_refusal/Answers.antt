use Rattle.std.proofs.Common.{◌≡◌, sym, ◌∙◌, ap}
use Rattle.cf_model.specs.Common.{Pay, cash_short, cash_refusal, cash_of}
use Rattle.cf_office_rules.proofs.Short.{moved_short}
use Rattle.cf_office_rules.proofs.cash.cash_refusal.Goals as goal

pub returns-in-Interfund : goal.returns-in-Interfund
returns-in-Interfund c =
    let plan = c.args.history.now.plan in
    let h = c.args.history.now.entries in
    c.fund_cash_refusal.ensures ∙ ap (cash_short c.in-Interfund.moved.from (cash_of plan c.in-Interfund.moved.from h)) c.from.ensures
    ∙ moved_short plan h c.args.on _ c.in-Interfund.moved (sym c.in-Interfund.is) c.requires.names

pub returns-in-Pay : goal.returns-in-Pay
returns-in-Pay c =
    let same : Pay (record { vouchers = c.as_slice.result.now }) ≡ c.args.act.now = ap (λ vouchers. Pay (record { vouchers = vouchers })) c.as_slice.ensures ∙ sym c.in-Pay.is in
    c.paid_refusal.ensures ∙ ap (cash_refusal c.args.history.now.plan c.args.history.now.entries) same
