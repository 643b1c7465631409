use Rattle.std.proofs.Common.{sym, ap, ◌∙◌}
use Rattle.cf_model.specs.Common.{Leave, cash_short, cash_of}
use Rattle.cf_office_rules.proofs.Short.{leave_short}
use Rattle.cf_office_rules.proofs.cash.leave_refusal.Goals as goal

pub returns-in-Mature : goal.returns-in-Mature
returns-in-Mature c =
    let plan = c.args.history.now.plan in
    let h = c.args.history.now.entries in
    let l = c.in-Mature.leave in
    c.fund_cash_refusal.ensures ∙ ap (cash_short l.fund (cash_of plan l.fund h)) c.from.ensures ∙ leave_short plan h c.args.on (Leave c.args.act.now) l (ap Leave (sym c.in-Mature.is)) c.requires
