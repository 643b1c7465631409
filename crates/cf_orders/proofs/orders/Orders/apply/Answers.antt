use Rattle.std.proofs.Common.{sym, ap, ◌∙◌}
use Rattle.cf_model.specs.Common.{Documents, documents_step}
use Rattle.cf_orders.proofs.orders.Orders.apply.Goals as goal

pub returns-in-Some-clause-documents : goal.returns-in-Some-clause-documents
returns-in-Some-clause-documents c =
    let e = c.args.entry.now in
    c.roll_year.ensures.documents e (sym c.rolled_year.ensures ∙ c.in-Some.is) ∙ ap (λ (s : Documents). documents_step c.args.chart.now s e) c.count_act.ensures.documents
