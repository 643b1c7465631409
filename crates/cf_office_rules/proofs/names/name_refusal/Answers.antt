use Rattle.std.proofs.Common.{sym, ap, ◌∙◌}
use Rattle.cf_model.specs.Common.{Act, name_refusal}
use Rattle.cf_office_rules.proofs.names.name_refusal.Goals as goal

pub returns-in-Adopt : goal.returns-in-Adopt
returns-in-Adopt c = c.adoption_refusal.ensures c.args.on ∙ ap (λ (x : Act). name_refusal c.args.chart.now c.args.orders.now.documents c.args.on x) (sym c.in-Adopt.is)

pub returns-in-Transfer : goal.returns-in-Transfer
returns-in-Transfer c = c.transfer_refusal.ensures c.args.on ∙ ap (λ (x : Act). name_refusal c.args.chart.now c.args.orders.now.documents c.args.on x) (sym c.in-Transfer.is)
