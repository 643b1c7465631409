use Rattle.std.proofs.Common.{sym, ap, ◌∙◌}
use Rattle.cf_model.specs.Common.{Act, register_name_refusal}
use Rattle.cf_office_rules.proofs.register_names.register_name_refusal.Goals as goal

pub returns-in-Asset : goal.returns-in-Asset
returns-in-Asset c = c.asset_act_refusal.ensures c.args.on ∙ ap (λ (x : Act). register_name_refusal c.args.chart.now c.args.registers.now.registers c.args.on x) (sym c.in-Asset.is)
