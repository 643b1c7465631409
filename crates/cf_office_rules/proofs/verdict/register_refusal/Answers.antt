use Rattle.std.proofs.Common.{◌∙◌}
use Rattle.cf_model.specs.Common.{first_of}
use Rattle.cf_registers.specs.RegistersState.{register_rules}
use Rattle.cf_office_rules.proofs.verdict.register_refusal.Goals as goal

pub returns : goal.returns
returns c =
    let change = c.args.change.now in
    c.check.ensures ∙ (λ i. first_of (register_rules (c.chart.ensures.value i) (c.registers.ensures i) change.on change.desk change.act))
