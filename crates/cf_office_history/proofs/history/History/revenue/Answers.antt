use Rattle.std.proofs.Common.{◌∙◌, ap}
use Rattle.cf_model.specs.Common.{Registers}
use Rattle.cf_office_history.proofs.history.History.revenue.Goals as goal

pub returns : goal.returns
returns c = c.revenue.ensures ∙ ap (λ (s : Registers). s.receivables) c.registers.ensures
