use Rattle.std.proofs.Common.{◌∙◌, ap}
use Rattle.cf_model.specs.Common.{Registers}
use Rattle.cf_model.proofs.Common.{documents_are}
use Rattle.cf_office_history.proofs.history.History.orders.Goals as goal

pub returns : goal.returns
returns c = c.orders.ensures ∙ ap (λ (s : Registers). s.documents) c.registers.ensures ∙ documents_are c.args.self.now.plan c.args.self.now.entries
