use Rattle.std.proofs.Common.{◌≡◌, drop, None}
use Rattle.cf_model.specs.LineNumbers as numbers
use Rattle.cf_office_rules.specs.Least.{least_from, excess_by}
use Rattle.cf_office_rules.proofs.exceeds.least_excess.Given as goal

abbrev pub invariant-loop-change : goal.invariant-loop-change
invariant-loop-change l =
    let test = excess_by (λ line year. numbers.room l.history.plan line year l.history.entries) in
    least_from test l.best (drop l.change-index l.changes) ≡ least_from test None l.changes
