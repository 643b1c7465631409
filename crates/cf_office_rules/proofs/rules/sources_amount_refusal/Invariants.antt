use Rattle.std.proofs.Common.{◌≡◌, drop}
use Rattle.cf_model.specs.Common.{first_refusal, bad_amount, amount}
use Rattle.cf_office_rules.proofs.rules.sources_amount_refusal.Given as goal

abbrev pub invariant-loop-row : goal.invariant-loop-row
invariant-loop-row l = first_refusal (λ r. bad_amount (amount r.amount)) (drop l.row-index l.rows) ≡ first_refusal (λ r. bad_amount (amount r.amount)) l.rows
