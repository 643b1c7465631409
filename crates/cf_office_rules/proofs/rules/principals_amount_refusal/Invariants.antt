use Rattle.std.proofs.Common.{◌≡◌, drop}
use Rattle.cf_model.specs.Common.{first_refusal, bad_amount, amount_or_none}
use Rattle.cf_office_rules.proofs.rules.principals_amount_refusal.Given as goal

abbrev pub invariant-loop-principal : goal.invariant-loop-principal
invariant-loop-principal l = first_refusal (λ p. bad_amount (amount_or_none p)) (drop l.principal-index l.principals) ≡ first_refusal (λ p. bad_amount (amount_or_none p)) l.principals
