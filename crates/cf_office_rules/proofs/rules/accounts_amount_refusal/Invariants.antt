use Rattle.std.proofs.Common.{◌≡◌, drop}
use Rattle.cf_model.specs.Common.{first_refusal, bad_amount, amount}
use Rattle.cf_office_rules.proofs.rules.accounts_amount_refusal.Given as goal

abbrev pub invariant-loop-item : goal.invariant-loop-item
invariant-loop-item l = first_refusal (λ i. bad_amount (amount i.amount)) (drop l.item-index l.items) ≡ first_refusal (λ i. bad_amount (amount i.amount)) l.items
