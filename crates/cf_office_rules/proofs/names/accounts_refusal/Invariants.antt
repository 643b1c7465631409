use Rattle.std.proofs.Common.{◌≡◌, drop}
use Rattle.cf_model.specs.Common.{first_refusal, unknown_account, is_spending}
use Rattle.cf_office_rules.proofs.names.accounts_refusal.Given as goal

abbrev pub invariant-loop-item : goal.invariant-loop-item
invariant-loop-item l =
    first_refusal (λ i. unknown_account l.chart is_spending l.year i.fund i.dept i.object) (drop l.item-index l.items)
    ≡ first_refusal (λ i. unknown_account l.chart is_spending l.year i.fund i.dept i.object) l.items
