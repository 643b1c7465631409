use Rattle.std.proofs.Common.{◌≡◌, drop}
use Rattle.cf_model.specs.Common.{first_refusal, unadopted_where, adopted_at}
use Rattle.cf_office_rules.proofs.budgets.unadopted_accounts_refusal.Given as goal

abbrev pub invariant-loop-item : goal.invariant-loop-item
invariant-loop-item l =
    first_refusal (λ i. unadopted_where i.fund l.year (adopted_at i.fund l.year l.history.entries)) (drop l.item-index l.items)
    ≡ first_refusal (λ i. unadopted_where i.fund l.year (adopted_at i.fund l.year l.history.entries)) l.items
