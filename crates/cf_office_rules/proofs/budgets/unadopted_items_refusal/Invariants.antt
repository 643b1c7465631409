use Rattle.std.proofs.Common.{◌≡◌, drop}
use Rattle.cf_model.specs.Common.{first_refusal, unadopted_where, adopted_at, direct_funds}
use Rattle.cf_office_rules.proofs.budgets.unadopted_items_refusal.Given as goal

abbrev pub invariant-loop-item : goal.invariant-loop-item
invariant-loop-item l =
    first_refusal (λ fund. unadopted_where fund l.year (adopted_at fund l.year l.history.entries)) (direct_funds (drop l.item-index l.items))
    ≡ first_refusal (λ fund. unadopted_where fund l.year (adopted_at fund l.year l.history.entries)) (direct_funds l.items)
