use Rattle.std.proofs.Common.{◌≡◌, drop}
use Rattle.cf_model.specs.Common.{first_refusal, unknown, voucher_names}
use Rattle.cf_office_rules.proofs.names.items_refusal.Given as goal

abbrev pub invariant-loop-item : goal.invariant-loop-item
invariant-loop-item l =
    first_refusal (unknown l.chart l.orders.documents) (voucher_names l.year (drop l.item-index l.items)) ≡ first_refusal (unknown l.chart l.orders.documents) (voucher_names l.year l.items)
