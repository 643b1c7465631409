use Rattle.std.proofs.Common.{◌≡◌, ◌++◌, map, drop}
use Rattle.cf_model.specs.Common.{spent_by, pay_deed}
use Rattle.cf_registers.proofs.deeds.pay_voucher.Given as goal

abbrev pub invariant-loop-nth : goal.invariant-loop-nth
invariant-loop-nth l =
    l.deeds.items ++ map (pay_deed l.year) (drop l.nth (spent_by l.voucher l.orders.documents.expenditures))
    ≡ l.fn.deeds.items ++ map (pay_deed l.year) (spent_by l.voucher l.orders.documents.expenditures)
