use Rattle.std.proofs.Common.{◌≡◌, ◌++◌, drop}
use Rattle.cf_model.specs.Common.{pay_items}
use Rattle.cf_registers.proofs.deeds.pay_each.Given as goal

abbrev pub invariant-loop-voucher : goal.invariant-loop-voucher
invariant-loop-voucher l =
    l.deeds.items ++ pay_items l.year l.orders.documents.expenditures (drop l.voucher-index l.vouchers) ≡ pay_items l.year l.orders.documents.expenditures l.vouchers
