use Rattle.std.proofs.Common.{◌≡◌, ◌++◌, map, drop}
use Rattle.cf_model.specs.Common.{spent_by, spent_item}
use Rattle.cf_post.specs.declared.deed.Deed.TheVariants as deed
use Rattle.cf_registers.proofs.deeds.unspend_each.Given as goal

abbrev pub invariant-loop-nth : goal.invariant-loop-nth
invariant-loop-nth l =
    l.deeds.items ++ map (λ x. deed.VoidVoucher (spent_item l.chart x.year x.account)) (drop l.nth (spent_by l.voucher l.orders.documents.expenditures))
    ≡ map (λ x. deed.VoidVoucher (spent_item l.chart x.year x.account)) (spent_by l.voucher l.orders.documents.expenditures)
