use Rattle.std.proofs.Common.{◌≡◌, ◌++◌, map, drop}
use Rattle.cf_model.specs.Common.{spent_item}
use Rattle.cf_post.specs.declared.deed.Deed.TheVariants as deed
use Rattle.cf_registers.proofs.deeds.spend_each.Given as goal

abbrev pub invariant-loop-item : goal.invariant-loop-item
invariant-loop-item l =
    l.deeds.items ++ map (λ i. deed.Voucher (spent_item l.chart l.year i.account)) (drop l.item-index l.items) ≡ map (λ i. deed.Voucher (spent_item l.chart l.year i.account)) l.items
