use Rattle.std.proofs.Common.{◌<◌, ◌++◌, ◌∷◌, [], refl, sym, subst, ◌∙◌, ap}
use Rattle.cf_model.specs.Common.{Expenditure, spent_by, spent_item}
use Rattle.cf_orders.specs.declared.spent.ExpendedItem.{ExpendedItem}
use Rattle.cf_orders.specs.Register.{item_of}
use Rattle.cf_post.specs.declared.deed.Deed.{Deed}
use Rattle.cf_post.specs.declared.deed.Deed.TheVariants as deed
use Rattle.cf_registers.specs.Deeds.{item_account}
use Rattle.cf_registers.proofs.Paying.{gathered_more, read_past}
use Rattle.cf_registers.proofs.deeds.unspend_each.Goals as goal
use Rattle.cf_registers.proofs.deeds.unspend_each.Goals.{in-Some+in_ok-push, in_default}

pub loop-nth-preserved : goal.loop-nth-preserved
loop-nth-preserved c =
    let items = spent_by c.args.voucher c.args.orders.now.documents.expenditures in
    let of_row : Expenditure → Deed = λ x. deed.VoidVoucher (spent_item c.args.chart.now x.year x.account) in
    let of_item : ExpendedItem → Deed = λ i. deed.VoidVoucher (spent_item c.args.chart.now i.year (item_account i)) in
    elim c.match-voucher_item.branch [
      | in-Some+in_ok-push w ↦ gathered_more item_of of_row of_item items c.loop-nth.nth w.in-Some.item _ _ _ (λ x. refl) (sym w.in-Some.is ∙ c.voucher_item.ensures)
          (ap (λ v. v.items) w.deeds-is ∙ w.in_ok-push.ensures.items ∙ ap (λ d. c.loop-nth.deeds.items ++ d ∷ []) (ap deed.VoidVoucher (w.spent_item-taken_back.ensures ∙ ap (spent_item c.args.chart.now w.in-Some.item.year) w.account_of.ensures))) c.loop-nth.invariant
      | in_default w ↦ absurd (read_past item_of items c.loop-nth.nth (sym w.in_default.is ∙ c.voucher_item.ensures) (subst (λ n. c.loop-nth.nth < n) c.voucher_items-nth-end.ensures.value c.loop-nth-test.true))
    ]
