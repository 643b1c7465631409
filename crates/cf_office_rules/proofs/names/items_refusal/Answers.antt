use Rattle.std.proofs.Common.{◌+◌, Option, drop, get_or, sym, ap, ◌∙◌}
use Rattle.cf_model.specs.Common.{Direct, VoucherItem, Refusal, first_refusal, item_names, or_else, unknown, voucher_names}
use Rattle.cf_model.proofs.Common.{first_refusal-append, voucher_names-drop}
use Rattle.cf_office_rules.proofs.names.items_refusal.Goals as goal

pub returns-in-Some : goal.returns-in-Some
returns-in-Some c =
    let f = unknown c.args.chart.now c.args.orders.now.documents in
    let rest = voucher_names c.args.year (drop (c.loop-item.item-index + 1) c.args.items.now) in
    let none : VoucherItem = record { account = record { fund = 0; dept = 0; object = 0; amount = 0 }; charge = Direct } in
    let item = get_or c.args.items.now c.loop-item.item-index none in
    ap (λ (o : Option Refusal). or_else o (first_refusal f rest)) (sym c.in-Some.is ∙ c.item_refusal.ensures)
    ∙ sym (first_refusal-append f (item_names c.args.year item) rest)
    ∙ ap (first_refusal f) (sym (voucher_names-drop c.args.year c.args.items.now c.loop-item.item-index none c.loop-item-test.true))
    ∙ c.loop-item.invariant
