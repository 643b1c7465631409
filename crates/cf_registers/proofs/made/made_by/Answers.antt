use Rattle.std.proofs.Common.{◌∙◌, sym, ap, length, filter}
use Rattle.cf_calls.specs.declared.acts.Act.TheVariants as act
use Rattle.cf_calls.specs.declared.reply.Made.TheVariants as made
use Rattle.cf_chart.specs.Common.{object_at}
use Rattle.cf_model.specs.Common.{document_year, is_capital}
use Rattle.cf_model.specs.Results as results
use Rattle.cf_registers.proofs.Bought.{bought_length}
use Rattle.cf_registers.proofs.made.made_by.Goals as goal

pub returns-in-Voucher : goal.returns-in-Voucher
returns-in-Voucher c =
    ap (made.Voucher c.args.drawn.number c.args.drawn.second)
    (c.capital_items.ensures
    ∙ ap (λ xs. length (filter (λ i. is_capital (object_at c.args.chart.now i.account.object)) xs)) c.as_slice.ensures
    ∙ sym (bought_length c.args.chart.now c.args.drawn.number c.args.on (document_year c.args.chart.now c.args.on (act.Voucher c.in-Voucher.voucher)) c.args.drawn.second c.in-Voucher.voucher.items))
    ∙ ap (results.made_by c.args.chart.now c.args.registers.now.registers c.args.on c.args.drawn) (sym c.in-Voucher.is)
