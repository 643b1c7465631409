use Rattle.std.proofs.Common.{◌≡◌, ◌+◌, nat_lt, sym, ap, ◌∙◌}
use Rattle.cf_calls.specs.Common.{month_number}
use Rattle.cf_model.specs.Common.{start_month, Registers, registers_of}
use Rattle.cf_model.proofs.Common.{closed_are}
use Rattle.cf_office_rules.proofs.windows.is_closed.Goals as goal

pub returns : goal.returns
returns c =
    let plan = c.args.history.now.plan in
    let h = c.args.history.now.entries in
    let first = ap start_month c.chart.ensures.value in
    let closed : c.closed.result ≡ (registers_of plan h).closed = c.closed.ensures ∙ ap (λ (r : Registers). r.closed) c.registers.ensures in
    c.is_month_closed.ensures ∙ (λ i. nat_lt (month_number c.args.month.year c.args.month.month) (first i + closed i)) ∙ sym (closed_are plan h c.chart.ensures.whole.calendar c.chart.ensures.legal c.args.month c.requires)
