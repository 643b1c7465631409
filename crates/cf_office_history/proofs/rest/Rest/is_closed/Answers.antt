use Rattle.std.proofs.Common.{◌≡◌, ◌+◌, nat_lt, sym, ap, ◌∙◌}
use Rattle.cf_model.specs.Common.{Month, start_month, Registers, registers_of}
use Rattle.cf_base.specs.Common.{month_of_day}
use Rattle.cf_calls.specs.Common.{month_number}
use Rattle.cf_model.proofs.Common.{closed_are}
use Rattle.cf_base.proofs.Common.{parts}
use Rattle.cf_office_history.proofs.rest.Rest.is_closed.Goals as goal

pub returns : goal.returns
returns c =
    let plan = c.self.inside.chart in
    let h = c.self.inside.entries.items in
    let m = month_of_day c.args.on in
    let day = parts c.args.on c.requires in
    let month = ap (λ (n : Month). month_number n.year n.month) c.month_of.ensures in
    let first = ap start_month (c.chart.ensures.value ∙ ap (λ s. s.plan) (sym c.self.view_is)) in
    let closed : c.closed.result ≡ (registers_of plan h).closed = c.closed.ensures ∙ ap (λ (r : Registers). r.closed) c.self.invariant.registers in
    rw (← c.self.view_is) (c.is_month_closed.ensures ∙ (λ i. nat_lt (month i) (first i + closed i)) ∙ sym (closed_are plan h (rw (← c.self.view_is) at c.chart.ensures.whole).calendar (rw (← c.self.view_is) at c.chart.ensures.legal) m (record { first = day.first_month; last = day.last_month })))
