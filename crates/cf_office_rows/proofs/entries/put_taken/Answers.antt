use Rattle.cf_office_rows.specs.Entries.{taken_rows}
use Rattle.std.proofs.Common.{Option, ℕ, ◌≡◌, [], ap, ◌∙◌}
use Rattle.cf_office_rows.specs.Rows.{kept}
use Rattle.cf_office_rows.proofs.Gathered.{taken_none}
use Rattle.cf_office_rows.proofs.Rolled.{none_added}
use Rattle.cf_office_rows.proofs.entries.put_taken.Goals as goal

pub returns-in-None : goal.returns-in-None
returns-in-None c =
    let holds = c.args.orders.now.documents.holds in
    let none : kept (taken_rows c.args.chart.now c.args.place c.args.order.now.requisition holds) ≡ [] =
    ap (λ (o : Option ℕ). kept (taken_rows c.args.chart.now c.args.place o holds)) c.in-None.is ∙ taken_none c.args.chart.now c.args.place holds in
    none_added c.args.out.now.items (taken_rows c.args.chart.now c.args.place c.args.order.now.requisition holds) none
