use Rattle.std.proofs.Common.{◌∙◌, ap, rules, sym}
use Rattle.toml.specs.View.{view}
use Rattle.cf_chart.specs.Common.{new_row}
use Rattle.cf_chart.proofs.Following.{next_row}
use Rattle.cf_chart.proofs.tables.read_rows.Goals as goal

pub loop-value-preserved : goal.loop-value-preserved
loop-value-preserved g c =
    let id = g.T.Row.Identified.id_of in
    let row = g.T.Table.reads c.args.table.now in
    next_row c.args.name id row c.args.values.now c.loop-value.value-index c.value-item.result c.loop-value.rows.items _ c.in_ok-row.row _ c.loop-value-test.true c.value-item.is
    (ap (λ rs. new_row c.args.name id row rs (view c.value-item.result)) (sym c.as_slice.ensures.value) ∙ c.in_ok-row.ensures) (search rules) c.loop-value.invariant
