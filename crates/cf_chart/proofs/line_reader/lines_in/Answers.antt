use Rattle.std.proofs.Common.{◌∙◌, ap, rules, sym}
use Rattle.toml.specs.View.{view}
use Rattle.cf_chart.specs.Common.{line_row, new_line}
use Rattle.cf_chart.proofs.Following.{next_line}
use Rattle.cf_chart.proofs.line_reader.lines_in.Goals as goal

pub loop-value-preserved : goal.loop-value-preserved
loop-value-preserved c =
    let row = line_row c.args.funds.now c.args.departments.now c.args.objects.now in
    next_line row c.args.values.now c.loop-value.value-index c.value-item.result c.loop-value.lines.items _ c.in_ok-line.line _ c.loop-value-test.true c.value-item.is
    (ap (λ ls. new_line row ls (view c.value-item.result)) (sym c.as_slice.ensures.value) ∙ c.in_ok-line.ensures) (search rules) c.loop-value.invariant
