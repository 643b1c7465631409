use Rattle.std.proofs.Common.{◌≡◌, not, drop}
use Rattle.cf_calls.specs.declared.names.NameKind.TheVariants as kind
use Rattle.cf_chart.specs.Common.{line_at}
use Rattle.cf_model.specs.Common.{first_refusal, unknown_if, is_line_of}
use Rattle.cf_office_rules.proofs.names.lines_refusal.Given as goal

abbrev pub invariant-loop-row : goal.invariant-loop-row
invariant-loop-row l =
    first_refusal (λ r. unknown_if (not (is_line_of l.chart l.fund l.year (line_at l.chart r.line))) kind.Line r.line) (drop l.row-index l.rows)
    ≡ first_refusal (λ r. unknown_if (not (is_line_of l.chart l.fund l.year (line_at l.chart r.line))) kind.Line r.line) l.rows
