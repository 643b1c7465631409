use Rattle.std.proofs.Common.{◌≡◌, not, drop}
use Rattle.cf_calls.specs.declared.names.NameKind.TheVariants as kind
use Rattle.cf_chart.specs.Common.{source_at}
use Rattle.cf_model.specs.Common.{first_refusal, unknown_if, is_source_of}
use Rattle.cf_office_rules.proofs.names.sources_refusal.Given as goal

abbrev pub invariant-loop-row : goal.invariant-loop-row
invariant-loop-row l =
    first_refusal (λ r. unknown_if (not (is_source_of l.fund (source_at l.chart r.source))) kind.Source r.source) (drop l.row-index l.rows)
    ≡ first_refusal (λ r. unknown_if (not (is_source_of l.fund (source_at l.chart r.source))) kind.Source r.source) l.rows
