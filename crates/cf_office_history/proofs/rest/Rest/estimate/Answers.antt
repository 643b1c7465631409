use Rattle.std.proofs.Common.{◌≡◌, ◌∙◌, Some, sym, ap}
use Rattle.cf_chart.specs.Common.{source_at}
use Rattle.cf_model.specs.Common.{estimate, adopted_at}
use Rattle.cf_office_history.specs.Estimates.{estimated_at}
use Rattle.cf_office_history.specs.RestState.{RestState}
use Rattle.cf_office_history.proofs.Estimated.{estimate_is, no_estimate}
use Rattle.cf_office_history.proofs.rest.Rest.estimate.Goals as goal

pub returns-in-Some : goal.returns-in-Some
returns-in-Some c =
    let plan = c.self.inside.chart in
    let entries = c.self.inside.entries.items in
    let row = c.in-Some.row.now in
    let there : source_at plan c.args.source ≡ Some row = sym c.in-Some.ensures in
    let place : c.adopted-place.result ≡ adopted_at row.fund c.args.year entries =
    c.adopted-place.ensures ∙ ap (λ (s : RestState). adopted_at row.fund c.args.year s.entries) (sym c.self.view_is) in
    c.estimated_at.ensures
    ∙ (λ i. estimated_at c.args.source (c.as_slice.ensures.value i) (place i))
    ∙ sym (estimate_is plan entries c.self.invariant.legal c.args.source c.args.year row there)
    ∙ ap (λ (s : RestState). estimate c.args.source c.args.year s.entries) c.self.view_is

pub returns-in-None : goal.returns-in-None
returns-in-None c =
    sym (no_estimate c.self.inside.chart c.self.inside.entries.items c.self.invariant.legal c.args.source c.args.year (sym c.in-None.ensures))
    ∙ ap (λ (s : RestState). estimate c.args.source c.args.year s.entries) c.self.view_is
