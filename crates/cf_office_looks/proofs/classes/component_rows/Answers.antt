use Rattle.std.proofs.Common.{◌≤◌, length, sym, subst, rules}
use Rattle.cf_base.specs.Common.{most_entries}
use Rattle.cf_classes.specs.Sizes.{AreSmall, IsSmallRecon}
use Rattle.cf_classes.proofs.Legal.{small_figures, small_recon}
use Rattle.cf_model.specs.Common.{sums_of}
use Rattle.cf_office_looks.proofs.classes.component_rows.Goals as goal

pub components-requires-clause-small : goal.components-requires-clause-small
components-requires-clause-small c =
    let few : length c.args.history.now.entries ≤ most_entries = search rules in
    subst (λ h. AreSmall h.plan (sums_of h.plan h.entries) c.args.year) (sym c.of.ensures)
    (small_figures c.args.history.now.plan c.args.history.now.entries c.args.year c.chart-chart.ensures.whole c.chart-chart.ensures.legal few c.requires.year)

pub components-requires-clause-recon : goal.components-requires-clause-recon
components-requires-clause-recon c =
    let few : length c.args.history.now.entries ≤ most_entries = search rules in
    subst IsSmallRecon (sym c.recon.ensures)
    (small_recon c.args.history.now.plan c.args.history.now.entries c.args.year c.chart-chart.ensures.whole c.chart-chart.ensures.legal few)
