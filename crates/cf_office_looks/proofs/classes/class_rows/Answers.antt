use Rattle.std.proofs.Common.{◌≤◌, length, sym, subst, rules}
use Rattle.cf_base.specs.Common.{most_entries}
use Rattle.cf_classes.specs.Sizes.{AreSmall}
use Rattle.cf_classes.proofs.Legal.{small_figures}
use Rattle.cf_model.specs.Common.{sums_of}
use Rattle.cf_office_looks.proofs.classes.class_rows.Goals as goal

pub fund_classes-requires-clause-small : goal.fund_classes-requires-clause-small
fund_classes-requires-clause-small c =
    let few : length c.args.history.now.entries ≤ most_entries = search rules in
    subst (λ h. AreSmall h.plan (sums_of h.plan h.entries) c.args.year) (sym c.of.ensures)
    (small_figures c.args.history.now.plan c.args.history.now.entries c.args.year c.chart-chart.ensures.whole c.chart-chart.ensures.legal few c.requires.year)
