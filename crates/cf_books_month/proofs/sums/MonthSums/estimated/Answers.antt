use Rattle.std.proofs.Common.{◌∙◌, ap, rules}
use Rattle.cf_base.proofs.Common.{to_z-of_z}
use mir.Val.{SFits}
use mir.Syntax.{w128}
use Rattle.cf_model.specs.Common.{Day}
use Rattle.cf_office_history.specs.RestState.{RestState}
use Rattle.cf_books_month.specs.Sums.{estimated}
use Rattle.cf_books_month.proofs.sums.MonthSums.estimated.Goals as goal

pub returns : goal.returns
returns c =
    let s = c.args.self.now in
    let source = c.args.source.now in
    let fits : SFits w128 c.estimated_in.result = search rules in
    rw (to_z-of_z w128 c.estimated_in.result fits)
    (c.estimated_in.ensures
    ∙ ap (λ (r : RestState). estimated r.plan r.entries source c.args.year c.sums.result.now.day) c.sums.ensures.same
    ∙ ap (λ (d : Day). estimated s.rest.now.plan s.rest.now.entries source c.args.year d) c.sums.ensures.through)
