use Rattle.std.proofs.Common.{◌∙◌, ap, rules}
use Rattle.cf_base.proofs.Common.{to_z-of_z}
use mir.Val.{SFits}
use mir.Syntax.{w128}
use Rattle.cf_model.specs.Common.{Day}
use Rattle.cf_office_history.specs.RestState.{RestState}
use Rattle.cf_books_month.specs.Sums.{received}
use Rattle.cf_books_month.proofs.sums.MonthSums.received.Goals as goal

pub returns : goal.returns
returns c =
    let s = c.args.self.now in
    let source = c.args.source.now in
    let fits : SFits w128 c.received_in.result = search rules in
    rw (to_z-of_z w128 c.received_in.result fits)
    (c.received_in.ensures
    ∙ ap (λ (r : RestState). received r.plan r.entries source c.args.year c.sums.result.now.day) c.sums.ensures.same
    ∙ ap (λ (d : Day). received s.rest.now.plan s.rest.now.entries source c.args.year d) c.sums.ensures.through)
