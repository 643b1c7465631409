use Rattle.std.proofs.Common.{◌+◌, ◌-ℤ◌, pos, ◌∙◌, rules, ap}
use Rattle.cf_base.proofs.Common.{to_z-of_z}
use mir.Val.{SFits}
use mir.Syntax.{w128}
use Rattle.cf_model.specs.Common.{deferred_in}
use Rattle.cf_revenue.specs.Register.{Register}
use Rattle.cf_revenue.specs.RegisterView.{register_of}
use Rattle.cf_revenue.proofs.YearChanges.{change_in}
use Rattle.cf_revenue.proofs.revenue.Revenue.unavailable_change.Goals as goal

pub returns : goal.returns
returns c =
    let f : SFits w128 c.difference.result = search rules in
    to_z-of_z w128 c.difference.result f
    ∙ c.difference.ensures.value
    ∙ (λ i. pos (c.total_through-billed.ensures i + c.total_through-settled_before.ensures i) -ℤ pos (c.total_through-settled.ensures i + c.total_through-billed_before.ensures i))
    ∙ change_in (register_of c.self.inside).receivables c.self.inside.billed c.self.inside.settled c.args.year c.requires c.self.invariant.billed c.self.invariant.taken
    ∙ ap (λ (r : Register). deferred_in c.args.year r.receivables) c.self.view_is
