use Rattle.std.proofs.Common.{◌∙◌, ap, rules, sym}
use Rattle.toml.specs.View.{view}
use Rattle.cf_grants.specs.Reading.{new_grant}
use Rattle.cf_grants.proofs.Following.{next_grant}
use Rattle.cf_grants.proofs.read.grants_in.Goals as goal

pub loop-value-preserved : goal.loop-value-preserved
loop-value-preserved c =
    next_grant c.args.chart.now c.args.values.now c.loop-value.value-index c.value-item.result c.loop-value.grants.items _ c.in_ok-grant.grant _ c.loop-value-test.true c.value-item.is
    (ap (λ gs. new_grant c.args.chart.now gs (view c.value-item.result)) (sym c.as_slice.ensures.value) ∙ c.in_ok-grant.ensures) (search rules) c.loop-value.invariant
