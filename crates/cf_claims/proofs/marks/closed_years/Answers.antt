use Rattle.std.proofs.Common.{ap, ◌∙◌}
use Rattle.cf_base.proofs.Common.{take_all}
use Rattle.cf_claims.specs.Claims.{has_number}
use Rattle.cf_claims.proofs.Years.{closed_years, has_number-closed_years}
use Rattle.cf_claims.proofs.marks.closed_years.Goals as goal

pub returns : goal.returns
returns c = λ n.
    ap (has_number n) (c.loop-entry.invariant ∙ ap closed_years (take_all c.loop-entry.entry-index c.args.entries.now c.loop-entry-test.false))
    ∙ has_number-closed_years n c.args.entries.now
