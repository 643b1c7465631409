use Rattle.std.proofs.Common.{◌∙◌, ap}
use Rattle.cf_base.proofs.Common.{IfOk-weaker}
use Rattle.cf_claims.specs.Standing.{claims_in, rows_from}
use Rattle.cf_claims.proofs.LegalHistory.{legal_readable}
use Rattle.cf_claims.proofs.RowsSay.{rows_say}
use Rattle.cf_claims.proofs.standing.grant_vouchers.Goals as goal

pub rows_from-requires-clause-readable : goal.rows_from-requires-clause-readable
rows_from-requires-clause-readable c = legal_readable c.args.chart.now c.args.entries.now c.requires

pub returns-clause-claims : goal.returns-clause-claims
returns-clause-claims c =
    let plan = c.args.chart.now in
    let g = c.args.grant.now in
    let history = c.args.entries.now in
    IfOk-weaker c.rows_from.result _ _
    (λ v is. ap claims_in (is ∙ ap (λ left. rows_from plan g history left history) c.left_of-left.ensures) ∙ rows_say plan g history)
    c.rows_from.ensures
