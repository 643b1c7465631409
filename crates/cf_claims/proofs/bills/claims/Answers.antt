use Rattle.cf_claims.proofs.Kept.{are_kept}
use Rattle.cf_claims.proofs.LegalHistory.{legal_readable, legal_rising}
use Rattle.cf_claims.proofs.bills.claims.Goals as goal

pub put_claims-requires-clause-readable : goal.put_claims-requires-clause-readable
put_claims-requires-clause-readable c = legal_readable c.args.chart.now c.args.entries.now c.requires

pub returns-clause-kept : goal.returns-clause-kept
returns-clause-kept c = are_kept c.args.chart.now c.args.grant.now c.args.entries.now (legal_rising c.args.chart.now c.args.entries.now c.requires)

pub returns-in_err-marks-clause-kept : goal.returns-in_err-marks-clause-kept
returns-in_err-marks-clause-kept c = are_kept c.args.chart.now c.args.grant.now c.args.entries.now (legal_rising c.args.chart.now c.args.entries.now c.requires)
