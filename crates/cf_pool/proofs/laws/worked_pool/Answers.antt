use Rattle.cf_pool.proofs.Worked as row
use Rattle.cf_pool.proofs.laws.worked_pool.Goals as goal

pub returns-clause-weights : goal.returns-clause-weights
returns-clause-weights c = row.weighs_daily_balances

pub returns-clause-shares : goal.returns-clause-shares
returns-clause-shares c = row.shares_to_the_cent

pub returns-clause-receipts : goal.returns-clause-receipts
returns-clause-receipts c = row.writes_receipts
