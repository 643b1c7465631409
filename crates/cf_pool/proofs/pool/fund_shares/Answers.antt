use Rattle.std.proofs.Common.{◌<◌, ℕ, List, sum, subst}
use Rattle.cf_base.proofs.Common.{IfOk-weaker}
use Rattle.cf_base.specs.Common.{AreShares}
use Rattle.cf_pool.proofs.Received.{all_received}
use Rattle.cf_pool.proofs.pool.fund_shares.Goals as goal

pub returns-clause-whole : goal.returns-clause-whole
returns-clause-whole c =
    λ plan moves month is.
    IfOk-weaker c.shares_of.result _ _
    (λ v fair. all_received plan moves month c.args.amount v.items (subst (λ (ws : List ℕ). 0 < sum ws) is c.requires.some) (subst (λ (ws : List ℕ). AreShares c.args.amount ws v.items) is fair))
    c.shares_of.ensures
