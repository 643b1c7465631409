use Rattle.std.proofs.Common.{◌≤◌, length}
use Rattle.cf_base.proofs.Common.{IfOk-weaker}
use Rattle.cf_books_year.proofs.Few.{few_gov}
use Rattle.cf_books_year.proofs.balances.few_gov_accounts.Goals as goal

pub returns-clause-few : goal.returns-clause-few
returns-clause-few c =
    let plan = c.args.chart.now in
    let sources : length plan.sources ≤ 256 = rw c.sources-sources.ensures.value at c.sources-sources.ensures.few in
    let functions : length plan.functions ≤ 64 = rw c.functions-functions.ensures.value at c.functions-functions.ensures.few in
    IfOk-weaker c.gov_accounts.result _ _ (λ v is. rw is (few_gov plan sources functions)) c.gov_accounts.ensures
