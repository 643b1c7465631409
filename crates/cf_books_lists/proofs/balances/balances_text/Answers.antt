use Rattle.cf_model_articulation.proofs.ReadCharts.{read_chart}
use Rattle.cf_model_articulation.proofs.TrialBalances.{balances}
use Rattle.cf_books_lists.proofs.balances.balances_text.Goals as goal

pub returns-clause-zero : goal.returns-clause-zero
returns-clause-zero c =
    let plan = c.args.rest.now.plan in
    λ bytes read. balances plan c.args.rest.now.entries c.args.year (read_chart bytes plan read).own c.entries-legal.ensures.legal
