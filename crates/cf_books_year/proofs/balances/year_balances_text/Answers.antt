use Rattle.std.proofs.Common.{◌-◌}
use Rattle.cf_model_articulation.proofs.ReadCharts.{read_chart}
use Rattle.cf_model_articulation.proofs.TrialBalances.{balances}
use Rattle.cf_books_year.proofs.Opening.{year_balances}
use Rattle.cf_books_year.proofs.balances.year_balances_text.Goals as goal

pub returns-clause-zero : goal.returns-clause-zero
returns-clause-zero c =
    let plan = c.args.rest.now.plan in
    let history = c.args.rest.now.entries in
    let year = c.args.year in
    let legal = c.entries-legal.ensures.legal in
    λ bytes read.
    year_balances plan history year (balances plan history year (read_chart bytes plan read).own legal)
    (balances plan history (year - 1) (read_chart bytes plan read).own legal)
