-- The statements of a history, of a fiscal year.
use Rattle.std.specs.Prelude.{ℕ, ℤ, ◌-◌, ◌-ℤ◌, ◌&&◌, ◌==◌, nat_le, List, [], ◌∷◌, codes}
use Rattle.cf_base.specs.declared.statement.Kind.{Kind}
use Rattle.cf_base.specs.declared.statement.Kind.TheVariants as kind
use Rattle.cf_calls.specs.declared.entry.Entry.{Entry}
use Rattle.cf_calls.specs.declared.read.Basis.TheVariants.{Fund as FundBasis, Gov as GovBasis}
use Rattle.cf_calls.specs.declared.reply.Row.{Row}
use Rattle.cf_calls.specs.declared.shown.ReconShown.{ReconShown}
use Rattle.cf_calls.specs.declared.shown.Shown.{Shown}
use Rattle.cf_calls.specs.declared.shown.Shown.TheVariants as shown
use Rattle.cf_chart.specs.Common.{Plan}
use Rattle.cf_ledger.specs.Posts.{is_in_total, sum_where}
use Rattle.cf_model.specs.Changes.{Changes, changes_of}
use Rattle.cf_model.specs.Estimates.{estimate}
use Rattle.cf_model.specs.Items.{fund_balances, net_position}
use Rattle.cf_model.specs.LineNumbers.{numbers}
use Rattle.cf_model.specs.Postings.{balance_of, posts_in}
use Rattle.cf_model.specs.ReconShown.{recon_shown}
use Rattle.cf_model.specs.Registers.{registers_of}
use Rattle.cf_statements.specs.Activities.{activities_rows}
use Rattle.cf_statements.specs.Balance.{balance_rows}
use Rattle.cf_statements.specs.Budget.{budget_rows}
use Rattle.cf_statements.specs.Operating.{operating_rows}
use Rattle.cf_statements.specs.Position.{position_rows}
use Rattle.cf_statements.specs.Sums.{Sums, single}
use Rattle.cf_statements.specs.Titles.{title_of}

-- the fund balance of a fund through a fiscal year: its accounts below 300000
abbrev pub fund_balance : Plan → ℕ → ℕ → List Entry → ℤ
fund_balance plan year fund history =
    sum_where (λ p. ((p.fund == fund) && is_in_total p) && nat_le p.year year)
    (posts_in FundBasis plan history)

-- the sums that statements are made of; government-wide posts are of fund 0
abbrev pub sums_of : Plan → List Entry → Sums
sums_of plan history = record {
  through = λ year fund account. balance_of FundBasis plan year fund account history;
  fund_balance = λ year fund. fund_balance plan year fund history;
  total = λ year. fund_balances plan year history;
  gov = λ year account. balance_of GovBasis plan year 0 account history;
  net_position = λ year. net_position plan year history;
  numbers = λ line year. numbers plan line year history;
  estimate = λ year source. estimate source year history;
}

-- the summary reconciliation (GASB Statement 34), in the order in which the items are added
abbrev pub recon_rows : ReconShown → List Row
recon_rows r =
    single (codes "Total fund balances") r.fund_balances
    ∷ single (codes "Capital assets, net") r.capital_assets
    ∷ single (codes "Right-to-use assets, net") r.right_to_use
    ∷ single (codes "Unavailable revenue") r.unavailable
    ∷ single (codes "Bonds payable") r.bonds
    ∷ single (codes "Leases payable") r.leases
    ∷ single (codes "Accrued interest") r.accrued_interest
    ∷ single (codes "Compensated absences") r.leave
    ∷ single (codes "Net position") r.net_position
    ∷ []

-- that of the changes of a year, between the change in fund balances and the change in net position
abbrev pub change_rows : ℤ → Changes → ℤ → List Row
change_rows fund c gov =
    single (codes "Net change in fund balances") fund
    ∷ single (codes "Capital outlay") c.outlay
    ∷ single (codes "Donated capital assets") c.donated
    ∷ single (codes "Right-to-use assets") c.right_to_use
    ∷ single (codes "Depreciation") c.depreciation
    ∷ single (codes "Amortization") c.amortization
    ∷ single (codes "Book value of disposals") c.disposals
    ∷ single (codes "Change in unavailable revenue") c.deferred
    ∷ single (codes "Debt proceeds") c.proceeds
    ∷ single (codes "Leases issued") c.leases_issued
    ∷ single (codes "Principal paid") c.principal
    ∷ single (codes "Change in accrued interest") c.accrued
    ∷ single (codes "Change in compensated absences") c.absences
    ∷ single (codes "Change in net position") gov
    ∷ []

abbrev pub year_change_rows : Plan → List Entry → ℕ → List Row
year_change_rows plan history year =
    change_rows (fund_balances plan year history -ℤ fund_balances plan (year - 1) history)
    (changes_of plan year (registers_of plan history))
    (net_position plan year history -ℤ net_position plan (year - 1) history)

-- the rows of a statement
abbrev pub report_rows : Plan → List Entry → ℕ → Kind → List Row
report_rows plan history year kind.Balance = balance_rows plan (sums_of plan history) year
report_rows plan history year kind.Operating = operating_rows plan (sums_of plan history) year
report_rows plan history year kind.Budget = budget_rows plan (sums_of plan history) year
report_rows plan history year kind.Position = position_rows (sums_of plan history) year
report_rows plan history year kind.Activities = activities_rows plan (sums_of plan history) year
report_rows plan history year kind.Reconcile = recon_rows (recon_shown plan year history)
report_rows plan history year kind.Changes = year_change_rows plan history year

-- what a look at a statement shows
abbrev pub report_shown : Plan → List Entry → ℕ → Kind → Shown
report_shown plan history year kind =
    shown.Report (report_rows plan history year kind) (title_of kind)
