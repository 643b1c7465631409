-- A trial balance made of the entries that are dated through a day: on either basis, each account
-- with its balance through a fiscal year.
use Rattle.std.specs.Prelude.{ℕ, Bool, List}
use Rattle.cf_model.specs.Common.{Day, Entry}
use Rattle.cf_chart.specs.Common.{Plan}
use Rattle.cf_ledger.specs.Posts.{balance}
use Rattle.cf_books_lists.specs.Balances.{OfAccounts, trial_balance}
use Rattle.cf_books_days.specs.Through.{posts_by, seen_through}

abbrev pub of_accounts_through : Day → Plan → List Entry → OfAccounts
of_accounts_through day plan history basis year fund account =
    balance (posts_by basis (seen_through plan day history)) year fund account

abbrev pub balances_through : Bool → Day → ℕ → Plan → List Entry → List ℕ
balances_through csv day year plan history =
    trial_balance csv year plan (of_accounts_through day plan history)
