use Rattle.std.proofs.Common.{◌≡◌, drop}
use Rattle.cf_books_lists.specs.Rows.{added}
use Rattle.cf_books_year.specs.YearBalances.{funds_text}
use Rattle.cf_books_year.proofs.balances.put_funds.Given as goal

-- what was written, and what is still to come
abbrev pub invariant-loop-fund : goal.invariant-loop-fund
invariant-loop-fund l =
    added l.out (funds_text l.out.csv l.rest.plan l.rest.entries l.year (drop l.fund-index l.funds)) ≡ added l.initial.out (funds_text l.initial.out.csv l.rest.plan l.rest.entries l.year l.funds)
