use Rattle.std.proofs.Common.{◌≡◌, ◌++◌, drop}
use Rattle.cf_books_month.specs.Rows.{funds_rows}
use Rattle.cf_books_month.proofs.rows.put_funds.Given as goal

-- what was appended, and what is still to come
abbrev pub invariant-loop-fund : goal.invariant-loop-fund
invariant-loop-fund l =
    l.out.items ++ funds_rows l.sums.rest.now.plan l.sums.rest.now.entries l.sums.month l.year (drop l.fund-index l.funds)
    ≡ l.initial.out.items ++ funds_rows l.sums.rest.now.plan l.sums.rest.now.entries l.sums.month l.year l.funds
