use Rattle.std.proofs.Common.{◌≡◌, drop}
use Rattle.cf_books_lists.specs.Rows.{added}
use Rattle.cf_books_year.specs.YearBalances.{changed_text}
use Rattle.cf_books_year.proofs.balances.put_changed.Given as goal

-- what was written, and what is still to come
abbrev pub invariant-loop-account : goal.invariant-loop-account
invariant-loop-account l =
    added l.out (changed_text l.out.csv l.rest.plan l.rest.entries l.basis l.year l.fund (drop l.account-index l.accounts)) ≡ added l.initial.out (changed_text l.initial.out.csv l.rest.plan l.rest.entries l.basis l.year l.fund l.accounts)
