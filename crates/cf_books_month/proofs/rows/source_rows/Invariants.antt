use Rattle.std.proofs.Common.{◌≡◌, ◌++◌, drop}
use Rattle.cf_books_month.specs.Rows.{source_rows}
use Rattle.cf_books_month.proofs.rows.source_rows.Given as goal

-- what was taken, and what is still to come
abbrev pub invariant-loop-source : goal.invariant-loop-source
invariant-loop-source l =
    l.rows.items ++ source_rows l.sums.rest.now.plan l.sums.rest.now.entries l.sums.month l.year l.fund (drop l.source-index l.sources)
    ≡ source_rows l.sums.rest.now.plan l.sums.rest.now.entries l.sums.month l.year l.fund l.sources
