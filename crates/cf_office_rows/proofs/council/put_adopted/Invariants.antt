use Rattle.std.proofs.Common.{◌≡◌, ◌++◌, drop}
use Rattle.cf_office_rows.specs.Council.{adopted_rows}
use Rattle.cf_office_rows.specs.Rows.{kept}
use Rattle.cf_office_rows.proofs.council.put_adopted.Given as goal

-- what was added, and what is still to come
abbrev pub invariant-loop-line : goal.invariant-loop-line
invariant-loop-line l =
    l.out.items ++ kept (adopted_rows l.chart l.place l.year (drop l.line-index l.lines))
    ≡ l.initial.out.items ++ kept (adopted_rows l.chart l.place l.year l.lines)
