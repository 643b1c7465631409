use Rattle.std.proofs.Common.{◌≡◌, ◌++◌, drop}
use Rattle.cf_books_month.specs.Rows.{department_rows}
use Rattle.cf_books_month.proofs.rows.put_departments.Given as goal

-- what was appended, and what is still to come
abbrev pub invariant-loop-dept : goal.invariant-loop-dept
invariant-loop-dept l = l.out.items ++ department_rows l.fund l.rows (drop l.dept-index l.depts) ≡ l.initial.out.items ++ department_rows l.fund l.rows l.depts
