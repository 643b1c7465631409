-- A row a control line: its number, its fund and department with their names, and what part of the
-- objects it has, with the fiscal years that it is of where its fund has a later level of control.
use Rattle.std.specs.Prelude.{ℕ, ◌+◌, false, List, [], ◌∷◌, decimal}
use Rattle.cf_chart.specs.Common.{Plan, fund_at, department_at}
use Rattle.cf_model.specs.Common.{Line}
use Rattle.cf_books_lists.specs.LineNames.{later_of, part_and_years, part_name}
use Rattle.cf_books_lists.specs.Names.{department_name, fund_name}
use Rattle.cf_books_lists.specs.Records.{rows_text}

abbrev pub line_row : Plan → ℕ → Line → List (List ℕ)
line_row plan number l =
    decimal number ∷ decimal l.fund ∷ fund_name (fund_at plan l.fund) ∷ decimal l.dept
    ∷ department_name (department_at plan l.dept)
    ∷ part_and_years l (later_of (fund_at plan l.fund)) ∷ part_name plan l.part ∷ []

-- lines are counted from 0
abbrev pub line_rows : Plan → ℕ → List Line → List (List (List ℕ))
line_rows plan number [] = []
line_rows plan number (l ∷ ls) = line_row plan number l ∷ line_rows plan (number + 1) ls

abbrev pub lines_text : Plan → List ℕ
lines_text plan = rows_text false (line_rows plan 0 plan.lines)
