-- A month of a history as records.
use Rattle.std.specs.Prelude.{◌≡◌, ℕ, Bool, true, false, List, [], ◌∷◌, ◌++◌, codes}
use Rattle.cf_base.specs.Common.{month_text as text_of_month, year_of_month}
use Rattle.cf_model.specs.Common.{Month, Entry, is_month_closed, int_sum}
use Rattle.cf_chart.specs.Common.{Plan}
use Rattle.cf_books_lists.specs.Records.{head_text, record_text}
use Rattle.cf_books_month.specs.declared.amounts.Amounts.{Amounts}
use Rattle.cf_books_month.specs.declared.amounts.Column.{Column}
use Rattle.cf_books_month.specs.Amounts.{amount_of, held, total}
use Rattle.cf_books_month.specs.Records.{rows_text}
use Rattle.cf_books_month.specs.Rows.{departments_of, fund_row, lines_of, month_rows}

abbrev pub head : List (List ℕ)
head =
    codes "part" ∷ codes "fund" ∷ codes "fund_name" ∷ codes "dept" ∷ codes "dept_name"
    ∷ codes "line" ∷ codes "line_part" ∷ codes "line_name"
    ∷ codes "source" ∷ codes "source_name" ∷ codes "budget" ∷ codes "month" ∷ codes "year"
    ∷ codes "on_order" ∷ codes "held" ∷ codes "left"
    ∷ codes "percent_left" ∷ codes "month_before" ∷ codes "year_before" ∷ []

abbrev pub state_word : Bool → List ℕ
state_word true = codes " closed"
state_word false = codes " open"

-- the month, and whether it is still open
unfoldable pub month_state : Plan → List Entry → Month → List ℕ
month_state plan history m =
    codes "month " ++ (text_of_month m ++ state_word (is_month_closed plan history m))

unfoldable pub first_fields : Plan → List Entry → Month → List (List ℕ)
first_fields plan history m =
    month_state plan history m ∷ [] ∷ [] ∷ [] ∷ [] ∷ [] ∷ [] ∷ [] ∷ [] ∷ [] ∷ [] ∷ [] ∷ [] ∷ [] ∷ []
    ∷ [] ∷ [] ∷ [] ∷ [] ∷ []

-- all is of the fiscal year of the month
abbrev pub month_text : Bool → Month → Plan → List Entry → List ℕ
month_text csv m plan history =
    head_text csv head
    ++ (record_text csv (first_fields plan history m)
    ++ rows_text csv plan (month_rows plan history m (year_of_month plan.first_month m)))

-- an amount of a total is the sum of those of its rows, as 128 bits hold it
abbrev pub IsTotal : Column → List Amounts → Type 0
IsTotal c amounts = amount_of c (total amounts) ≡ held (int_sum (amount_of c) amounts)

-- the rows of a fund's departments come to the fund's own row, as 128 bits hold it
abbrev pub DepartmentsAddUp : Plan → List Entry → Month → ℕ → ℕ → Column → Type 0
DepartmentsAddUp plan history m year fund c =
    held (int_sum (λ r. amount_of c r.amounts) (departments_of plan history m year fund))
    ≡ amount_of c (fund_row fund (lines_of plan history m year fund)).amounts
