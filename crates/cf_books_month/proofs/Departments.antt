-- The rows of a fund's departments come to the fund's own row.
use Rattle.std.proofs.Common.{◌≡◌, ℕ, ◌+◌, Ok, Bool, true, false, if◌then◌else◌, List, [], ◌∷◌, ℤ, pos, ◌+ℤ◌, refl, sym, ap, ◌∙◌, filter}
use Rattle.cf_base.proofs.Common.{w128, AllByRecursion, int_wrap-add_left, int_wrap-add_right, int_wrap-add_same}
use Rattle.cf_model.specs.Common.{Month, Entry, Department, Line, int_sum}
use Rattle.cf_chart.specs.Common.{Plan, chart_of}
use Rattle.cf_model.proofs.Common.{all_append, all_so, exchange, one_passes, passing, same_all, sum_append, sum_filter, sum_map, sum_same}
use Rattle.cf_books_month.specs.declared.amounts.Amounts.{Amounts}
use Rattle.cf_books_month.specs.declared.amounts.Column.{Column}
use Rattle.cf_books_month.specs.declared.rows.MonthRow.{MonthRow}
use Rattle.cf_books_month.specs.Amounts.{amount_of, held}
use Rattle.cf_books_month.specs.Month.{DepartmentsAddUp}
use Rattle.cf_books_month.specs.Rows.{amounts_in, amounts_of, department_row, department_rows, is_dept, is_shown, line_row, line_rows, lines_of}
use Rattle.cf_books_month.proofs.ReadLines.{IsOfOne, lines_of_one}
use Rattle.cf_books_month.proofs.Totals.{to_zero, total_is}

-- ---- sums as 128 bits hold them

same_two : (a b x y : ℤ) → held a ≡ held x → held b ≡ held y → held (a +ℤ b) ≡ held (x +ℤ y)
same_two a b x y first second =
    int_wrap-add_same w128 a x b first ∙ sym (int_wrap-add_right w128 x b) ∙ ap (λ (z : ℤ). held (x +ℤ z)) second ∙ int_wrap-add_right w128 x y

-- the row of a department comes to its lines' rows
department_sum : (c : Column) (fund dept : ℕ) (amounts : List Amounts) → held (int_sum (λ (r : MonthRow). amount_of c r.amounts) (department_row fund dept amounts)) ≡ held (int_sum (amount_of c) amounts)
department_sum c fund dept [] = refl
department_sum c fund dept (a ∷ amounts) =
    let sum : ℤ = int_sum (amount_of c) (a ∷ amounts) in
    ap (λ (z : ℤ). held (z +ℤ pos 0)) (total_is c (a ∷ amounts)) ∙ int_wrap-add_left w128 sum (pos 0) ∙ ap held (to_zero sum)

departments_sum : (c : Column) (fund : ℕ) (rows : List MonthRow) (ds : List Department) →
    held (int_sum (λ (r : MonthRow). amount_of c r.amounts) (department_rows fund rows ds)) ≡ held (int_sum (λ (d : Department). int_sum (amount_of c) (amounts_of d.id rows)) ds)
departments_sum c fund rows [] = refl
departments_sum c fund rows (d ∷ ds) =
    ap held (sum_append (λ (r : MonthRow). amount_of c r.amounts) (department_row fund d.id (amounts_of d.id rows)) (department_rows fund rows ds))
    ∙ same_two _ _ _ _ (department_sum c fund d.id (amounts_of d.id rows)) (departments_sum c fund rows ds)

-- ---- each row stands in one department

-- the row is of one of these departments, and of no other
abbrev IsIn : List Department → MonthRow → Type 0
IsIn ds r = passing (λ (d : Department). is_dept d.id r.dept) ds ≡ 1

-- an amount of a row, where the row is a department's
abbrev part_of : (MonthRow → ℤ) → ℕ → MonthRow → ℤ
part_of f dept r = if is_dept dept r.dept then f r else pos 0

parts_sum : (c : Column) (dept : ℕ) (rows : List MonthRow) → int_sum (amount_of c) (amounts_of dept rows) ≡ int_sum (part_of (λ (r : MonthRow). amount_of c r.amounts) dept) rows
parts_sum c dept rows =
    sum_map (amount_of c) (λ (r : MonthRow). r.amounts) (filter (λ (r : MonthRow). is_dept dept r.dept) rows)
    ∙ sum_filter (λ (r : MonthRow). amount_of c r.amounts) (λ (r : MonthRow). is_dept dept r.dept) rows

all_departments : (f : MonthRow → ℤ) (ds : List Department) (rows : List MonthRow) → AllByRecursion (IsIn ds) rows → int_sum (λ (d : Department). int_sum (part_of f d.id) rows) ds ≡ int_sum f rows
all_departments f ds rows one =
    exchange (λ (d : Department). part_of f d.id) ds rows
    ∙ same_all (λ (r : MonthRow). int_sum (λ (d : Department). part_of f d.id r) ds) f rows
    (all_so (IsIn ds) (λ (r : MonthRow). int_sum (λ (d : Department). part_of f d.id r) ds ≡ f r) (λ r is. one_passes (λ (d : Department). is_dept d.id r.dept) (f r) ds is) rows one)

shown_in : (b : Bool) (ds : List Department) (r : MonthRow) → IsIn ds r → AllByRecursion (IsIn ds) (if b then r ∷ [] else [])
shown_in true ds r is = (is, tt)
shown_in false ds r is = tt

lines_in : (plan : Plan) (h : List Entry) (m : Month) (year fund number : ℕ) (ds : List Department) (lines : List Line) → AllByRecursion (IsOfOne ds) lines → AllByRecursion (IsIn ds) (line_rows plan h m year fund number lines)
lines_in plan h m year fund number ds [] one = tt
lines_in plan h m year fund number ds (l ∷ lines) one =
    all_append (IsIn ds) _ (line_rows plan h m year fund (number + 1) lines) (shown_in (is_shown plan year fund l) ds (line_row plan h m year number l) one.0)
    (lines_in plan h m year fund (number + 1) ds lines one.1)

-- ---- the law

pub departments_add : (bytes : List ℕ) (plan : Plan) (h : List Entry) → chart_of bytes ≡ Ok plan → (m : Month) (year fund : ℕ) (c : Column) → DepartmentsAddUp plan h m year fund c
departments_add bytes plan h read m year fund c =
    let rows : List MonthRow = lines_of plan h m year fund in
    let ds : List Department = plan.departments in
    departments_sum c fund rows ds
    ∙ ap held
    (sum_same (λ (d : Department). int_sum (amount_of c) (amounts_of d.id rows)) (λ (d : Department). int_sum (part_of (λ (r : MonthRow). amount_of c r.amounts) d.id) rows) (λ d. parts_sum c d.id rows) ds
    ∙ all_departments (λ (r : MonthRow). amount_of c r.amounts) ds rows (lines_in plan h m year fund 0 ds plan.lines (lines_of_one bytes plan read))
    ∙ sym (sum_map (amount_of c) (λ (r : MonthRow). r.amounts) rows))
    ∙ sym (total_is c (amounts_in rows))
