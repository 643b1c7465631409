-- The actual amounts of the budgetary comparison: of a fund's sources, and of its lines, item by
-- item of what was spent.
use Rattle.std.proofs.Common.{◌≡◌, ℕ, ◌+◌, ◌<◌, Bool, true, false, cond, not, if◌then◌else◌, ◌==◌, ◌&&◌, nat_lt, List, [], ◌∷◌, ◌++◌, length, Option, Some, None, is_some, sum_by, ℤ, pos, ◌+ℤ◌, refl, sym, ap, ◌∙◌, arith}
use Rattle.cf_base.proofs.Common.{beq, AllByRecursion, position_or_len, ints}
use Rattle.cf_model.specs.Common.{Entry, AccountItem, Line, Object, RevenueSource, Expenditure, documents_of, counts, expended, expended_amount, expended_sum, is_line, is_on, spending_sum, sums_of, Spending, spendings_in, int_sum}
use Rattle.cf_chart.specs.Common.{Plan, covers, in_part, is_later, is_of_year, line_for, line_of, object_at}
use Rattle.cf_model.proofs.Common.{both, none_first, none_last, sum_pos, sum_same}
use Rattle.cf_statements.specs.Budget.{fund_revenue, line_row, line_rows, source_row, source_rows}
use Rattle.cf_statements.specs.Operating.{total_revenues}
use Rattle.cf_statements.specs.Sums.{Sums}
use Rattle.cf_model_articulation.specs.Comparison.{actuals}
use Rattle.cf_model_articulation.proofs.Counts.{less_is, number_is, other_numbers, same_numbers}

-- ---- sources

pub earned : (sums : Sums) (year fund : ℕ) (sources : List RevenueSource) → actuals (source_rows sums year fund sources) ≡ total_revenues sums year fund sources
earned sums year fund [] = refl
earned sums year fund (s ∷ sources) = by (s.fund == fund) (earned sums year fund sources)
  where
    by : (b : Bool) → actuals (source_rows sums year fund sources) ≡ total_revenues sums year fund sources →
        actuals ((if b then source_row sums year s ∷ [] else []) ++ source_rows sums year fund sources) ≡ (if b then fund_revenue sums year s else pos 0) +ℤ total_revenues sums year fund sources
    by true more = ap (λ z. fund_revenue sums year s +ℤ z) more
    by false more = more ∙ sym (none_first (total_revenues sums year fund sources))

-- ---- lines, by number from one on

abbrev pub over : (Line → Bool) → (ℕ → ℤ) → ℕ → List Line → ℤ
over test g number [] = pos 0
over test g number (line ∷ lines) = (if test line then g number else pos 0) +ℤ over test g (number + 1) lines

-- a line of a fund that controls it in a year
abbrev pub is_its : Plan → ℕ → ℕ → Line → Bool
is_its plan year fund line = (line.fund == fund) && is_of_year plan year line

pub of_lines : (plan : Plan) (h : List Entry) (year fund number : ℕ) (lines : List Line) →
    actuals (line_rows plan (sums_of plan h) year fund number lines) ≡ over (is_its plan year fund) (λ n. pos (expended plan n year h)) number lines
of_lines plan h year fund number [] = refl
of_lines plan h year fund number (line ∷ lines) = by ((line.fund == fund) && is_of_year plan year line) (of_lines plan h year fund (number + 1) lines)
  where
    by : (b : Bool) → actuals (line_rows plan (sums_of plan h) year fund (number + 1) lines) ≡ over (is_its plan year fund) (λ n. pos (expended plan n year h)) (number + 1) lines →
        actuals ((if b then line_row (sums_of plan h) year number ∷ [] else []) ++ line_rows plan (sums_of plan h) year fund (number + 1) lines)
        ≡ (if b then pos (expended plan number year h) else pos 0) +ℤ over (is_its plan year fund) (λ n. pos (expended plan n year h)) (number + 1) lines
    by true more = ap (λ z. pos (expended plan number year h) +ℤ z) more
    by false more = more ∙ sym (none_first _)

nothing : (b : Bool) (z : ℤ) → (if b then pos 0 else pos 0) +ℤ z ≡ z
nothing true z = none_first z
nothing false z = none_first z

over_none : (test : Line → Bool) (number : ℕ) (lines : List Line) → over test (λ n. pos 0) number lines ≡ pos 0
over_none test number [] = refl
over_none test number (line ∷ lines) = nothing (test line) _ ∙ over_none test (number + 1) lines

over_same : (test : Line → Bool) (g k : ℕ → ℤ) → ((n : ℕ) → g n ≡ k n) → (number : ℕ) (lines : List Line) → over test g number lines ≡ over test k number lines
over_same test g k same number [] = refl
over_same test g k same number (line ∷ lines) = λ i. (if test line then same number i else pos 0) +ℤ over_same test g k same (number + 1) lines i

over_plus : (test : Line → Bool) (g k : ℕ → ℤ) (number : ℕ) (lines : List Line) → over test (λ n. g n +ℤ k n) number lines ≡ over test g number lines +ℤ over test k number lines
over_plus test g k number [] = refl
over_plus test g k number (line ∷ lines) = by (test line) (g number) (k number) _ _ _ (over_plus test g k (number + 1) lines)
  where
    by : (b : Bool) (x y r s t : ℤ) → r ≡ s +ℤ t → (if b then x +ℤ y else pos 0) +ℤ r ≡ ((if b then x else pos 0) +ℤ s) +ℤ ((if b then y else pos 0) +ℤ t)
    by true x y r s t e = omega (arith, ints, e)
    by false x y r s t e = omega (arith, ints, e)

-- a sum over items, line by line, is that of each item over the lines
over_sum : {A : Type 0} (test : Line → Bool) (g : A → ℕ → ℤ) (number : ℕ) (lines : List Line) (xs : List A) →
    over test (λ n. int_sum (λ x. g x n) xs) number lines ≡ int_sum (λ x. over test (g x) number lines) xs
over_sum test g number lines [] = over_none test number lines
over_sum test g number lines (x ∷ xs) =
    over_plus test (g x) (λ n. int_sum (λ x. g x n) xs) number lines ∙ ap (λ z. over test (g x) number lines +ℤ z) (over_sum test g number lines xs)

-- ---- the one line of an account

beyond : (test : Line → Bool) (v : ℤ) (m number : ℕ) (lines : List Line) → m < number → over test (λ n. if m == n then v else pos 0) number lines ≡ pos 0
beyond test v m number [] l = refl
beyond test v m number (line ∷ lines) l =
    ap (λ b. (if test line then (if b then v else pos 0) else pos 0) +ℤ over test (λ n. if m == n then v else pos 0) (number + 1) lines) (other_numbers m number (λ e. omega (arith, e, l)))
    ∙ nothing (test line) _
    ∙ beyond test v m (number + 1) lines (omega (arith, l))

located : (test p : Line → Bool) (b : Bool) (v : ℤ) → ((l : Line) → p l ≡ true → test l ≡ b) → (number : ℕ) (lines : List Line) → position_or_len p lines < length lines →
    over test (λ n. if number + position_or_len p lines == n then v else pos 0) number lines ≡ (if b then v else pos 0)
located test p b v same number [] l = absurd (omega (arith, l))
located test p b v same number (line ∷ lines) l = by (p line) refl l (λ k. located test p b v same (number + 1) lines k)
  where
    Rest : Type 0
    Rest = position_or_len p lines < length lines → over test (λ n. if (number + 1) + position_or_len p lines == n then v else pos 0) (number + 1) lines ≡ (if b then v else pos 0)

    here : (test line ≡ b) → (m : ℕ) → m ≡ number → over test (λ n. if m == n then v else pos 0) number (line ∷ lines) ≡ (if b then v else pos 0)
    here is m e =
        (λ i. (if is i then (if same_numbers m number e i then v else pos 0) else pos 0) +ℤ beyond test v m (number + 1) lines (omega (arith, e)) i) ∙ none_last (if b then v else pos 0)

    later : (m : ℕ) → m ≡ (number + 1) + position_or_len p lines → position_or_len p lines < length lines → Rest → over test (λ n. if m == n then v else pos 0) number (line ∷ lines) ≡ (if b then v else pos 0)
    later m e l rest =
        ap (λ t. (if test line then (if t then v else pos 0) else pos 0) +ℤ over test (λ n. if m == n then v else pos 0) (number + 1) lines) (other_numbers m number (λ x. omega (arith, x, e)))
        ∙ nothing (test line) _
        ∙ ap (λ k. over test (λ n. if k == n then v else pos 0) (number + 1) lines) e
        ∙ rest l

    by : (q : Bool) → p line ≡ q → cond (not q) (1 + position_or_len p lines) 0 < length (line ∷ lines) → Rest →
        over test (λ n. if number + cond (not q) (1 + position_or_len p lines) 0 == n then v else pos 0) number (line ∷ lines) ≡ (if b then v else pos 0)
    by true is l rest = here (same line is) (number + 0) (omega arith)
    by false is l rest = later (number + (1 + position_or_len p lines)) (omega arith) (omega (arith, l)) rest

-- the line that has an account in a year is of the account's fund, and of those that control it
-- then
line_is : (plan : Plan) (year fund dept f : ℕ) (o : Object) (l : Line) → covers fund dept (is_later plan fund year) o l ≡ true → is_its plan year f l ≡ (fund == f)
line_is plan year fund dept f o l e =
    let later = beq l.later (is_later plan fund year) in
    let first = both (((l.fund == fund) && (l.dept == dept)) && later) (in_part l.part o) e in
    let second = both ((l.fund == fund) && (l.dept == dept)) later first.0 in
    let third = both (l.fund == fund) (l.dept == dept) second.0 in
    let same : l.fund ≡ fund = number_is l.fund fund third.0 in
    (λ i. (same i == f) && (ap (λ n. beq l.later (is_later plan n year)) same ∙ second.1) i) ∙ and_true (fund == f)
  where
    and_true : (b : Bool) → (b && true) ≡ b
    and_true true = refl
    and_true false = refl

abbrev pub HasLine : Plan → AccountItem → ℕ → Type 0
HasLine plan a year = is_some (line_of plan a.fund a.dept a.object year) ≡ true

on_line : (plan : Plan) (a : AccountItem) (year f : ℕ) (v : ℤ) → HasLine plan a year →
    over (is_its plan year f) (λ n. if is_on plan n year a then v else pos 0) 0 plan.lines ≡ (if a.fund == f then v else pos 0)
on_line plan a year f v known = by_object (object_at plan a.object) known
  where
    by_object : (o : Option Object) → is_some (line_for a.fund a.dept (is_later plan a.fund year) plan.lines o) ≡ true →
        over (is_its plan year f) (λ n. if is_line n (line_for a.fund a.dept (is_later plan a.fund year) plan.lines o) then v else pos 0) 0 plan.lines ≡ (if a.fund == f then v else pos 0)
    by_object None known = cc
    by_object (Some o) known = by (nat_lt place (length plan.lines)) refl known
      where
        p : Line → Bool
        p = covers a.fund a.dept (is_later plan a.fund year) o

        place : ℕ
        place = position_or_len p plan.lines

        by : (q : Bool) → nat_lt place (length plan.lines) ≡ q → is_some (cond q (Some place) None) ≡ true →
            over (is_its plan year f) (λ n. if is_line n (cond q (Some place) None) then v else pos 0) 0 plan.lines ≡ (if a.fund == f then v else pos 0)
        by false is known = cc
        by true is known =
            ap (λ m. over (is_its plan year f) (λ n. if m == n then v else pos 0) 0 plan.lines) (omega arith)
            ∙ located (is_its plan year f) p (a.fund == f) v (line_is plan year a.fund a.dept f o) 0 plan.lines (less_is place (length plan.lines) is)

counted : (plan : Plan) (a : AccountItem) (of year f : ℕ) (v : ℤ) → HasLine plan a of →
    over (is_its plan year f) (λ n. if counts plan n year a of then v else pos 0) 0 plan.lines ≡ (if (of == year) && (a.fund == f) then v else pos 0)
counted plan a of year f v known = by (of == year) refl
  where
    by : (b : Bool) → (of == year) ≡ b → over (is_its plan year f) (λ n. if b && is_on plan n of a then v else pos 0) 0 plan.lines ≡ (if b && (a.fund == f) then v else pos 0)
    by true is = ap (λ y. over (is_its plan y f) (λ n. if is_on plan n of a then v else pos 0) 0 plan.lines) (sym (number_is of year is)) ∙ on_line plan a of f v known
    by false is = over_none (is_its plan year f) 0 plan.lines

-- ---- what lines have expended

-- a voucher's item, and what is spent beside documents, of a year and fund
abbrev pub spent_part : ℕ → ℕ → Expenditure → ℤ
spent_part year fund x = if (x.year == year) && (x.account.fund == fund) then pos (expended_amount x.state x.account.amount) else pos 0

abbrev pub other_part : ℕ → ℕ → Spending → ℤ
other_part year fund x = if (x.year == year) && (x.account.fund == fund) then pos x.account.amount else pos 0

as_pos : (b : Bool) (n : ℕ) → pos (if b then n else 0) ≡ (if b then pos n else pos 0)
as_pos true n = refl
as_pos false n = refl

all_lined : {A : Type 0} (plan : Plan) (account : A → AccountItem) (of : A → ℕ) (amount : A → ℕ) (year fund : ℕ) (xs : List A) → AllByRecursion (λ x. HasLine plan (account x) (of x)) xs →
    over (is_its plan year fund) (λ n. pos (sum_by (λ x. if counts plan n year (account x) (of x) then amount x else 0) xs)) 0 plan.lines
    ≡ int_sum (λ x. if (of x == year) && ((account x).fund == fund) then pos (amount x) else pos 0) xs
all_lined {A = A} plan account of amount year fund xs known =
    over_same (is_its plan year fund) (λ n. pos (sum_by (λ x. if counts plan n year (account x) (of x) then amount x else 0) xs))
    (λ n. int_sum (λ x. if counts plan n year (account x) (of x) then pos (amount x) else pos 0) xs)
    (λ n. sum_pos (λ x. if counts plan n year (account x) (of x) then amount x else 0) xs
    ∙ sum_same (λ x. pos (if counts plan n year (account x) (of x) then amount x else 0)) (λ x. if counts plan n year (account x) (of x) then pos (amount x) else pos 0)
    (λ x. as_pos (counts plan n year (account x) (of x)) (amount x)) xs) 0 plan.lines
    ∙ over_sum (is_its plan year fund) (λ x n. if counts plan n year (account x) (of x) then pos (amount x) else pos 0) 0 plan.lines xs
    ∙ each xs known
  where
    each : (xs : List A) → AllByRecursion (λ x. HasLine plan (account x) (of x)) xs →
        int_sum (λ x. over (is_its plan year fund) (λ n. if counts plan n year (account x) (of x) then pos (amount x) else pos 0) 0 plan.lines) xs
        ≡ int_sum (λ x. if (of x == year) && ((account x).fund == fund) then pos (amount x) else pos 0) xs
    each [] known = refl
    each (x ∷ xs) known = λ i. counted plan (account x) (of x) year fund (pos (amount x)) known.0 i +ℤ each xs known.1 i

-- the actual amounts of a fund's lines, where each item's account has its line
pub spent_is : (plan : Plan) (h : List Entry) (year fund : ℕ) →
    AllByRecursion (λ (x : Expenditure). HasLine plan x.account x.year) (documents_of plan h).expenditures → AllByRecursion (λ (x : Spending). HasLine plan x.account x.year) (spendings_in plan h) →
    actuals (line_rows plan (sums_of plan h) year fund 0 plan.lines) ≡ int_sum (spent_part year fund) (documents_of plan h).expenditures +ℤ int_sum (other_part year fund) (spendings_in plan h)
spent_is plan h year fund vouchers others =
    of_lines plan h year fund 0 plan.lines
    ∙ over_same (is_its plan year fund) (λ n. pos (expended plan n year h))
    (λ n. pos (expended_sum plan n year (documents_of plan h).expenditures) +ℤ pos (spending_sum plan n year (spendings_in plan h)))
    (λ n. two (expended_sum plan n year (documents_of plan h).expenditures) (spending_sum plan n year (spendings_in plan h))) 0 plan.lines
    ∙ over_plus (is_its plan year fund) (λ n. pos (expended_sum plan n year (documents_of plan h).expenditures)) (λ n. pos (spending_sum plan n year (spendings_in plan h))) 0 plan.lines
    ∙ (λ i. all_lined plan (λ (x : Expenditure). x.account) (λ x. x.year) (λ x. expended_amount x.state x.account.amount) year fund (documents_of plan h).expenditures vouchers i
    +ℤ all_lined plan (λ (x : Spending). x.account) (λ x. x.year) (λ x. x.account.amount) year fund (spendings_in plan h) others i)
  where
    two : (a b : ℕ) → pos (a + b) ≡ pos a +ℤ pos b
    two a b = omega (arith, ints)
