-- Each amount of a total is the sum of those of its rows.
use Rattle.std.proofs.Common.{◌≡◌, ℤ, ◌+ℤ◌, List, [], ◌∷◌, ◌++◌, pos, refl, ap, ◌∙◌, arith, append_assoc}
use Rattle.cf_base.proofs.Common.{int_wrap, w128, int_wrap-add_left, ints}
use Rattle.cf_books_month.specs.declared.amounts.Amounts.{Amounts}
use Rattle.cf_books_month.specs.declared.amounts.Column.{Column}
use Rattle.cf_books_month.specs.declared.amounts.Column.TheVariants as column
use Rattle.cf_books_month.specs.declared.rows.MonthRow.{MonthRow}
use Rattle.cf_books_month.specs.Amounts.{held, total}
use Rattle.cf_books_month.specs.Month.{IsTotal}

pub total_is : (c : Column) (amounts : List Amounts) → IsTotal c amounts
unfolding total
total_is column.Budget amounts = refl
total_is column.Month amounts = refl
total_is column.Year amounts = refl
total_is column.OnOrder amounts = refl
total_is column.Held amounts = refl
total_is column.Left amounts = refl
total_is column.MonthAgo amounts = refl
total_is column.YearAgo amounts = refl

regroup : (t a r : ℤ) → (t +ℤ a) +ℤ r ≡ t +ℤ (a +ℤ r)
regroup t a r = omega (arith, ints)

-- one amount more of a sum, held on the way
pub one_more : (t a r : ℤ) → held (held (t +ℤ a) +ℤ r) ≡ held (t +ℤ (a +ℤ r))
one_more t a r = int_wrap-add_left w128 (t +ℤ a) r ∙ ap (int_wrap w128) (regroup t a r)

pub from_zero : (z : ℤ) → held (pos 0 +ℤ z) ≡ held z
from_zero z = let is : pos 0 +ℤ z ≡ z = omega (arith, ints) in ap (int_wrap w128) is

pub to_zero : (z : ℤ) → z +ℤ pos 0 ≡ z
to_zero z = omega (arith, ints)

-- rows one after another
pub joined : (o l d s : List MonthRow) (t u : MonthRow) → (((((o ++ l) ++ d) ++ t ∷ []) ++ s) ++ u ∷ []) ≡ o ++ (l ++ (d ++ (t ∷ (s ++ u ∷ []))))
joined o l d s t u = simp append_assoc
