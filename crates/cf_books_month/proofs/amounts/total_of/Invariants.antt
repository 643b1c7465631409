use Rattle.std.proofs.Common.{◌≡◌, ◌+ℤ◌, drop}
use Rattle.cf_model.specs.Common.{int_sum}
use Rattle.cf_books_month.specs.Amounts.{amount_of, held, total_of}
use Rattle.cf_books_month.proofs.amounts.total_of.Given as goal

-- what was summed, and what is still to come
abbrev pub invariant-loop-one : goal.invariant-loop-one
invariant-loop-one l = held (l.total.cents +ℤ int_sum (amount_of l.column) (drop l.one-index l.amounts)) ≡ total_of l.column l.amounts
