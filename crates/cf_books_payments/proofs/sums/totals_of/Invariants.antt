use Rattle.std.proofs.Common.{◌≡◌, ◌≤◌, ◌*◌, ◌^◌, ◌+ℤ◌, ℕ, drop, unsigned_abs}
use Rattle.cf_books_payments.specs.Entering.{sum_at}
use Rattle.cf_books_payments.specs.Paid.{paid_to}
use Rattle.cf_books_payments.proofs.sums.totals_of.Given as goal

-- what each was paid so far, and what is still to come
abbrev pub invariant-loop-row : goal.invariant-loop-row
invariant-loop-row l = record {
  sums : (vendor : ℕ) → sum_at l.totals vendor +ℤ paid_to vendor (drop l.row-index l.rows) ≡ paid_to vendor l.rows;
  small : (vendor : ℕ) → unsigned_abs (sum_at l.totals vendor) ≤ 2 ^ 90 * l.row-index;
}
