use Rattle.std.proofs.Common.{◌≡◌, take, pos, ◌+ℤ◌, fold}
use Rattle.cf_ledger.proofs.years.sum_through.Given as goal

abbrev pub invariant-loop-cell : goal.invariant-loop-cell
invariant-loop-cell l = l.sum ≡ fold ◌+ℤ◌ (pos 0) (take l.cell-index l.cell-items)
