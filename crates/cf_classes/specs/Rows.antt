-- Rows of one amount.
use Rattle.std.specs.Prelude.{ℕ, ℤ, List}
use Rattle.std.specs.Borrow.{Bor}
use Rattle.cf_model.specs.Common.{Row}
use Rattle.cf_statements.specs.Sums.{single}

abbrev pub row_of : Bor (List ℕ) × ℤ → Row
row_of x = single (x.0).now x.1
