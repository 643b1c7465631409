use Rattle.std.proofs.Common.{◌≡◌, ◌++◌, drop, map}
use Rattle.cf_recon.specs.Rows.{row_of}
use Rattle.cf_recon.proofs.rows.rows.Given as goal

abbrev pub invariant-loop-amount : goal.invariant-loop-amount
invariant-loop-amount l = l.rows.items ++ map row_of (drop l.amount-index l.amounts) ≡ map row_of l.amounts
