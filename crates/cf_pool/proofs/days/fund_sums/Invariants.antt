use Rattle.std.proofs.Common.{◌≡◌, take}
use Rattle.cf_pool.proofs.Tables.{table}
use Rattle.cf_pool.proofs.days.fund_sums.Given as goal

abbrev pub invariant-loop-change : goal.invariant-loop-change
invariant-loop-change l = l.sums.items ≡ table (take l.change-index l.moves) l.month l.length l.funds
