use Rattle.std.proofs.Common.{◌≡◌, ◌++◌, drop}
use Rattle.cf_books.specs.Summary.{laters_text}
use Rattle.cf_books.proofs.summary.put_laters.Given as goal

abbrev pub invariant-loop-fund : goal.invariant-loop-fund
invariant-loop-fund l = l.out.items ++ laters_text (drop l.fund-index l.funds) ≡ l.initial.out.items ++ laters_text l.funds
