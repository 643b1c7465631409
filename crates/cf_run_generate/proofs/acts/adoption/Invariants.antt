use Rattle.std.proofs.Common.{◌≡◌, ◌+◌, ℕ, map}
use Rattle.cf_base.proofs.Common.{range_with_len}
use Rattle.cf_run_generate.specs.Acts.{line_amount}
use Rattle.cf_run_generate.proofs.acts.adoption.Given as goal

abbrev pub invariant-loop-line : goal.invariant-loop-line
invariant-loop-line l = (k : ℕ) × (l.first + k ≡ l.line) × (l.lines ≡ map line_amount (range_with_len l.first k))
