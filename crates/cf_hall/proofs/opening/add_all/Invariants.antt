use Rattle.std.proofs.Common.{◌≡◌, ◌+◌, ◌<◌, ◌≤◌, ℕ}
use Rattle.cf_hall_names.specs.Lists.{total_at}
use Rattle.cf_hall.proofs.opening.add_all.Given as goal

-- the counts before this one have theirs
abbrev pub invariant-loop-k : goal.invariant-loop-k
invariant-loop-k l = record {
  added : (n : ℕ) → n < l.k → total_at l.counts n ≡ total_at l.initial.counts n + total_at l.more n;
  left : (n : ℕ) → l.k ≤ n → total_at l.counts n ≡ total_at l.initial.counts n;
}
