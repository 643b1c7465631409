-- The change of leave in a year.
use Rattle.std.proofs.Common.{◌≡◌, ℕ, ◌-◌, ◌≤◌, if◌then◌else◌, ◌==◌, List, ℤ, pos, ◌+ℤ◌, ◌-ℤ◌, arith}
use Rattle.cf_base.proofs.Common.{ints}
use Rattle.cf_model.specs.Common.{LeaveChange, leave_through, int_sum}
use Rattle.cf_model.proofs.Common.{leave_rows}

-- what is left through the year before, less what is left through the year
pub leave_change : (year : ℕ) (changes : List LeaveChange) → 1 ≤ year →
    leave_through (year - 1) changes -ℤ leave_through year changes ≡ pos 0 -ℤ int_sum (λ c. if c.year == year then c.by else pos 0) changes
leave_change year changes first = less (leave_through year changes) (leave_through (year - 1) changes) (int_sum (λ c. if c.year == year then c.by else pos 0) changes) (leave_rows year changes first)
  where
    less : (a b c : ℤ) → a ≡ b +ℤ c → b -ℤ a ≡ pos 0 -ℤ c
    less a b c e = omega (arith, ints, e)
