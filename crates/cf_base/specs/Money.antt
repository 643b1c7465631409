-- Amounts of money, in cents.
use Rattle.std.specs.Prelude.{ℕ, Bool, ◌&&◌, nat_le}
use Rattle.cf_base.specs.Limits.{most_cents}

-- an amount that a call may have: from 1 to 10^13 cents (own rule)
abbrev pub is_amount : ℕ → Bool
is_amount n = nat_le 1 n && nat_le n most_cents
