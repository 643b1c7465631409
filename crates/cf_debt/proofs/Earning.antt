-- Interest fits its numbers.
use Rattle.std.proofs.Common.{ℕ, ◌*◌, ◌/◌, ◌<◌, ◌≤◌, ◌^◌, arith}
use Rattle.cf_base.proofs.Common.{mul-le}
use Rattle.cf_model.proofs.Common.{quotient_le}
use Rattle.cf_base.specs.Common.{most_cents}

product : (owed rate days : ℕ) → owed ≤ most_cents → rate ≤ 10000 → days ≤ 360 → owed * rate * days ≤ 36000000000000000000
product owed rate days l m n = mul-le (owed * rate) days 100000000000000000 360 (mul-le owed rate most_cents 10000 l m) n

pub interest_fits : (owed rate days : ℕ) → owed ≤ most_cents → rate ≤ 10000 → days ≤ 360 → owed * rate * days < 2 ^ 128
interest_fits owed rate days l m n = omega (arith, product owed rate days l m n)

pub interest_small : (owed rate days : ℕ) → owed ≤ most_cents → rate ≤ 10000 → days ≤ 360 → owed * rate * days / 3600000 ≤ most_cents
interest_small owed rate days l m n = quotient_le (owed * rate * days) 36000000000000000000 3600000 (product owed rate days l m n)
