-- What a history says of vouchers and years, as sets of numbers.
use Rattle.std.specs.Prelude.{◌≡◌, ◌≢◌, ◌==◌, Bool, false, ℕ, ◌<◌, ◌^◌, List, [], ◌∷◌, Option, Some, None}
use Rattle.std.specs.BTreeSet.{contains}
use Rattle.std.specs.Ordering.{nat_cmp}
use Rattle.cf_model.specs.Common.{Act, Close, Entry, is_year_closed}
use Rattle.cf_calls.specs.declared.acts.Period.TheVariants as period
use Rattle.cf_claims.specs.Claims.{claim_key, has_number, is_claimed, paid_numbers}
use Rattle.cf_claims.specs.declared.marks.Marks.{Marks}

pub record AreMarks (m : Marks) (history : List Entry) : Type 0 where
  pub paid : (n : ℕ) → contains nat_cmp m.paid n ≡ has_number n (paid_numbers history)
  pub closed : (n : ℕ) → contains nat_cmp m.closed n ≡ is_year_closed history n
  pub claimed : (n : ℕ) → n < 2 ^ 32 → contains nat_cmp m.claimed n ≡ is_claimed history n

-- the years that an act closes
abbrev pub years_of : Act → List ℕ
years_of (Close (period.Year y)) = y ∷ []
years_of _ = []

-- the number, below 2^32, whose claim a key is
abbrev pub IsClaimNumber : List ℕ → Option ℕ → Type 0
IsClaimNumber key (Some n) = key ≡ claim_key n
IsClaimNumber key None = (n : ℕ) → n < 2 ^ 32 → key ≢ claim_key n

abbrev pub is_this : ℕ → Option ℕ → Bool
is_this n None = false
is_this n (Some m) = m == n
