-- The worked rows of a pool.
use Rattle.std.proofs.Common.{◌≡◌, ◌⊎◌, inl, inr, ℕ, zero, suc, ◌+◌, ◌<◌, List, [], ◌∷◌, refl, arith, lit<}
use Rattle.std.specs.Fmt.{digits}
use Rattle.json.specs.Print.{escape_byte}
use Rattle.cf_base.specs.Common.{AreShares, HasFloor, HasMore, IsAhead}
use Rattle.cf_pool.specs.Balances.{day_sum}
use Rattle.cf_json_members.specs.Objects.{text_of}
use Rattle.cf_pool.specs.Worked.{SharesToTheCent, WeighsDailyBalances, WritesReceipts}

pub weighs_daily_balances : WeighsDailyBalances
unfolding day_sum
weighs_daily_balances = (refl, refl, refl, refl, refl, refl)

pub writes_receipts : WritesReceipts
unfolding text_of escape_byte digits
writes_receipts = refl

-- ---- the shares

abbrev by : List ℕ
by = 160000 ∷ 0 ∷ 310000 ∷ []

abbrev cents : List ℕ
cents = 34 ∷ 0 ∷ 66 ∷ []

each : (i : ℕ) → i < 3 → HasFloor 100 470000 by cents i ⊎ HasMore 100 470000 by cents i
each zero lt = inl refl
each (suc zero) lt = inl refl
each (suc (suc zero)) lt = inr refl
each (suc (suc (suc i))) lt = absurd (omega (arith, lt))

ahead : (i j : ℕ) → i < 3 → j < 3 → HasFloor 100 470000 by cents i → HasMore 100 470000 by cents j → IsAhead 100 470000 by j i
ahead i zero lt_i lt_j floor more = let is : 34 ≡ 35 = more in absurd (omega (arith, is))
ahead i (suc zero) lt_i lt_j floor more = let is : 0 ≡ 1 = more in absurd (omega (arith, is))
ahead zero (suc (suc zero)) lt_i lt_j floor more = let less : 20000 < 450000 = lit< tt in inl less
ahead (suc zero) (suc (suc zero)) lt_i lt_j floor more = let less : 0 < 450000 = lit< tt in inl less
ahead (suc (suc zero)) (suc (suc zero)) lt_i lt_j floor more = let is : 66 ≡ 65 = floor in absurd (omega (arith, is))
ahead (suc (suc (suc i))) (suc (suc zero)) lt_i lt_j floor more = absurd (omega (arith, lt_i))
ahead i (suc (suc (suc j))) lt_i lt_j floor more = absurd (omega (arith, lt_j))

-- neither the first nor the second fund is ahead of the third
first_behind : IsAhead 100 470000 by 0 2 → ⊥
first_behind (inl less) = let is : 450000 < 20000 = less in omega (arith, is)
first_behind (inr same) = let is : 450000 ≡ 20000 = same.0 in omega (arith, is)

second_behind : IsAhead 100 470000 by 1 2 → ⊥
second_behind (inl less) = let is : 450000 < 0 = less in omega (arith, is)
second_behind (inr same) = let is : 450000 ≡ 0 = same.0 in omega (arith, is)

three : (a b c : ℕ) → a ≡ 34 → b ≡ 0 → c ≡ 66 → a ∷ b ∷ c ∷ [] ≡ cents
three a b c p q r = λ i. p i ∷ q i ∷ r i ∷ []

by_parts : (a b c : ℕ) → AreShares 100 by (a ∷ b ∷ c ∷ []) → (a ≡ 34) ⊎ (a ≡ 35) → (b ≡ 0) ⊎ (b ≡ 1) → (c ≡ 65) ⊎ (c ≡ 66) → 0 + a + b + c ≡ 100 → a ∷ b ∷ c ∷ [] ≡ cents
by_parts a b c s (inl p) (inl q) (inr r) whole = three a b c p q r
by_parts a b c s (inr p) (inl q) (inl r) whole = absurd (first_behind (s.fair.order 2 0 (lit< tt) (lit< tt) r p))
by_parts a b c s (inl p) (inr q) (inl r) whole = absurd (second_behind (s.fair.order 2 1 (lit< tt) (lit< tt) r q))
by_parts a b c s (inl p) (inl q) (inl r) whole = absurd (omega (arith, p, q, r, whole))
by_parts a b c s (inl p) (inr q) (inr r) whole = absurd (omega (arith, p, q, r, whole))
by_parts a b c s (inr p) (inl q) (inr r) whole = absurd (omega (arith, p, q, r, whole))
by_parts a b c s (inr p) (inr q) (inl r) whole = absurd (omega (arith, p, q, r, whole))
by_parts a b c s (inr p) (inr q) (inr r) whole = absurd (omega (arith, p, q, r, whole))

no_other : (shares : List ℕ) → AreShares 100 by shares → shares ≡ cents
no_other (a ∷ b ∷ c ∷ []) s = by_parts a b c s (s.fair.each 0 (lit< tt)) (s.fair.each 1 (lit< tt)) (s.fair.each 2 (lit< tt)) s.whole
no_other [] s = absurd (omega (arith, s.fair.count))
no_other (a ∷ []) s = absurd (omega (arith, s.fair.count))
no_other (a ∷ b ∷ []) s = absurd (omega (arith, s.fair.count))
no_other (a ∷ b ∷ c ∷ d ∷ rest) s = absurd (omega (arith, s.fair.count))

pub shares_to_the_cent : SharesToTheCent
shares_to_the_cent = (record { fair = record { count = refl; each = each; order = ahead }; whole = refl }, no_other)
