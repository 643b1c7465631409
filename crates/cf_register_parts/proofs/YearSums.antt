-- Sums of the first so many years, and of the years up to a year.
use Rattle.std.proofs.Common.{◌≡◌, ℕ, zero, suc, ◌+◌, ◌-◌, ◌<◌, if◌then◌else◌, nat_lt, List, [], ◌∷◌, length, take, set, get_or, sum, sym, ap, ◌∙◌, arith}
use Rattle.cf_base.proofs.Common.{nat_tests, sum_by-cons}

abbrev self : ℕ → ℕ
self x = x

first_more : (x a : ℕ) (xs : List ℕ) → sum ((x + a) ∷ xs) ≡ sum (x ∷ xs) + a
first_more x a xs = sum_by-cons self (x + a) xs ∙ omega (arith, sum_by-cons self x xs)

later_more : (x m : ℕ) (xs ys : List ℕ) → sum ys ≡ sum xs + m → sum (x ∷ ys) ≡ sum (x ∷ xs) + m
later_more x m xs ys e = sum_by-cons self x ys ∙ omega (arith, e, sum_by-cons self x xs)

none_before : (k a : ℕ) → (if nat_lt k 0 then a else 0) ≡ 0
none_before k a = grind (arith, nat_tests)

first_before : (n a : ℕ) → (if nat_lt 0 (suc n) then a else 0) ≡ a
first_before n a = grind (arith, nat_tests)

both_before : (k n a : ℕ) → (if nat_lt (suc k) (suc n) then a else 0) ≡ (if nat_lt k n then a else 0)
both_before k n a = grind (arith, nat_tests)

-- the first so many elements, of which one is more
pub sum-take-set : (xs : List ℕ) (k n a : ℕ) → k < length xs → sum (take n (set xs k (get_or xs k 0 + a))) ≡ sum (take n xs) + (if nat_lt k n then a else 0)
sum-take-set [] k n a l = absurd (omega arith)
sum-take-set (x ∷ xs) zero zero a l = sym (ap (λ m. 0 + m) (none_before zero a))
sum-take-set (x ∷ xs) zero (suc n) a l = first_more x a (take n xs) ∙ ap (λ m. sum (x ∷ take n xs) + m) (sym (first_before n a))
sum-take-set (x ∷ xs) (suc k) zero a l = sym (ap (λ m. 0 + m) (none_before (suc k) a))
sum-take-set (x ∷ xs) (suc k) (suc n) a l =
    later_more x (if nat_lt k n then a else 0) (take n xs) (take n (set xs k (get_or xs k 0 + a))) (sum-take-set xs k n a (omega arith))
    ∙ ap (λ m. sum (x ∷ take n xs) + m) (sym (both_before k n a))
