-- How often a number stands in a list that gains one.
use Rattle.std.proofs.Common.{◌≡◌, ◌≢◌, ℕ, ◌+◌, ◌≤◌, List, [], ◌∷◌, ◌++◌, ap, subst, arith, ◌==◌, if◌then◌else◌}
use Rattle.cf_base.proofs.Common.{nat_tests}
use native.Mathlib.Decide.{ℕ_discrete}
use Rattle.cf_turns.specs.Lists.{count_of}

pub count_of-other : (n m : ℕ) (ms : List ℕ) → m ≢ n → count_of n (ms ++ m ∷ []) ≡ count_of n ms
count_of-other n m [] ne = grind (arith, nat_tests)
count_of-other n m (x ∷ xs) ne = ap (λ (k : ℕ). (if x == n then 1 else 0) + k) (count_of-other n m xs ne)

count_of-at_most : (n m : ℕ) (ms : List ℕ) → count_of n (ms ++ m ∷ []) ≤ count_of n ms + 1
count_of-at_most n m [] = grind (arith, nat_tests)
count_of-at_most n m (x ∷ xs) = let rest = count_of-at_most n m xs in let here : ℕ = if x == n then 1 else 0 in omega (arith, rest)

-- a list in which each number stands once gains a number that it lacks
pub once_more : (n m : ℕ) (ms : List ℕ) → count_of m ms ≡ 0 → count_of n ms ≤ 1 → count_of n (ms ++ m ∷ []) ≤ 1
once_more n m ms none once = by_case (ℕ_discrete m n)
  where
    by_case : Dec (m ≡ n) → count_of n (ms ++ m ∷ []) ≤ 1
    by_case (yes same) = omega (arith, count_of-at_most n m ms, subst (λ x. count_of x ms ≡ 0) same none)
    by_case (no ne) = omega (arith, count_of-other n m ms ne, once)
