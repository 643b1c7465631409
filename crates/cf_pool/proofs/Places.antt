-- The place of an id among rows by rising id.
use Rattle.std.proofs.Common.{◌≡◌, ◌≢◌, ℕ, zero, suc, ◌<◌, ◌≤◌, true, true≢false, inl, inr, ◌==◌, nat_lt, List, [], ◌∷◌, length, get_or, Some, None, Result, Ok, Err, position, refl, sym, ap, ◌∙◌, arith, ltb-true, lt-ltb, eq-eqb, ne_eqb, nat_cmp}
use Rattle.cf_base.proofs.Common.{list_all, position_or_len, result_ok, IsSearchInRange, IsBinarySearchResult, IsNonDecreasingBy, ordering_index, and_parts, cases_lt, nat_tests, ranked, common_steps, position_or_len_is, fails_before_first}
use Rattle.cf_chart.specs.Common.{is_rising}

above_all : {A : Type 0} → (id : A → ℕ) (i : ℕ) (xs : List A) (k : ℕ) (d : A) → list_all (λ y. nat_lt i (id y)) xs ≡ true → k < length xs → i < id (get_or xs k d)
above_all id i [] k d h l = absurd (omega arith)
above_all id i (x ∷ xs) zero d h l = ltb-true i (id x) (and_parts (nat_lt i (id x)) (list_all (λ y. nat_lt i (id y)) xs) h).0
above_all id i (x ∷ xs) (suc k) d h l = above_all id i xs k d (and_parts (nat_lt i (id x)) (list_all (λ y. nat_lt i (id y)) xs) h).1 (omega (arith, l))

pub rises : {A : Type 0} → (id : A → ℕ) (xs : List A) (j k : ℕ) (d : A) → is_rising id xs ≡ true → j < k → k < length xs → id (get_or xs j d) < id (get_or xs k d)
rises id [] j k d h l m = absurd (omega arith)
rises id (x ∷ xs) j zero d h l m = absurd (omega arith)
rises id (x ∷ xs) zero (suc k) d h l m = above_all id (id x) xs k d (and_parts (list_all (λ y. nat_lt (id x) (id y)) xs) (is_rising id xs) h).0 (omega (arith, m))
rises id (x ∷ xs) (suc j) (suc k) d h l m = rises id xs j k d (and_parts (list_all (λ y. nat_lt (id x) (id y)) xs) (is_rising id xs) h).1 (omega (arith, l)) (omega (arith, m))

-- two places have two ids
pub apart : {A : Type 0} → (id : A → ℕ) (xs : List A) (j k : ℕ) (d : A) → is_rising id xs ≡ true → j < length xs → k < length xs → j ≢ k → id (get_or xs j d) ≢ id (get_or xs k d)
apart id xs j k d h l m other same =
    elim (cases_lt j k) [
      | inl less ↦ omega (arith, rises id xs j k d h less m, same)
      | inr more ↦ omega (arith, rises id xs k j d h (omega (arith, more, other)) l, same)
    ]

-- the comparisons with an id rise, as a binary search asks
ids_rise : {A : Type 0} → (id : A → ℕ) (xs : List A) (i : ℕ) → is_rising id xs ≡ true → IsNonDecreasingBy (λ y. ordering_index (nat_cmp (id y) i)) xs
ids_rise id xs i h = λ j k d le l.
    let keys : id (get_or xs j d) ≤ id (get_or xs k d) = grind (arith, rises id xs j k d h, λ (same : j ≡ k). ap (λ q. id (get_or xs q d)) same) in
    grind (arith, nat_tests)

found : {A : Type 0} → (id : A → ℕ) (xs : List A) (i at : ℕ) (d : A) → is_rising id xs ≡ true → at < length xs → id (get_or xs at d) ≡ i → Some at ≡ position (λ y. id y == i) xs
found id xs i at d h l e =
    let first = position_or_len_is (λ y. id y == i) xs at d (omega (arith, l))
    (λ k below. ne_eqb (id (get_or xs k d)) i (λ same. omega (arith, rises id xs k at d h below l, same, e)))
    (λ inside. eq-eqb (id (get_or xs at d)) i e) in
    rw (first, lt-ltb at (length xs) l) refl

missing : {A : Type 0} → (id : A → ℕ) (xs : List A) (i : ℕ) (d : A) → ((k : ℕ) → k < length xs → id (get_or xs k d) ≢ i) → None ≡ position (λ y. id y == i) xs
missing id xs i d other =
    let past = position_or_len_is (λ y. id y == i) xs (length xs) d (omega arith) (λ k below. ne_eqb (id (get_or xs k d)) i (other k below)) (λ inside. absurd (omega (arith, inside))) in
    grind (arith, common_steps, past)

-- what a binary search by id answers is the place of that id, or that it has none
pub searched : {A : Type 0} → (id : A → ℕ) (xs : List A) (i : ℕ) (r : Result ℕ ℕ) → is_rising id xs ≡ true → IsSearchInRange r (length xs)
    → IsBinarySearchResult (λ y. nat_cmp (id y) i) xs r → result_ok r ≡ position (λ y. id y == i) xs
searched id [] i (Ok at) h in_range equal = absurd (omega (arith, in_range))
searched id [] i (Err at) h in_range parted = refl
searched id (x ∷ xs) i (Ok at) h in_range equal = found id (x ∷ xs) i at x h in_range (ranked _ i _ (sym (equal x)))
searched id (x ∷ xs) i (Err at) h in_range parted =
    let parts = parted (ids_rise id (x ∷ xs) i h) in
    missing id (x ∷ xs) i x (λ k below same. grind (arith, nat_tests, parts.0 k x, parts.1 k x, below, same))

-- where there is no place, no row has the id
pub fails_at_none : {A : Type 0} → (id : A → ℕ) (xs : List A) (i k : ℕ) (d : A) → position (λ y. id y == i) xs ≡ None → k < length xs → id (get_or xs k d) ≢ i
fails_at_none id xs i k d none l same =
    let past : length xs ≤ position_or_len (λ y. id y == i) xs = grind (arith, common_steps, none) in
    true≢false (sym (eq-eqb (id (get_or xs k d)) i same) ∙ fails_before_first (λ y. id y == i) xs k d (omega (arith, l, past)))
