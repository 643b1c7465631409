-- The sums by fiscal year, and by closed month.
use Rattle.std.proofs.Common.{◌≡◌, ℕ, zero, suc, ◌+◌, ◌-◌, ◌*◌, ◌<◌, ◌≤◌, List, [], ◌∷◌, ◌++◌, length, set, get_or, sum_by, ◌∙◌, arith}
use Rattle.cf_base.proofs.Common.{sum_by-cons}
use Rattle.cf_register_parts.specs.Years.{AreYears, cell_of, with_cell}
use Rattle.cf_register_parts.proofs.Cells.{year_is, years_same, years_set}
use Rattle.cf_model.specs.Common.{Asset}
use Rattle.cf_base.specs.Common.{most_cents}

-- ---- sums

pub sum_push : {A : Type 0} (f : A → ℕ) (xs : List A) (y : A) → sum_by f (xs ++ y ∷ []) ≡ sum_by f xs + f y
sum_push f [] y = sum_by-cons f y [] ∙ omega arith
sum_push f (x ∷ xs) y = omega (arith, sum_by-cons f x (xs ++ y ∷ []), sum_by-cons f x xs, sum_push f xs y)

-- one element is written
pub sum_set : {A : Type 0} (f : A → ℕ) (xs : List A) (k : ℕ) (y d : A) → k < length xs → sum_by f (set xs k y) + f (get_or xs k d) ≡ sum_by f xs + f y
sum_set f [] k y d l = absurd (omega arith)
sum_set f (x ∷ xs) zero y d l = omega (arith, sum_by-cons f x xs, sum_by-cons f y xs)
sum_set f (x ∷ xs) (suc k) y d l = omega (arith, sum_by-cons f x xs, sum_by-cons f x (set xs k y), sum_set f xs k y d (omega arith))

pub sum_small : {A : Type 0} (f : A → ℕ) (xs : List A) → ((k : ℕ) (d : A) → k < length xs → f (get_or xs k d) ≤ most_cents) → sum_by f xs ≤ length xs * most_cents
sum_small f [] all = omega arith
sum_small f (x ∷ xs) all = omega (arith, sum_by-cons f x xs, all zero x (omega arith), sum_small f xs (λ k d l. all (suc k) d (omega arith)))

-- ---- the sums of the years, after an asset more

pub push_adds : (f : ℕ → Asset → ℕ) (xs : List Asset) (a : Asset) (cells : List ℕ) (at amount : ℕ) → AreYears (λ y. sum_by (f y) xs) cells → 1970 ≤ at → at ≤ 2200 → f at a ≡ amount → ((y : ℕ) → (y ≡ at → ⊥) → f y a ≡ 0) →
    AreYears (λ y. sum_by (f y) (xs ++ a ∷ [])) (with_cell cells at (cell_of cells at + amount))
push_adds f xs a cells at amount are from to here others =
    years_set (λ y. sum_by (f y) xs) (λ y. sum_by (f y) (xs ++ a ∷ [])) cells at (cell_of cells at + amount) are from to
    (omega (arith, sum_push (f at) xs a, year_is (λ y. sum_by (f y) xs) cells at are from to, here)) (λ y apart. omega (arith, sum_push (f y) xs a, others y apart))

pub push_same : (f : ℕ → Asset → ℕ) (xs : List Asset) (a : Asset) (cells : List ℕ) → AreYears (λ y. sum_by (f y) xs) cells → ((y : ℕ) → f y a ≡ 0) → AreYears (λ y. sum_by (f y) (xs ++ a ∷ [])) cells
push_same f xs a cells are none = years_same (λ y. sum_by (f y) xs) (λ y. sum_by (f y) (xs ++ a ∷ [])) cells are (λ y. omega (arith, sum_push (f y) xs a, none y))

-- ---- .. and after one is in another stage

pub set_same : (f : ℕ → Asset → ℕ) (xs : List Asset) (k : ℕ) (a d : Asset) (cells : List ℕ) → k < length xs → AreYears (λ y. sum_by (f y) xs) cells → ((y : ℕ) → f y a ≡ f y (get_or xs k d)) →
    AreYears (λ y. sum_by (f y) (set xs k a)) cells
set_same f xs k a d cells l are same = years_same (λ y. sum_by (f y) xs) (λ y. sum_by (f y) (set xs k a)) cells are (λ y. omega (arith, sum_set (f y) xs k a d l, same y))

pub set_adds : (f : ℕ → Asset → ℕ) (xs : List Asset) (k : ℕ) (a d : Asset) (cells : List ℕ) (at amount : ℕ) → k < length xs → AreYears (λ y. sum_by (f y) xs) cells → 1970 ≤ at → at ≤ 2200 →
    f at a ≡ f at (get_or xs k d) + amount → ((y : ℕ) → (y ≡ at → ⊥) → f y a ≡ f y (get_or xs k d)) → AreYears (λ y. sum_by (f y) (set xs k a)) (with_cell cells at (cell_of cells at + amount))
set_adds f xs k a d cells at amount l are from to here others =
    years_set (λ y. sum_by (f y) xs) (λ y. sum_by (f y) (set xs k a)) cells at (cell_of cells at + amount) are from to
    (omega (arith, sum_set (f at) xs k a d l, year_is (λ y. sum_by (f y) xs) cells at are from to, here)) (λ y apart. omega (arith, sum_set (f y) xs k a d l, others y apart))

pub set_takes : (f : ℕ → Asset → ℕ) (xs : List Asset) (k : ℕ) (a d : Asset) (cells : List ℕ) (at amount : ℕ) → k < length xs → AreYears (λ y. sum_by (f y) xs) cells → 1970 ≤ at → at ≤ 2200 →
    f at a + amount ≡ f at (get_or xs k d) → ((y : ℕ) → (y ≡ at → ⊥) → f y a ≡ f y (get_or xs k d)) → AreYears (λ y. sum_by (f y) (set xs k a)) (with_cell cells at (cell_of cells at - amount))
set_takes f xs k a d cells at amount l are from to here others =
    years_set (λ y. sum_by (f y) xs) (λ y. sum_by (f y) (set xs k a)) cells at (cell_of cells at - amount) are from to
    (omega (arith, sum_set (f at) xs k a d l, year_is (λ y. sum_by (f y) xs) cells at are from to, here)) (λ y apart. omega (arith, sum_set (f y) xs k a d l, others y apart))

-- what an asset adds to a year is there
pub enough_there : (f : ℕ → Asset → ℕ) (xs : List Asset) (k : ℕ) (d : Asset) (cells : List ℕ) (at amount : ℕ) → k < length xs → AreYears (λ y. sum_by (f y) xs) cells → 1970 ≤ at → at ≤ 2200 →
    f at (get_or xs k d) ≡ amount → amount ≤ cell_of cells at
enough_there f xs k d cells at amount l are from to is = omega (arith, sum_set (f at) xs k d d l, year_is (λ y. sum_by (f y) xs) cells at are from to, is, within (f at) xs k d l)
  where
    within : (g : Asset → ℕ) (ys : List Asset) (k : ℕ) (d : Asset) → k < length ys → g (get_or ys k d) ≤ sum_by g ys
    within g [] k d l = absurd (omega arith)
    within g (y ∷ ys) zero d l = omega (arith, sum_by-cons g y ys)
    within g (y ∷ ys) (suc k) d l = omega (arith, sum_by-cons g y ys, within g ys k d (omega arith))
