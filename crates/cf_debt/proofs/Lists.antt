-- Lists that are filtered, written or lengthened.
use Rattle.std.proofs.Common.{◌≡◌, ◌≢◌, ℕ, zero, suc, ◌+◌, ◌<◌, Bool, true, false, if◌then◌else◌, List, [], ◌∷◌, ◌++◌, length, map, set, get_or, Option, None, sum_by, refl, sym, ap, ◌∙◌, arith, filter}
use Rattle.cf_base.proofs.Common.{sum_by-cons, AllByRecursion}
use Rattle.cf_model.specs.Common.{Refusal, or_else, first_refusal}
use Rattle.cf_register_parts.proofs.Lists.{false_true}

-- what passes, where nothing does, or one at a place and no other
pub filter_none : {A B : Type 0} (p : B → Bool) (v : A → B) (xs : List A) → ((k : ℕ) (d : A) → k < length xs → p (v (get_or xs k d)) ≡ false) → filter p (map v xs) ≡ []
filter_none p v [] none = refl
filter_none p v (x ∷ xs) none = rw (none zero x (omega arith)) (filter_none p v xs (λ k d l. none (suc k) d (omega arith)))

pub filter_one : {A B : Type 0} (p : B → Bool) (v : A → B) (xs : List A) (k : ℕ) (d : A) → k < length xs → p (v (get_or xs k d)) ≡ true →
    ((j : ℕ) (e : A) → j < length xs → j ≢ k → p (v (get_or xs j e)) ≡ false) → filter p (map v xs) ≡ v (get_or xs k d) ∷ []
filter_one p v [] k d l here others = absurd (omega arith)
filter_one p v (x ∷ xs) zero d l here others = rw here (ap (λ ys. v x ∷ ys) (filter_none p v xs (λ j e jl. others (suc j) e (omega arith) (omega arith))))
filter_one p v (x ∷ xs) (suc k) d l here others =
    rw (others zero x (omega arith) (omega arith)) (filter_one p v xs k d (omega arith) here (λ j e jl n. others (suc j) e (omega arith) (λ m. n (omega arith))))

pub all_each : {A : Type 0} (P : A → Type 0) (xs : List A) → ((k : ℕ) (d : A) → k < length xs → P (get_or xs k d)) → AllByRecursion P xs
all_each P [] each = tt
all_each P (x ∷ xs) each = (each zero x (omega arith), all_each P xs (λ k d l. each (suc k) d (omega arith)))

pub each_all : {A : Type 0} (P : A → Type 0) (xs : List A) → AllByRecursion P xs → (k : ℕ) (d : A) → k < length xs → P (get_or xs k d)
each_all P [] all k d l = absurd (omega arith)
each_all P (x ∷ xs) all zero d l = all.0
each_all P (x ∷ xs) all (suc k) d l = each_all P xs all.1 k d (omega arith)

-- one element is written, of which a sum has more
pub sum_set : {A B : Type 0} (f : B → ℕ) (v : A → B) (xs : List A) (k m : ℕ) (y d : A) → k < length xs → f (v y) ≡ f (v (get_or xs k d)) + m →
    sum_by f (map v (set xs k y)) ≡ sum_by f (map v xs) + m
sum_set f v [] k m y d l e = absurd (omega arith)
sum_set f v (x ∷ xs) zero m y d l e = omega (arith, sum_by-cons f (v y) (map v xs), sum_by-cons f (v x) (map v xs), e)
sum_set f v (x ∷ xs) (suc k) m y d l e =
    omega (arith, sum_by-cons f (v x) (map v (set xs k y)), sum_by-cons f (v x) (map v xs), sum_set f v xs k m y d (omega arith) e)

-- ---- the numbers of the elements that pass

-- a sum over them, where the others have nothing
pub sum_among : {A B : Type 0} (n : A → ℕ) (p : A → Bool) (g : ℕ → ℕ) (f : B → ℕ) (v : A → B) (xs : List A) →
    AllByRecursion (λ x. (g (n x) ≡ f (v x)) × (p x ≡ false → f (v x) ≡ 0)) xs → sum_by g (map n (filter p xs)) ≡ sum_by f (map v xs)
sum_among n p g f v [] all = refl
sum_among n p g f v (x ∷ xs) all = by_test (p x) all.0.0 all.0.1 (sum_among n p g f v xs all.1)
  where
    by_test : (b : Bool) → g (n x) ≡ f (v x) → (b ≡ false → f (v x) ≡ 0) → sum_by g (map n (filter p xs)) ≡ sum_by f (map v xs) →
        sum_by g (map n (if b then x ∷ filter p xs else filter p xs)) ≡ sum_by f (v x ∷ map v xs)
    by_test true same none more = omega (arith, sum_by-cons g (n x) (map n (filter p xs)), sum_by-cons f (v x) (map v xs), same, more)
    by_test false same none more = omega (arith, sum_by-cons f (v x) (map v xs), none refl, more)

-- the first refusal of one of them, where the others have none
pub first_among : {A B : Type 0} (n : A → ℕ) (p : A → Bool) (g : ℕ → Option Refusal) (f : B → Option Refusal) (v : A → B) (xs : List A) →
    AllByRecursion (λ x. (g (n x) ≡ f (v x)) × (p x ≡ false → f (v x) ≡ None)) xs → first_refusal g (map n (filter p xs)) ≡ first_refusal f (map v xs)
first_among n p g f v [] all = refl
first_among n p g f v (x ∷ xs) all = by_test (p x) all.0.0 all.0.1 (first_among n p g f v xs all.1)
  where
    by_test : (b : Bool) → g (n x) ≡ f (v x) → (b ≡ false → f (v x) ≡ None) → first_refusal g (map n (filter p xs)) ≡ first_refusal f (map v xs) →
        first_refusal g (map n (if b then x ∷ filter p xs else filter p xs)) ≡ or_else (f (v x)) (first_refusal f (map v xs))
    by_test true same none more = λ i. or_else (same i) (more i)
    by_test false same none more = more ∙ sym (ap (λ o. or_else o (first_refusal f (map v xs))) (none refl))

-- those that pass another test too
pub filter_among : {A : Type 0} (n : A → ℕ) (p q : A → Bool) (t : ℕ → Bool) (xs : List A) → AllByRecursion (λ x. (t (n x) ≡ q x) × (q x ≡ true → p x ≡ true)) xs →
    filter t (map n (filter p xs)) ≡ map n (filter q xs)
filter_among n p q t [] all = refl
filter_among n p q t (x ∷ xs) all = by_tests (p x) (q x) all.0.0 all.0.1 (filter_among n p q t xs all.1)
  where
    by_tests : (a b : Bool) → t (n x) ≡ b → (b ≡ true → a ≡ true) → filter t (map n (filter p xs)) ≡ map n (filter q xs) →
        filter t (map n (if a then x ∷ filter p xs else filter p xs)) ≡ map n (if b then x ∷ filter q xs else filter q xs)
    by_tests true true e h more = rw e (ap (λ ys. n x ∷ ys) more)
    by_tests true false e h more = rw e more
    by_tests false true e h more = absurd (false_true (h refl))
    by_tests false false e h more = more

-- an element is written that passes as the one before did
pub among_set : {A : Type 0} (n : A → ℕ) (p : A → Bool) (xs : List A) (k : ℕ) (y d : A) → k < length xs → p y ≡ p (get_or xs k d) → n y ≡ n (get_or xs k d) →
    map n (filter p (set xs k y)) ≡ map n (filter p xs)
among_set n p [] k y d l e h = absurd (omega arith)
among_set n p (x ∷ xs) zero y d l e h = rw e (by_test (p x))
  where
    by_test : (b : Bool) → map n (if b then y ∷ filter p xs else filter p xs) ≡ map n (if b then x ∷ filter p xs else filter p xs)
    by_test true = ap (λ m. m ∷ map n (filter p xs)) h
    by_test false = refl
among_set n p (x ∷ xs) (suc k) y d l e h = by_test (p x) (among_set n p xs k y d (omega arith) e h)
  where
    by_test : (b : Bool) → map n (filter p (set xs k y)) ≡ map n (filter p xs) →
        map n (if b then x ∷ filter p (set xs k y) else filter p (set xs k y)) ≡ map n (if b then x ∷ filter p xs else filter p xs)
    by_test true more = ap (λ ys. n x ∷ ys) more
    by_test false more = more

-- an element follows that passes
pub among_push : {A : Type 0} (n : A → ℕ) (p : A → Bool) (xs : List A) (y : A) → p y ≡ true → map n (filter p (xs ++ y ∷ [])) ≡ map n (filter p xs) ++ n y ∷ []
among_push n p [] y e = rw e refl
among_push n p (x ∷ xs) y e = by_test (p x) (among_push n p xs y e)
  where
    by_test : (b : Bool) → map n (filter p (xs ++ y ∷ [])) ≡ map n (filter p xs) ++ n y ∷ [] →
        map n (if b then x ∷ filter p (xs ++ y ∷ []) else filter p (xs ++ y ∷ [])) ≡ map n (if b then x ∷ filter p xs else filter p xs) ++ n y ∷ []
    by_test true more = ap (λ ys. n x ∷ ys) more
    by_test false more = more

pub all_among : {A : Type 0} (n : A → ℕ) (p : A → Bool) (P : ℕ → Type 0) (xs : List A) → AllByRecursion (λ x. P (n x)) xs → AllByRecursion P (map n (filter p xs))
all_among n p P [] all = tt
all_among n p P (x ∷ xs) all = by_test (p x) all.0 (all_among n p P xs all.1)
  where
    by_test : (b : Bool) → P (n x) → AllByRecursion P (map n (filter p xs)) → AllByRecursion P (map n (if b then x ∷ filter p xs else filter p xs))
    by_test true here more = (here, more)
    by_test false here more = more
