-- Sums of posts.
use Rattle.std.proofs.Common.{◌≡◌, ℕ, zero, suc, ◌+◌, ◌-◌, ◌<◌, ◌≤◌, ◌^◌, ◌⊎◌, inl, inr, Bool, true, false, if◌then◌else◌, ◌==◌, ◌&&◌, nat_le, List, [], ◌∷◌, ◌++◌, length, get_or, fold, ℤ, pos, ◌+ℤ◌, unsigned_abs, FitsSigned, refl, sym, ap, ◌∙◌, arith, add-one, lit<, All}
use Rattle.cf_base.proofs.Common.{leb_tells, eqb_tells, ints, w128, AllByRecursion, recursion_from_All, fold_more, sum_by-cons, get_or_past, take_all}
use Rattle.cf_ledger.specs.declared.post.Post.{Post}
use Rattle.cf_ledger.specs.Posts.{sum_where, sizes, IsInYears}
use Rattle.cf_ledger.specs.Years.{sum_of, sum_through, StandsFor}

abbrev pub part : (Post → Bool) → Post → ℤ
part test p = if test p then p.amount else pos 0

-- sums of lists that stand one after another
pub sum_append : (test : Post → Bool) (xs ys : List Post) → sum_where test (xs ++ ys) ≡ sum_where test xs +ℤ sum_where test ys
sum_append test [] ys = none_first (sum_where test ys)
  where
    none_first : (a : ℤ) → a ≡ pos 0 +ℤ a
    none_first a = omega (arith, ints)
sum_append test (x ∷ xs) ys = ap (λ s. part test x +ℤ s) (sum_append test xs ys) ∙ regroup (part test x) (sum_where test xs) (sum_where test ys)
  where
    regroup : (a b c : ℤ) → a +ℤ (b +ℤ c) ≡ (a +ℤ b) +ℤ c
    regroup a b c = omega (arith, ints)

-- one post more
pub sum_push : (test : Post → Bool) (posts : List Post) (p : Post) → sum_where test (posts ++ p ∷ []) ≡ sum_where test posts +ℤ part test p
sum_push test posts p = sum_append test posts (p ∷ []) ∙ ap (λ a. sum_where test posts +ℤ a) (none_more (part test p))
  where
    none_more : (a : ℤ) → a +ℤ pos 0 ≡ a
    none_more a = omega (arith, ints)

split_at : (n m : ℕ) → (n < m) ⊎ (m ≤ n)
split_at n m = grind arith

-- ---- sums by year

-- a year is before, in or after the next one
abbrev Order : Bool → Bool → Bool → Type 0
Order low high at = ((low ≡ true) × ((high ≡ true) × (at ≡ false))) ⊎ (((low ≡ false) × ((high ≡ true) × (at ≡ true))) ⊎ ((low ≡ false) × ((high ≡ false) × (at ≡ false))))

orders : (y k : ℕ) → Order (nat_le y k) (nat_le y (k + 1)) (y == k + 1)
orders y k = by_tests (leb_tells y k) (leb_tells y (k + 1)) (eqb_tells y (k + 1))
  where
    by_tests : ((nat_le y k ≡ true) × (y ≤ k)) ⊎ ((nat_le y k ≡ false) × (k < y)) → ((nat_le y (k + 1) ≡ true) × (y ≤ k + 1)) ⊎ ((nat_le y (k + 1) ≡ false) × (k + 1 < y)) →
        (((y == k + 1) ≡ true) × (y ≡ k + 1)) ⊎ (((y == k + 1) ≡ false) × (y ≡ k + 1 → ⊥)) → Order (nat_le y k) (nat_le y (k + 1)) (y == k + 1)
    by_tests (inl a) (inl b) (inl c) = absurd (omega arith)
    by_tests (inl a) (inl b) (inr c) = inl (a.0, (b.0, c.0))
    by_tests (inl a) (inr b) c = absurd (omega arith)
    by_tests (inr a) (inl b) (inl c) = inr (inl (a.0, (b.0, c.0)))
    by_tests (inr a) (inl b) (inr c) = absurd (omega arith)
    by_tests (inr a) (inr b) (inl c) = absurd (omega arith)
    by_tests (inr a) (inr b) (inr c) = inr (inr (a.0, (b.0, c.0)))

year_part : (b : Bool) (a : ℤ) (y k : ℕ) → (if b && nat_le y (k + 1) then a else pos 0) ≡ (if b && nat_le y k then a else pos 0) +ℤ (if b && (y == k + 1) then a else pos 0)
year_part true a y k = by_order (nat_le y k) (nat_le y (k + 1)) (y == k + 1) (orders y k)
  where
    by_order : (low high at : Bool) → Order low high at → (if high then a else pos 0) ≡ (if low then a else pos 0) +ℤ (if at then a else pos 0)
    by_order low high at (inl (e, (f, g))) = rw (e, f, g) (omega (arith, ints))
    by_order low high at (inr (inl (e, (f, g)))) = rw (e, f, g) (omega (arith, ints))
    by_order low high at (inr (inr (e, (f, g)))) = rw (e, f, g) refl
year_part false a y k = refl

-- what is through a year is what was through the year before and what is in it
pub next_year : (test : Post → Bool) (posts : List Post) (k : ℕ) →
    sum_where (λ p. test p && nat_le p.year (k + 1)) posts ≡ sum_where (λ p. test p && nat_le p.year k) posts +ℤ sum_where (λ p. test p && (p.year == k + 1)) posts
next_year test [] k = refl
next_year test (p ∷ posts) k =
    (λ i. year_part (test p) p.amount p.year k i +ℤ next_year test posts k i)
    ∙ cross (part (λ p. test p && nat_le p.year k) p) (part (λ p. test p && (p.year == k + 1)) p) (sum_where (λ p. test p && nat_le p.year k) posts) (sum_where (λ p. test p && (p.year == k + 1)) posts)
  where
    cross : (a b c d : ℤ) → (a +ℤ b) +ℤ (c +ℤ d) ≡ (a +ℤ c) +ℤ (b +ℤ d)
    cross a b c d = omega (arith, ints)

-- no post is before the first year
none_before : (b : Bool) (a : ℤ) (y k : ℕ) → k < y → (if b && nat_le y k then a else pos 0) ≡ pos 0
none_before true a y k l = by_test (leb_tells y k)
  where
    by_test : ((nat_le y k ≡ true) × (y ≤ k)) ⊎ ((nat_le y k ≡ false) × (k < y)) → (if nat_le y k then a else pos 0) ≡ pos 0
    by_test (inl h) = absurd (omega arith)
    by_test (inr h) = rw h.0 refl
none_before false a y k l = refl

before : (test : Post → Bool) (posts : List Post) (k : ℕ) → k < 1971 → AllByRecursion IsInYears posts → sum_where (λ p. test p && nat_le p.year k) posts ≡ pos 0
before test [] k l h = refl
before test (p ∷ posts) k l h =
    let first : 1971 ≤ p.year = h.0.first in
    λ i. none_before (test p) p.amount p.year k (omega arith) i +ℤ before test posts k l h.1 i

pub before_first : (test : Post → Bool) (posts : List Post) (k : ℕ) → k < 1971 → All IsInYears posts → sum_where (λ p. test p && nat_le p.year k) posts ≡ pos 0
before_first test posts k l h = before test posts k l (recursion_from_All IsInYears posts h)

-- ---- the cells stand for the posts

one_cell : (cells : List ℤ) (n : ℕ) → sum_of (suc n) cells ≡ sum_of n cells +ℤ get_or cells n (pos 0)
one_cell cells n = by_size (split_at n (length cells))
  where
    none_more : (a : ℤ) → a ≡ a +ℤ pos 0
    none_more a = omega (arith, ints)

    by_size : (n < length cells) ⊎ (length cells ≤ n) → sum_of (suc n) cells ≡ sum_of n cells +ℤ get_or cells n (pos 0)
    by_size (inl l) = ap (λ m. sum_of m cells) (sym (add-one n)) ∙ fold_more ◌+ℤ◌ (pos 0) cells n (pos 0) l
    by_size (inr l) = rw (take_all (suc n) cells (omega arith), take_all n cells l, get_or_past cells n (pos 0) l) (none_more (fold ◌+ℤ◌ (pos 0) cells))

-- the sum of the first cells is what is through the last of their years
pub stands_sum : (test : Post → Bool) (posts : List Post) (cells : List ℤ) → All IsInYears posts → StandsFor test posts cells → (n : ℕ) →
    sum_of n cells ≡ sum_where (λ p. test p && nat_le p.year (n + 1969)) posts
stands_sum test posts cells years stands zero = sym (before_first test posts 1969 (lit< tt) years)
stands_sum test posts cells years stands (suc n) =
    let year : n + 1970 ≡ (n + 1969) + 1 = omega arith in
    let next : suc n + 1969 ≡ (n + 1969) + 1 = omega arith in
    one_cell cells n
    ∙ (λ i. stands_sum test posts cells years stands n i +ℤ (stands n ∙ ap (λ y. sum_where (λ p. test p && (p.year == y)) posts) year) i)
    ∙ sym (next_year test posts (n + 1969))
    ∙ ap (λ y. sum_where (λ p. test p && nat_le p.year y) posts) (sym next)

pub stands_through : (test : Post → Bool) (posts : List Post) (cells : List ℤ) → All IsInYears posts → StandsFor test posts cells → (year : ℕ) →
    sum_through cells year ≡ sum_where (λ p. test p && nat_le p.year year) posts
stands_through test posts cells years stands year = by_size (split_at year 1969)
  where
    by_size : (year < 1969) ⊎ (1969 ≤ year) → sum_through cells year ≡ sum_where (λ p. test p && nat_le p.year year) posts
    by_size (inl l) =
        let none : year - 1969 ≡ 0 = omega arith in
        ap (λ n. sum_of n cells) none ∙ sym (before_first test posts year (omega arith) years)
    by_size (inr l) =
        let back : (year - 1969) + 1969 ≡ year = omega arith in
        stands_sum test posts cells years stands (year - 1969) ∙ ap (λ y. sum_where (λ p. test p && nat_le p.year y) posts) back

-- ---- sizes

one_size : (b : Bool) (a s : ℤ) (n : ℕ) → unsigned_abs s ≤ n → unsigned_abs ((if b then a else pos 0) +ℤ s) ≤ unsigned_abs a + n
one_size true a s n l = omega (arith, ints)
one_size false a s n l = omega (arith, ints)

pub within_sizes : (test : Post → Bool) (posts : List Post) → unsigned_abs (sum_where test posts) ≤ sizes posts
within_sizes test [] = omega arith
within_sizes test (p ∷ posts) = rw (sum_by-cons (λ (q : Post). unsigned_abs q.amount) p posts) (one_size (test p) p.amount (sum_where test posts) (sizes posts) (within_sizes test posts))

fits_size : (z : ℤ) (n : ℕ) → unsigned_abs z ≤ n → n < 2 ^ 127 → FitsSigned w128 z
fits_size z n l m = omega (arith, ints)

pub sum_fits : (test : Post → Bool) (posts : List Post) → sizes posts < 2 ^ 127 → FitsSigned w128 (sum_where test posts)
sum_fits test posts small = fits_size (sum_where test posts) (sizes posts) (within_sizes test posts) small
