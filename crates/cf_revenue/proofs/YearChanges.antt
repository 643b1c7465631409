-- What changes in a year.
use Rattle.std.proofs.Common.{◌≡◌, ◌⊎◌, inl, inr, ℕ, ◌+◌, ◌-◌, ◌<◌, ◌≤◌, Bool, true, false, if◌then◌else◌, ◌==◌, nat_le, List, [], ◌∷◌, sum_by, pos, ◌-ℤ◌, refl, sym, ap, ◌∙◌, arith, filter}
use Rattle.cf_base.proofs.Common.{leb_tells, eqb_tells, ints, sum_by-cons}
use Rattle.cf_model.specs.Common.{deferred_in, Settlement, Receivables}
use Rattle.cf_model.specs.Receivables.{Bill}
use Rattle.cf_revenue.specs.RegisterView.{AreBilled, AreTaken}
use Rattle.cf_register_parts.specs.Years.{sum_through}

-- what counts through a year is what counts through the year before and what is of the year
pub by_year : {X : Type 0} (of amount : X → ℕ) (xs : List X) (year : ℕ) → 1 ≤ year →
    sum_by amount (filter (λ x. nat_le (of x) year) xs) ≡ sum_by amount (filter (λ x. nat_le (of x) (year - 1)) xs) + sum_by (λ x. if of x == year then amount x else 0) xs
by_year of amount [] year first = refl
by_year {X = X} of amount (x ∷ xs) year first =
    rw (sum_by-cons (λ (y : X). if of y == year then amount y else 0) x xs)
    (by_tests (nat_le (of x) year) (nat_le (of x) (year - 1)) (of x == year) (leb_tells (of x) year) (leb_tells (of x) (year - 1)) (eqb_tells (of x) year) (by_year of amount xs year first))
  where
    both : (a p q r : ℕ) → p ≡ q + r → a + p ≡ (a + q) + (0 + r)
    both a p q r e = omega (arith, e)

    here : (a p q r : ℕ) → p ≡ q + r → a + p ≡ q + (a + r)
    here a p q r e = omega (arith, e)

    none : (p q r : ℕ) → p ≡ q + r → p ≡ q + (0 + r)
    none p q r e = omega (arith, e)

    by_tests : (a b c : Bool) → ((a ≡ true) × (of x ≤ year)) ⊎ ((a ≡ false) × (year < of x)) → ((b ≡ true) × (of x ≤ year - 1)) ⊎ ((b ≡ false) × (year - 1 < of x)) →
        ((c ≡ true) × (of x ≡ year)) ⊎ ((c ≡ false) × (of x ≡ year → ⊥)) →
        sum_by amount (filter (λ y. nat_le (of y) year) xs) ≡ sum_by amount (filter (λ y. nat_le (of y) (year - 1)) xs) + sum_by (λ y. if of y == year then amount y else 0) xs →
        sum_by amount (if a then x ∷ filter (λ y. nat_le (of y) year) xs else filter (λ y. nat_le (of y) year) xs)
        ≡ sum_by amount (if b then x ∷ filter (λ y. nat_le (of y) (year - 1)) xs else filter (λ y. nat_le (of y) (year - 1)) xs)
        + ((if c then amount x else 0) + sum_by (λ y. if of y == year then amount y else 0) xs)
    by_tests true true true h (inl k) (inl l) more = absurd (omega (arith, first, k.1, l.1))
    by_tests true true true h (inl k) (inr l) more = cc
    by_tests true true true h (inr k) l more = cc
    by_tests true true false h k l more = rw (sum_by-cons amount x (filter (λ y. nat_le (of y) year) xs), sum_by-cons amount x (filter (λ y. nat_le (of y) (year - 1)) xs)) (both _ _ _ _ more)
    by_tests true false true h k l more = rw (sum_by-cons amount x (filter (λ y. nat_le (of y) year) xs)) (here _ _ _ _ more)
    by_tests true false false (inl h) (inr k) (inr l) more = absurd (l.1 (omega (arith, h.1, k.1)))
    by_tests true false false (inl h) (inr k) (inl l) more = cc
    by_tests true false false (inl h) (inl k) l more = cc
    by_tests true false false (inr h) k l more = cc
    by_tests false true c (inr h) (inl k) l more = absurd (omega (arith, h.1, k.1))
    by_tests false true c (inr h) (inr k) l more = cc
    by_tests false true c (inl h) k l more = cc
    by_tests false false true (inr h) k (inl l) more = absurd (omega (arith, h.1, l.1))
    by_tests false false true (inr h) k (inr l) more = cc
    by_tests false false true (inl h) k l more = cc
    by_tests false false false h k l more = none _ _ _ more

among : (a b c d x y : ℕ) → a ≡ b + x → c ≡ d + y → pos (a + d) -ℤ pos (c + b) ≡ pos x -ℤ pos y
among a b c d x y e f = omega (arith, ints, e, f)

-- so what two years' sums differ by is the change of unavailable revenue
pub change_in : (s : Receivables) (levied settled : List ℕ) (year : ℕ) → 1 ≤ year → AreBilled s.bills levied → AreTaken s.settlements settled →
    pos (sum_through year levied + sum_through (year - 1) settled) -ℤ pos (sum_through year settled + sum_through (year - 1) levied) ≡ deferred_in year s
change_in s levied settled year first bills taken =
    among _ _ _ _ _ _
    (bills year ∙ by_year (λ (b : Bill). b.levy_year) (λ b. b.amount) s.bills year first ∙ ap (λ k. k + sum_by (λ (b : Bill). if b.levy_year == year then b.amount else 0) s.bills) (sym (bills (year - 1))))
    (taken year ∙ by_year (λ (x : Settlement). x.year) (λ x. x.amount) s.settlements year first ∙ ap (λ k. k + sum_by (λ (x : Settlement). if x.year == year then x.amount else 0) s.settlements) (sym (taken (year - 1))))
