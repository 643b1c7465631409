-- How many elements of a list pass a test, where ids rise: the one that is found.
use Rattle.std.proofs.Common.{◌≡◌, ◌⊎◌, inl, inr, ℕ, suc, ◌+◌, ◌<◌, ◌≤◌, Bool, true, false, if◌then◌else◌, ◌==◌, ◌&&◌, ◌||◌, nat_lt, List, [], ◌∷◌, ◌++◌, map, find, Option, Some, None, is_some, refl, sym, ap, subst, ◌∙◌, arith, filter}
use Rattle.cf_base.proofs.Common.{list_all, list_any, AllByRecursion, and_parts, leb_tells, eqb_tells, sum_by-cons}
use Rattle.cf_chart.specs.Common.{is_rising}
use Rattle.cf_model.proofs.Common.{passing}

passing_cons : {A : Type 0} (p : A → Bool) (x : A) (xs : List A) → passing p (x ∷ xs) ≡ (if p x then 1 else 0) + passing p xs
passing_cons p x xs = sum_by-cons (λ x. if p x then 1 else 0) x xs

none_first : (n : ℕ) → 0 + n ≡ n
none_first n = omega arith

grouped : (a b c : ℕ) → a + (b + c) ≡ (a + b) + c
grouped a b c = omega arith

pub passing_append : {A : Type 0} (p : A → Bool) (xs ys : List A) → passing p (xs ++ ys) ≡ passing p xs + passing p ys
passing_append p [] ys = sym (none_first (passing p ys))
passing_append p (x ∷ xs) ys =
    passing_cons p x (xs ++ ys) ∙ ap (λ n. (if p x then 1 else 0) + n) (passing_append p xs ys) ∙ grouped (if p x then 1 else 0) (passing p xs) (passing p ys)
    ∙ ap (λ n. n + passing p ys) (sym (passing_cons p x xs))

pub passing_map : {A B : Type 0} (p : B → Bool) (g : A → B) (xs : List A) → passing p (map g xs) ≡ passing (λ x. p (g x)) xs
passing_map p g [] = refl
passing_map p g (x ∷ xs) =
    passing_cons p (g x) (map g xs) ∙ ap (λ n. (if p (g x) then 1 else 0) + n) (passing_map p g xs) ∙ sym (passing_cons (λ x. p (g x)) x xs)

pub passing_filter : {A : Type 0} (p q : A → Bool) (xs : List A) → passing p (filter q xs) ≡ passing (λ x. q x && p x) xs
passing_filter p q [] = refl
passing_filter p q (x ∷ xs) = by_test (q x) (passing_filter p q xs) ∙ sym (passing_cons (λ x. q x && p x) x xs)
  where
    by_test : (b : Bool) → passing p (filter q xs) ≡ passing (λ x. q x && p x) xs →
        passing p (if b then x ∷ filter q xs else filter q xs) ≡ (if b && p x then 1 else 0) + passing (λ x. q x && p x) xs
    by_test true more = passing_cons p x (filter q xs) ∙ ap (λ n. (if p x then 1 else 0) + n) more
    by_test false more = more ∙ sym (none_first (passing (λ x. q x && p x) xs))

pub same_passing : {A : Type 0} (p q : A → Bool) → ((x : A) → p x ≡ q x) → (xs : List A) → passing p xs ≡ passing q xs
same_passing p q same xs = ap (λ (r : _ → Bool). passing r xs) (λ i x. same x i)

pub none_passes : {A : Type 0} (P : A → Type 0) (p : A → Bool) → ((x : A) → P x → p x ≡ false) → (xs : List A) → AllByRecursion P xs → passing p xs ≡ 0
none_passes P p none [] all = refl
none_passes P p none (x ∷ xs) all = passing_cons p x xs ∙ (λ i. (if none x all.0 i then 1 else 0) + none_passes P p none xs all.1 i)

pub all_of : {A : Type 0} (P : A → Type 0) (q : A → Bool) → ((x : A) → q x ≡ true → P x) → (xs : List A) → list_all q xs ≡ true → AllByRecursion P xs
all_of P q so [] all = tt
all_of P q so (x ∷ xs) all = let both = and_parts (q x) (list_all q xs) all in (so x both.0, all_of P q so xs both.1)

pub number_is : (a b : ℕ) → (a == b) ≡ true → a ≡ b
number_is a b e = by_test (a == b) (eqb_tells a b) e
  where
    by_test : (t : Bool) → ((t ≡ true) × (a ≡ b)) ⊎ ((t ≡ false) × (a ≡ b → ⊥)) → t ≡ true → a ≡ b
    by_test t (inl h) e = h.1
    by_test true (inr h) e = cc
    by_test false (inr h) e = cc

pub same_numbers : (a b : ℕ) → a ≡ b → (a == b) ≡ true
same_numbers a b e = by_test (a == b) (eqb_tells a b)
  where
    by_test : (t : Bool) → ((t ≡ true) × (a ≡ b)) ⊎ ((t ≡ false) × (a ≡ b → ⊥)) → t ≡ true
    by_test t (inl h) = h.0
    by_test t (inr h) = absurd (h.1 e)

pub other_numbers : (a b : ℕ) → (a ≡ b → ⊥) → (a == b) ≡ false
other_numbers a b e = by_test (a == b) (eqb_tells a b)
  where
    by_test : (t : Bool) → ((t ≡ true) × (a ≡ b)) ⊎ ((t ≡ false) × (a ≡ b → ⊥)) → t ≡ false
    by_test t (inl h) = absurd (e h.1)
    by_test t (inr h) = h.0

pub less_is : (a b : ℕ) → nat_lt a b ≡ true → a < b
less_is a b e = by_test (nat_lt a b) (leb_tells (suc a) b) e
  where
    by_test : (t : Bool) → ((t ≡ true) × (suc a ≤ b)) ⊎ ((t ≡ false) × (b < suc a)) → t ≡ true → a < b
    by_test t (inl h) e = omega (arith, h.1)
    by_test true (inr h) e = cc
    by_test false (inr h) e = cc

and_false : (b c : Bool) → c ≡ false → (b && c) ≡ false
and_false true c e = e
and_false false c e = refl

-- of rows by rising id the one that is found passes alone
pub one_passes : {A : Type 0} (id : A → ℕ) (t : A → Bool) (n : ℕ) (x : A) (xs : List A) → is_rising id xs ≡ true → find (λ r. id r == n) xs ≡ Some x → t x ≡ true →
    passing (λ r. t r && (n == id r)) xs ≡ 1
one_passes id t n x [] rising found is = cc
one_passes id t n x (y ∷ ys) rising found is =
    let both = and_parts (list_all (λ z. nat_lt (id y) (id z)) ys) (is_rising id ys) rising in
    passing_cons (λ r. t r && (n == id r)) y ys ∙ by_test (id y == n) (eqb_tells (id y) n) found both.0 (λ h. one_passes id t n x ys both.1 h is)
  where
    same : Some y ≡ Some x → y ≡ x
    same e = cc

    here : (b : Bool) → b ≡ true → (m : ℕ) → m ≡ 0 → (if b then 1 else 0) + m ≡ 1
    here true e m none = omega (arith, none)
    here false e m none = cc

    both_true : (b c : Bool) → b ≡ true → c ≡ true → (b && c) ≡ true
    both_true true c e h = h
    both_true false c e h = cc

    by_test : (b : Bool) → ((b ≡ true) × (id y ≡ n)) ⊎ ((b ≡ false) × (id y ≡ n → ⊥)) → (if b then Some y else find (λ r. id r == n) ys) ≡ Some x →
        list_all (λ z. nat_lt (id y) (id z)) ys ≡ true → (find (λ r. id r == n) ys ≡ Some x → passing (λ r. t r && (n == id r)) ys ≡ 1) →
        (if t y && (n == id y) then 1 else 0) + passing (λ r. t r && (n == id r)) ys ≡ 1
    by_test true (inl h) found above more =
        here (t y && (n == id y)) (both_true (t y) (n == id y) (ap t (same found) ∙ is) (same_numbers n (id y) (sym h.1))) _
        (none_passes (λ r. id y < id r) (λ r. t r && (n == id r)) (λ r l. and_false (t r) (n == id r) (other_numbers n (id r) (λ e. omega (arith, l, e, h.1)))) ys
        (all_of (λ r. id y < id r) (λ z. nat_lt (id y) (id z)) (λ r l. less_is (id y) (id r) l) ys above))
    by_test true (inr h) found above more = cc
    by_test false (inl h) found above more = cc
    by_test false (inr h) found above more =
        (λ i. (if and_false (t y) (n == id y) (other_numbers n (id y) (λ e. h.1 (sym e))) i then 1 else 0) + more found i)

-- ---- rows that are there

pub found_row : {A : Type 0} (p : A → Bool) (xs : List A) → list_any p xs ≡ true → (x : A) × (find p xs ≡ Some x)
found_row p [] e = cc
found_row p (x ∷ xs) e = by_test (p x) e (found_row p xs)
  where
    by_test : (b : Bool) → (b || list_any p xs) ≡ true → (list_any p xs ≡ true → (y : _) × (find p xs ≡ Some y)) → (y : _) × ((if b then Some x else find p xs) ≡ Some y)
    by_test true e more = (x, refl)
    by_test false e more = more e

-- what holds of each row holds of the one that is found
pub found_has : {A : Type 0} (P : A → Type 0) (p : A → Bool) (x : A) (xs : List A) → find p xs ≡ Some x → AllByRecursion P xs → P x
found_has P p x [] found all = cc
found_has P p x (y ∷ ys) found all = by_test (p y) found (λ h. found_has P p x ys h all.1)
  where
    same : Some y ≡ Some x → y ≡ x
    same e = cc

    by_test : (b : Bool) → (if b then Some y else find p ys) ≡ Some x → (find p ys ≡ Some x → P x) → P x
    by_test true found more = subst P (same found) all.0
    by_test false found more = more found

pub found_passes : {A : Type 0} (p : A → Bool) (x : A) (xs : List A) → find p xs ≡ Some x → p x ≡ true
found_passes p x [] found = cc
found_passes p x (y ∷ ys) found = by_test (p y) refl found (found_passes p x ys)
  where
    same : Some y ≡ Some x → y ≡ x
    same e = cc

    by_test : (b : Bool) → p y ≡ b → (if b then Some y else find p ys) ≡ Some x → (find p ys ≡ Some x → p x ≡ true) → p x ≡ true
    by_test true is found more = sym (ap p (same found)) ∙ is
    by_test false is found more = more found

pub some_is : {A : Type 0} (o : Option A) → is_some o ≡ true → (x : A) × (o ≡ Some x)
some_is None e = cc
some_is (Some x) e = (x, refl)
