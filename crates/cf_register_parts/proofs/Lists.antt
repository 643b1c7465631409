-- Lists of which elements are written, added, found or summed.
use Rattle.std.proofs.Common.{◌≡◌, ◌≢◌, ◌⊎◌, inl, inr, ℕ, zero, suc, ◌+◌, ◌-◌, ◌<◌, ◌≤◌, Bool, true, false, List, [], ◌∷◌, ◌++◌, length, map, set, get_or, Some, None, find, sum_by, refl, sym, subst, ap, arith}
use Rattle.cf_base.proofs.Common.{length-set, length-append, get_or_append_left, get_or-append_right, get_or-set_same, get_or-set_other, sum_by-cons}

pub less_or_not : (a b : ℕ) → (a < b) ⊎ (b ≤ a)
less_or_not a b = grind arith

pub same_or_not : (a b : ℕ) → (a ≡ b) ⊎ (a ≢ b)
same_or_not a b = grind arith

pub false_true : false ≡ true → ⊥
false_true e = cc

-- a sum of sums
pub sum_by-plus : {X : Type 0} (f g : X → ℕ) (xs : List X) → sum_by (λ x. f x + g x) xs ≡ sum_by f xs + sum_by g xs
sum_by-plus f g [] = refl
sum_by-plus {X = X} f g (x ∷ xs) = omega (arith, sum_by-cons (λ (y : X). f y + g y) x xs, sum_by-cons f x xs, sum_by-cons g x xs, sum_by-plus f g xs)

pub sum_by-equal : {X : Type 0} (f g : X → ℕ) (xs : List X) → ((x : X) → f x ≡ g x) → sum_by f xs ≡ sum_by g xs
sum_by-equal f g [] same = refl
sum_by-equal f g (x ∷ xs) same = omega (arith, sum_by-cons f x xs, sum_by-cons g x xs, same x, sum_by-equal f g xs same)

pub map_same : {A B : Type 0} (v w : A → B) (xs : List A) → ((k : ℕ) (d : A) → k < length xs → w (get_or xs k d) ≡ v (get_or xs k d)) → map w xs ≡ map v xs
map_same v w [] all = refl
map_same v w (x ∷ xs) all = rw (all zero x (omega arith), map_same v w xs (λ k d kl. all (suc k) d (omega arith))) refl

pub map-push : {A B : Type 0} (f : A → B) (xs : List A) (y : A) → map f (xs ++ y ∷ []) ≡ map f xs ++ f y ∷ []
map-push f [] y = refl
map-push f (x ∷ xs) y = ap (λ ys. f x ∷ ys) (map-push f xs y)

-- one element is written, and each element reads as g of what it was
pub map_set : {A B : Type 0} (v w : A → B) (g : B → B) (xs : List A) (j : ℕ) (y d : A) → j < length xs → w y ≡ g (v (get_or xs j d)) →
    ((k : ℕ) → k < length xs → k ≢ j → w (get_or xs k d) ≡ g (v (get_or xs k d))) → map w (set xs j y) ≡ map g (map v xs)
map_set v w g [] j y d l here others = absurd (omega arith)
map_set v w g (x ∷ xs) zero y d l here others =
    rw (here, map_others v w g xs d (λ k kl. others (suc k) (omega arith) (omega arith))) refl
  where
    map_others : {A B : Type 0} (v w : A → B) (g : B → B) (xs : List A) (d : A) → ((k : ℕ) → k < length xs → w (get_or xs k d) ≡ g (v (get_or xs k d))) → map w xs ≡ map g (map v xs)
    map_others v w g [] d all = refl
    map_others v w g (x ∷ xs) d all = rw (all zero (omega arith), map_others v w g xs d (λ k kl. all (suc k) (omega arith))) refl
map_set v w g (x ∷ xs) (suc j) y d l here others =
    rw (others zero (omega arith) (omega arith), map_set v w g xs j y d (omega arith) here (λ k kl n. others (suc k) (omega arith) (λ e. n (omega arith)))) refl

-- what holds of each element with its place holds after one is written
pub each_set : {X : Type 0} (P : ℕ → X → Type 0) (xs : List X) (j : ℕ) (y : X) → j < length xs → P j y →
    ((k : ℕ) (d : X) → k < length xs → k ≢ j → P k (get_or xs k d)) → (k : ℕ) (d : X) → k < length (set xs j y) → P k (get_or (set xs j y) k d)
each_set P xs j y l here others k d kl = by_place (same_or_not k j)
  where
    by_place : (k ≡ j) ⊎ (k ≢ j) → P k (get_or (set xs j y) k d)
    by_place (inl e) = subst (λ n. P n (get_or (set xs j y) n d)) (sym e) (subst (P j) (sym (get_or-set_same xs j y d l)) here)
    by_place (inr n) = subst (P k) (sym (get_or-set_other xs j k y d n)) (others k d (rw (← length-set xs j y) kl) n)

-- .. after one follows
pub each_push : {X : Type 0} (P : ℕ → X → Type 0) (xs : List X) (y : X) → ((k : ℕ) (d : X) → k < length xs → P k (get_or xs k d)) → P (length xs) y →
    (k : ℕ) (d : X) → k < length (xs ++ y ∷ []) → P k (get_or (xs ++ y ∷ []) k d)
each_push {X = X} P xs y all here k d l = by_place (less_or_not k (length xs))
  where
    last : (zs : List X) → get_or (zs ++ y ∷ []) (length zs) d ≡ y
    last [] = refl
    last (z ∷ zs) = last zs

    by_place : (k < length xs) ⊎ (length xs ≤ k) → P k (get_or (xs ++ y ∷ []) k d)
    by_place (inl a) = subst (P k) (sym (get_or_append_left xs (y ∷ []) d k a)) (all k d a)
    by_place (inr a) =
        let m : k < length xs + 1 = rw (← length-append xs (y ∷ [])) l in
        let e : length xs ≡ k = omega (arith, a, m) in
        subst (λ n. P n (get_or (xs ++ y ∷ []) n d)) e (subst (P (length xs)) (sym (last xs)) here)

-- .. after others follow
pub each_append : {X : Type 0} (P : ℕ → X → Type 0) (xs ys : List X) → ((k : ℕ) (d : X) → k < length xs → P k (get_or xs k d)) →
    ((k : ℕ) (d : X) → k < length ys → P (length xs + k) (get_or ys k d)) → (k : ℕ) (d : X) → k < length (xs ++ ys) → P k (get_or (xs ++ ys) k d)
each_append P xs ys left right k d l = by_place (less_or_not k (length xs))
  where
    by_place : (k < length xs) ⊎ (length xs ≤ k) → P k (get_or (xs ++ ys) k d)
    by_place (inl a) = subst (P k) (sym (get_or_append_left xs ys d k a)) (left k d a)
    by_place (inr a) =
        let m : k < length xs + length ys = rw (← length-append xs ys) l in
        let b : k - length xs < length ys = omega (arith, a, m) in
        subst (P k) (sym (get_or-append_right xs ys (length xs) k d refl a)) (let e : length xs + (k - length xs) ≡ k = omega (arith, a) in subst (λ n. P n (get_or ys (k - length xs) d)) e (right (k - length xs) d b))

-- the first element that passes, where one at a place does and no other one
pub find_one : {A B : Type 0} (p : B → Bool) (v : A → B) (xs : List A) (k : ℕ) (d : A) → k < length xs → p (v (get_or xs k d)) ≡ true →
    ((j : ℕ) → j < k → p (v (get_or xs j d)) ≡ false) → find p (map v xs) ≡ Some (v (get_or xs k d))
find_one p v [] k d l here before = absurd (omega arith)
find_one p v (x ∷ xs) zero d l here before = rw here refl
find_one p v (x ∷ xs) (suc k) d l here before = rw (before zero (omega arith)) (find_one p v xs k d (omega arith) here (λ j jl. before (suc j) (omega arith)))

pub find_none : {A B : Type 0} (p : B → Bool) (v : A → B) (xs : List A) → ((k : ℕ) (d : A) → k < length xs → p (v (get_or xs k d)) ≡ false) → find p (map v xs) ≡ None
find_none p v [] none = refl
find_none p v (x ∷ xs) none = rw (none zero x (omega arith)) (find_none p v xs (λ k d l. none (suc k) d (omega arith)))
