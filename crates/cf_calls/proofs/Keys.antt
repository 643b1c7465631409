-- When no two elements of a list clash.
use Rattle.std.proofs.Common.{◌≡◌, ℕ, ◌+◌, ◌<◌, Bool, true, false, not, ◌&&◌, ◌||◌, List, [], ◌∷◌, ◌++◌, length, take, drop, get_or, map, refl, sym, ap, ◌∙◌}
use Rattle.cf_base.proofs.Common.{list_any, take_more, take-append-drop, list_any-append}
use Rattle.cf_calls.specs.Common.{is_distinct}

any_map : {A B : Type 0} (p : B → Bool) (q : A → Bool) (f : A → B) → ((x : A) → q x ≡ p (f x)) → (xs : List A) → list_any q xs ≡ list_any p (map f xs)
any_map p q f same [] = refl
any_map p q f same (x ∷ xs) = λ i. same x i || any_map p q f same xs i

-- elements clash exactly where what f gives of them does
pub distinct_map : {A B : Type 0} (clash : A → A → Bool) (clash' : B → B → Bool) (f : A → B) → ((x y : A) → clash x y ≡ clash' (f x) (f y)) → (xs : List A) →
    is_distinct clash xs ≡ is_distinct clash' (map f xs)
distinct_map clash clash' f same [] = refl
distinct_map clash clash' f same (x ∷ xs) = λ i. not (any_map (clash' (f x)) (clash x) f (same x) xs i) && distinct_map clash clash' f same xs i

-- one more at the end clashes with none before
distinct_push : {A : Type 0} (clash : A → A → Bool) (xs : List A) (y : A) →
    is_distinct clash (xs ++ y ∷ []) ≡ (not (list_any (λ x. clash x y) xs) && is_distinct clash xs)
distinct_push clash [] y = refl
distinct_push clash (x ∷ xs) y =
    (λ i. not (list_any-append (clash x) xs (y ∷ []) i) && distinct_push clash xs y i)
    ∙ regroup (list_any (clash x) xs) (clash x y) (list_any (λ x. clash x y) xs) (is_distinct clash xs)
  where
    regroup : (a b c d : Bool) → (not (a || (b || false)) && (not c && d)) ≡ (not (b || c) && (not a && d))
    regroup true true c d = refl
    regroup true false true d = refl
    regroup true false false d = refl
    regroup false true c d = refl
    regroup false false true d = refl
    regroup false false false d = refl

-- a clash at the front of a list is one of the list
distinct_front : {A : Type 0} (clash : A → A → Bool) (xs ys : List A) → is_distinct clash xs ≡ false → is_distinct clash (xs ++ ys) ≡ false
distinct_front clash [] ys e = cc
distinct_front clash (x ∷ xs) ys e =
    (λ i. not (list_any-append (clash x) xs ys i) && is_distinct clash (xs ++ ys))
    ∙ by_test (list_any (clash x) xs) (list_any (clash x) ys) (is_distinct clash xs) (is_distinct clash (xs ++ ys)) (distinct_front clash xs ys) e
  where
    by_test : (a b c d : Bool) → (c ≡ false → d ≡ false) → (not a && c) ≡ false → (not (a || b) && d) ≡ false
    by_test true b c d h e = refl
    by_test false true c d h e = refl
    by_test false false c d h e = h e

-- a step of a loop whose element clashes with none before
pub distinct_more : {A : Type 0} (clash : A → A → Bool) (xs : List A) (i : ℕ) (d : A) → i < length xs →
    is_distinct clash (take i xs) ≡ true → list_any (λ x. clash x (get_or xs i d)) (take i xs) ≡ false → is_distinct clash (take (i + 1) xs) ≡ true
distinct_more clash xs i d l apart none =
    ap (is_distinct clash) (take_more xs i d l) ∙ distinct_push clash (take i xs) (get_or xs i d) ∙ (λ k. not (none k) && apart k)

-- and of one whose element clashes
pub distinct_not : {A : Type 0} (clash : A → A → Bool) (xs : List A) (i : ℕ) (d : A) → i < length xs →
    list_any (λ x. clash x (get_or xs i d)) (take i xs) ≡ true → is_distinct clash xs ≡ false
distinct_not clash xs i d l any =
    let front : is_distinct clash (take (i + 1) xs) ≡ false =
    ap (is_distinct clash) (take_more xs i d l) ∙ distinct_push clash (take i xs) (get_or xs i d) ∙ (λ k. not (any k) && is_distinct clash (take i xs)) in
    ap (is_distinct clash) (sym (take-append-drop (i + 1) xs)) ∙ distinct_front clash (take (i + 1) xs) (drop (i + 1) xs) front
