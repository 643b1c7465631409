-- Tables that differ at two numbers.
use Rattle.std.proofs.Common.{◌≡◌, ℕ, Bool, true, false, if◌then◌else◌, ◌==◌, ◌&&◌, Option, Some, None, is_some, refl, sym, ap, ◌∙◌, arith, unwrap_or, nat_cmp, is_eq, Ordering, Less, Equal, Greater}
use Rattle.cf_base.proofs.Common.{common_steps, ordering_then, is_at, CmpEqualImpliesEq, exact_pairs, exact_unsigned}
use Rattle.cf_register_parts.specs.declared.pairs.NumberPair.{NumberPair}
use Rattle.cf_register_parts.specs.Pairs.{Pairs, pair_cmp, value_where, value_of, PutsValue, PutsAmount, KeepsValues, ReadsSame}

-- pairs that compare alike are one
pub exact_pair : CmpEqualImpliesEq pair_cmp
exact_pair a b h = ap (λ (p : ℕ × ℕ). let q : NumberPair = record { first = p.0; second = p.1 } in q) (exact_pairs nat_cmp nat_cmp exact_unsigned exact_unsigned (a.first, a.second) (b.first, b.second) h)

is_eq_then : (a b : Ordering) → is_eq (ordering_then a b) ≡ (is_eq a && is_eq b)
is_eq_then Less b = refl
is_eq_then Equal b = refl
is_eq_then Greater b = refl

same_number : (a b : ℕ) → is_eq (nat_cmp a b) ≡ (a == b)
same_number a b = grind (arith, common_steps)

pub same_pair : (p q : NumberPair) → is_at (pair_cmp p) q ≡ ((p.first == q.first) && (p.second == q.second))
same_pair p q = is_eq_then (nat_cmp p.first q.first) (nat_cmp p.second q.second) ∙ rw (same_number p.first q.first, same_number p.second q.second) refl

-- a value put at a pair
pub put_reads : {X : Type 0} (old new : Pairs X) (pair : NumberPair) (value : X) →
    ((q : NumberPair) → value_where new q ≡ (if is_at (pair_cmp pair) q then Some value else value_where old q)) →
    PutsValue old new pair.first pair.second value
put_reads old new pair value h m z =
    h (record { first = m; second = z })
    ∙ ap (λ b. if b then Some value else value_where old (record { first = m; second = z })) (same_pair pair (record { first = m; second = z }))

pub put_keeps : {X : Type 0} (old new : Pairs X) (first second : ℕ) (value : X) → PutsValue old new first second value → KeepsValues old new
put_keeps {X = X} old new first second value h m z has = ap is_some (h m z) ∙ by_test ((first == m) && (second == z)) (value_of old m z) has
  where
    by_test : (b : Bool) (r : Option X) → is_some r ≡ true → is_some (if b then Some value else r) ≡ true
    by_test true r has = refl
    by_test false r has = has

equal : (o : Ordering) → is_eq o ≡ true → o ≡ Equal
equal Less e = cc
equal Equal e = refl
equal Greater e = cc

-- a value put where there was none, which reads as nothing does
reserved_at : {X : Type 0} (none : X) (old new : Pairs X) (pair q : NumberPair) → value_where old pair ≡ None →
    value_where new q ≡ (if is_at (pair_cmp pair) q then Some none else value_where old q) →
    (b : Bool) → is_at (pair_cmp pair) q ≡ b → unwrap_or (value_where new q) none ≡ unwrap_or (value_where old q) none
reserved_at none old new pair q missing h true e =
    let same : pair ≡ q = exact_pair pair q (equal (pair_cmp pair q) e) in
    rw (h, e) (sym (ap (λ o. unwrap_or o none) (ap (value_where old) (sym same) ∙ missing)))
reserved_at none old new pair q missing h false e = rw (h, e) refl

pub reserved_same : {X : Type 0} (none : X) (old new : Pairs X) (pair : NumberPair) → value_where old pair ≡ None →
    ((q : NumberPair) → value_where new q ≡ (if is_at (pair_cmp pair) q then Some none else value_where old q)) →
    ReadsSame none old new
reserved_same none old new pair missing h m z =
    let q : NumberPair = record { first = m; second = z } in
    reserved_at none old new pair q missing (h q) (is_at (pair_cmp pair) q) refl

-- an amount put at a pair
pub puts_amount : (old new : Pairs ℕ) (first second amount : ℕ) → PutsValue old new first second amount → PutsAmount old new first second amount
puts_amount old new first second amount puts m z = ap (λ o. unwrap_or o 0) (puts m z) ∙ by_test ((first == m) && (second == z)) (value_of old m z)
  where
    by_test : (b : Bool) (r : Option ℕ) → unwrap_or (if b then Some amount else r) 0 ≡ (if b then amount else unwrap_or r 0)
    by_test true r = refl
    by_test false r = refl
