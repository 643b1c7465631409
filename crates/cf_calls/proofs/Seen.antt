-- The keys that a loop has seen.
use Rattle.std.proofs.Common.{◌≡◌, ℕ, ◌+◌, ◌<◌, Bool, true, false, not, cond, ◌||◌, List, [], ◌∷◌, length, take, get_or, Option, Some, None, refl, sym, ap, ◌∙◌}
use Rattle.cf_base.proofs.Common.{list_any, list_any_more}
use Rattle.cf_calls.specs.Common.{is_distinct}
use Rattle.cf_calls.specs.Keys.{same_key}
use Rattle.cf_calls.proofs.Keys.{distinct_more, distinct_not}

or_false : (b : Bool) → (b || false) ≡ b
or_false true = refl
or_false false = refl

or_test : (a b : Bool) → cond b true a ≡ (a || b)
or_test true true = refl
or_test true false = refl
or_test false true = refl
or_test false false = refl

not_true : (b : Bool) → true ≡ not b → b ≡ false
not_true true e = cc
not_true false e = refl

not_false : (b : Bool) → false ≡ not b → b ≡ true
not_false true e = refl
not_false false e = cc

module _ {K : Type 0} (eq : K → K → Bool) where
  -- one of the keys is this one
  abbrev pub has_key : List (Option K) → Option K → Bool
  has_key keys key = list_any (λ k. same_key eq k key) keys

  same_none : (k : Option K) → same_key eq k None ≡ false
  same_none None = refl
  same_none (Some k) = refl

  has_none : (keys : List (Option K)) → has_key keys None ≡ false
  has_none [] = refl
  has_none (k ∷ keys) = λ i. same_none k i || has_none keys i

  module _ (keys : List (Option K)) (i : ℕ) (d : Option K) (l : i < length keys) where
    -- no key is one more
    pub seen_none : (q : K) → get_or keys i d ≡ None → has_key (take (i + 1) keys) (Some q) ≡ has_key (take i keys) (Some q)
    seen_none q is =
        list_any_more (λ k. same_key eq k (Some q)) keys i d l
        ∙ ap (λ k. has_key (take i keys) (Some q) || same_key eq k (Some q)) is
        ∙ or_false (has_key (take i keys) (Some q))

    pub seen_some : (q k : K) → get_or keys i d ≡ Some k → has_key (take (i + 1) keys) (Some q) ≡ cond (eq k q) true (has_key (take i keys) (Some q))
    seen_some q k is =
        list_any_more (λ k. same_key eq k (Some q)) keys i d l
        ∙ ap (λ k. has_key (take i keys) (Some q) || same_key eq k (Some q)) is
        ∙ sym (or_test (has_key (take i keys) (Some q)) (eq k q))

    pub apart_none : get_or keys i d ≡ None → is_distinct (same_key eq) (take i keys) ≡ true → is_distinct (same_key eq) (take (i + 1) keys) ≡ true
    apart_none is apart = distinct_more (same_key eq) keys i d l apart (ap (has_key (take i keys)) is ∙ has_none (take i keys))

    pub apart_some : (k : K) → get_or keys i d ≡ Some k → true ≡ not (has_key (take i keys) (Some k)) →
        is_distinct (same_key eq) (take i keys) ≡ true → is_distinct (same_key eq) (take (i + 1) keys) ≡ true
    apart_some k is new apart = distinct_more (same_key eq) keys i d l apart (ap (has_key (take i keys)) is ∙ not_true (has_key (take i keys) (Some k)) new)

    pub repeats : (k : K) → get_or keys i d ≡ Some k → false ≡ not (has_key (take i keys) (Some k)) → false ≡ is_distinct (same_key eq) keys
    repeats k is old = sym (distinct_not (same_key eq) keys i d l (ap (has_key (take i keys)) is ∙ not_false (has_key (take i keys) (Some k)) old))
