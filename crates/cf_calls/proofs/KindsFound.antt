-- Each kind is found by its own number and by its own word, and by no other number.
use Rattle.std.proofs.Common.{◌≡◌, ℕ, Bool, true, false, cond, eqb, List, [], ◌∷◌, Some, refl, sym, find}
use Rattle.cf_base.proofs.Common.{eqb-true}
use Rattle.cf_calls.specs.declared.kind.ActKind.{ActKind}
use Rattle.cf_calls.specs.declared.kind.ActKind.TheVariants as kind
use Rattle.cf_calls.specs.Common.{kinds, kind_code, kind_named, kind_value, word_of}

pub by_code : (k : ActKind) → kind_value (kind_code k) ≡ Some k
unfolding kind_value
by_code kind.Adopt = refl
by_code _ = refl

pub by_word : (k : ActKind) → kind_named (word_of k) ≡ Some k
by_word kind.Adopt = refl
by_word _ = refl

-- what is found passes the test
by_test : {A : Type 0} (test : A → Bool) (x a : A) (xs : List A) (t : Bool) → test x ≡ t → (find test xs ≡ Some a → test a ≡ true) → cond t (Some x) (find test xs) ≡ Some a → test a ≡ true
by_test test x a xs true here later found = let same : x ≡ a = cc in rw (← same) here
by_test test x a xs false here later found = later found

passes : {A : Type 0} (test : A → Bool) (xs : List A) (a : A) → find test xs ≡ Some a → test a ≡ true
passes test [] a e = absurd cc
passes test (x ∷ xs) a e = by_test test x a xs (test x) refl (λ f. passes test xs a f) e

pub code_is : (n : ℕ) (k : ActKind) → kind_value n ≡ Some k → kind_code k ≡ n
unfolding kind_value
code_is n k found = sym (eqb-true n (kind_code k) (passes (λ j. eqb n (kind_code j)) kinds k found))
