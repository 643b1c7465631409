-- The entries of a list with passes.
use Rattle.std.proofs.Common.{◌≡◌, ℕ, suc, List, [], ◌∷◌, ◌++◌, length, refl, ap}
use Rattle.cf_model.specs.Common.{Entry}
use Rattle.cf_turns.specs.Lists.{TaggedEntry}
use Rattle.cf_hall_names.specs.Lists.{entries_of}

pub entries_append : (xs ys : List TaggedEntry) → entries_of (xs ++ ys) ≡ entries_of xs ++ entries_of ys
entries_append [] ys = refl
entries_append (x ∷ xs) ys = ap (λ l. x.0 ∷ l) (entries_append xs ys)

pub entries_push : (list : List TaggedEntry) (e : Entry) (n : ℕ) → entries_of (list ++ (e, n) ∷ []) ≡ entries_of list ++ e ∷ []
entries_push list e n = entries_append list ((e, n) ∷ [])

pub entries_length : (list : List TaggedEntry) → length (entries_of list) ≡ length list
entries_length [] = refl
entries_length (x ∷ xs) = ap suc (entries_length xs)
