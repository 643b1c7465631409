-- The places of a number's entries in a list that gains one.
use Rattle.std.proofs.Common.{◌≡◌, ◌≢◌, ℕ, ◌+◌, ◌≤◌, List, [], ◌∷◌, ◌++◌, length, Bool, true, false, eq-eqb, ne_eqb, refl, sym, ap, ◌∙◌, arith, append_assoc, append-nil, ◌==◌, if◌then◌else◌}
use Rattle.cf_calls.specs.declared.entry.Entry.{Entry}
use Rattle.cf_turns.specs.Lists.{TaggedEntry, places_from, places_of}

-- the place, if the numbers are the same
abbrev pub place_if : Bool → ℕ → List ℕ
place_if same place = if same then place ∷ [] else []

places_from-snoc : (place n : ℕ) (list : List TaggedEntry) (e : TaggedEntry)
    → places_from place n (list ++ e ∷ []) ≡ places_from place n list ++ place_if (e.1 == n) (place + length list)
places_from-snoc place n [] e =
    append-nil (place_if (e.1 == n) place) ∙ ap (place_if (e.1 == n)) (omega arith)
places_from-snoc place n (x ∷ xs) e =
    let same : (place + 1) + length xs ≡ place + length (x ∷ xs) = omega arith in
    let head = place_if (x.1 == n) place in
    ap (λ l. head ++ l) (places_from-snoc (place + 1) n xs e)
    ∙ (sym (append_assoc head (places_from (place + 1) n xs) (place_if (e.1 == n) ((place + 1) + length xs)))
    ∙ ap (λ p. (head ++ places_from (place + 1) n xs) ++ place_if (e.1 == n) p) same)

-- an entry of another number
pub places_of-other : (n : ℕ) (list : List TaggedEntry) (e : Entry) (m : ℕ) → m ≢ n → places_of n (list ++ (e, m) ∷ []) ≡ places_of n list
places_of-other n list e m ne =
    places_from-snoc 1 n list (e, m)
    ∙ (ap (λ b. places_of n list ++ place_if b (1 + length list)) (ne_eqb m n ne) ∙ append-nil (places_of n list))

-- an entry of this number
pub places_of-own : (n : ℕ) (list : List TaggedEntry) (e : Entry) → places_of n (list ++ (e, n) ∷ []) ≡ places_of n list ++ (length list + 1) ∷ []
places_of-own n list e =
    let next : 1 + length list ≡ length list + 1 = omega arith in
    places_from-snoc 1 n list (e, n)
    ∙ (ap (λ b. places_of n list ++ place_if b (1 + length list)) (eq-eqb n n refl) ∙ ap (λ p. places_of n list ++ p ∷ []) next)

length-places_from : (place n : ℕ) (list : List TaggedEntry) → length (places_from place n list) ≤ length list
length-places_from place n [] = omega arith
length-places_from place n (x ∷ xs) = by_case (x.1 == n) (length-places_from (place + 1) n xs)
  where
    by_case : (b : Bool) → length (places_from (place + 1) n xs) ≤ length xs → length (place_if b place ++ places_from (place + 1) n xs) ≤ length (x ∷ xs)
    by_case true rest = omega (arith, rest)
    by_case false rest = omega (arith, rest)

-- there are no more places than entries
pub length-places_of : (n : ℕ) (list : List TaggedEntry) → length (places_of n list) ≤ length list
length-places_of n list = length-places_from 1 n list
