-- Where passes of different numbers have as many places as the list is long, each place is one's.
use Rattle.std.proofs.Common.{◌≡◌, ℕ, zero, suc, ◌+◌, ◌≤◌, Bool, true, false, if◌then◌else◌, ◌==◌, List, [], ◌∷◌, ◌++◌, length, Some, slice_get, refl, sym, ap, ◌∙◌, arith}
use Rattle.cf_turns.specs.Lists.{TaggedEntry, count_of, places_from}

-- how many places of the list are these numbers', where it begins at this place
abbrev pub places_many : ℕ → List ℕ → List TaggedEntry → ℕ
places_many place [] list = 0
places_many place (n ∷ ns) list = length (places_from place n list) + places_many place ns list

places_none : (place : ℕ) (ns : List ℕ) → places_many place ns [] ≡ 0
places_none place [] = refl
places_none place (n ∷ ns) = omega (arith, places_none place ns)

one_place : (b : Bool) (place : ℕ) (rest : List ℕ) → length ((if b then place ∷ [] else []) ++ rest) ≡ (let one : ℕ = if b then 1 else 0 in one) + length rest
one_place true place rest = omega arith
one_place false place rest = omega arith

flip : (a b : ℕ) → (let one : ℕ = if a == b then 1 else 0 in one) ≡ (let other : ℕ = if b == a then 1 else 0 in other)
flip a b = grind arith

places_cons : (place : ℕ) (ns : List ℕ) (x : TaggedEntry) (xs : List TaggedEntry) → places_many place ns (x ∷ xs) ≡ count_of x.1 ns + places_many (place + 1) ns xs
places_cons place [] x xs = refl
places_cons place (n ∷ ns) x xs =
    let here = one_place (x.1 == n) place (places_from (place + 1) n xs) in
    let rest = places_cons place ns x xs in
    let same = flip x.1 n in
    omega (arith, here, rest, same)

places_most : (place : ℕ) (ns : List ℕ) (list : List TaggedEntry) → ((n : ℕ) → count_of n ns ≤ 1) → places_many place ns list ≤ length list
places_most place ns [] apart = omega (arith, places_none place ns)
places_most place ns (x ∷ xs) apart = omega (arith, places_cons place ns x xs, apart x.1, places_most (place + 1) ns xs apart)

pub each_once : (place : ℕ) (ns : List ℕ) (list : List TaggedEntry) → ((n : ℕ) → count_of n ns ≤ 1) → places_many place ns list ≡ length list →
    (k : ℕ) (e : TaggedEntry) → slice_get list k ≡ Some e → count_of e.1 ns ≡ 1
each_once place ns [] apart all k e at = cc
each_once place ns (x ∷ xs) apart all zero e at =
    let same : x ≡ e = cc in
    ap (λ (y : TaggedEntry). count_of y.1 ns) (sym same) ∙ omega (arith, places_cons place ns x xs, apart x.1, places_most (place + 1) ns xs apart, all)
each_once place ns (x ∷ xs) apart all (suc k) e at =
    each_once (place + 1) ns xs apart (omega (arith, places_cons place ns x xs, apart x.1, places_most (place + 1) ns xs apart, all)) k e at
