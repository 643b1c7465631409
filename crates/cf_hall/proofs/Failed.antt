-- Where passes of different numbers have as many calls that failed as there are, each such call is
-- one of theirs.
use Rattle.std.proofs.Common.{◌≡◌, ⊎_elim, ℕ, ◌+◌, ◌<◌, ◌≤◌, All, Bool, true, false, eq-eqb, if◌then◌else◌, ◌==◌, List, [], ◌∷◌, ◌++◌, length, map, refl, sym, ap, subst, ◌∙◌, arith, length-append, Contains}
use Rattle.cf_base.proofs.Common.{nat_tests, All-cons, All-head, All-tail, Contains-append_cases, Contains-append_left, Contains-append_right, Contains-push, Contains-push_cases}
use Rattle.cf_model.specs.Common.{Call}
use Rattle.cf_hall_names.specs.Closing.{failed_calls}
use Rattle.cf_hall_names.specs.Lists.{calls_in}
use Rattle.cf_turns.specs.Lists.{TaggedCall, calls_of, count_of}
use Rattle.cf_turns.specs.States.{PassState}

-- how many calls of the list are these numbers'
abbrev calls_many : List ℕ → List TaggedCall → ℕ
calls_many [] list = 0
calls_many (n ∷ ns) list = length (calls_of n list) + calls_many ns list

calls_none : (ns : List ℕ) → calls_many ns [] ≡ 0
calls_none [] = refl
calls_none (n ∷ ns) = omega (arith, calls_none ns)

one_call : (b : Bool) (c : Call) (rest : List Call) → length ((if b then c ∷ [] else []) ++ rest) ≡ (let one : ℕ = if b then 1 else 0 in one) + length rest
one_call true c rest = omega arith
one_call false c rest = omega arith

flip : (a b : ℕ) → (let one : ℕ = if a == b then 1 else 0 in one) ≡ (let other : ℕ = if b == a then 1 else 0 in other)
flip a b = grind arith

calls_cons : (ns : List ℕ) (x : TaggedCall) (xs : List TaggedCall) → calls_many ns (x ∷ xs) ≡ count_of x.1 ns + calls_many ns xs
calls_cons [] x xs = refl
calls_cons (n ∷ ns) x xs =
    let here = one_call (x.1 == n) x.0 (calls_of n xs) in
    let rest = calls_cons ns x xs in
    let same = flip x.1 n in
    omega (arith, here, rest, same)

calls_most : (ns : List ℕ) (list : List TaggedCall) → ((n : ℕ) → count_of n ns ≤ 1) → calls_many ns list ≤ length list
calls_most ns [] apart = omega (arith, calls_none ns)
calls_most ns (x ∷ xs) apart = omega (arith, calls_cons ns x xs, apart x.1, calls_most ns xs apart)

-- a number that stands among those of the passes is one's, whose calls are these
among : (list : List TaggedCall) (c : Call) (n : ℕ) (ps : List PassState) → All (λ p. p.failed ≡ calls_of p.number list) ps → Contains (calls_of n list) c → 0 < count_of n (map (λ p. p.number) ps)
    → Contains (failed_calls ps) c
among list c n [] all stands some = absurd (omega (arith, some))
among list c n (p ∷ ps) all stands some = by_number (p.number == n) refl (λ more. among list c n ps (All-tail (λ (q : PassState). q.failed ≡ calls_of q.number list) p ps all) stands more)
  where
    here : p.failed ≡ calls_of p.number list
    here = All-head (λ (q : PassState). q.failed ≡ calls_of q.number list) p ps all

    is_same : p.number == n ≡ true → p.number ≡ n
    is_same e = grind (arith, nat_tests, e)

    fewer : p.number == n ≡ false → 0 < count_of n (map (λ (q : PassState). q.number) ps)
    fewer e =
        let more : 0 < (let one : ℕ = if false then 1 else 0 in one) + count_of n (map (λ (q : PassState). q.number) ps) =
        subst (λ (b : Bool). 0 < (let one : ℕ = if b then 1 else 0 in one) + count_of n (map (λ (q : PassState). q.number) ps)) e some in
        omega (arith, more)

    by_number : (b : Bool) → p.number == n ≡ b → (0 < count_of n (map (λ (q : PassState). q.number) ps) → Contains (failed_calls ps) c) → Contains (failed_calls (p ∷ ps)) c
    by_number true e on = Contains-append_left p.failed (failed_calls ps) c (subst (λ (cs : List Call). Contains cs c) (ap (λ (m : ℕ). calls_of m list) (sym (is_same e)) ∙ sym here) stands)
    by_number false e on = Contains-append_right p.failed (failed_calls ps) c (on (fewer e))

calls_all : (list : List TaggedCall) (ps : List PassState) → All (λ p. p.failed ≡ calls_of p.number list) ps → calls_many (map (λ p. p.number) ps) list ≡ length (failed_calls ps)
calls_all list [] all = refl
calls_all list (p ∷ ps) all =
    let here = All-head (λ (q : PassState). q.failed ≡ calls_of q.number list) p ps all in
    let more = calls_all list ps (All-tail (λ (q : PassState). q.failed ≡ calls_of q.number list) p ps all) in
    let split = length-append p.failed (failed_calls ps) in
    omega (arith, ap length here, more, split)

-- a call of the list, whose number is one of these
record IsFound (list : List TaggedCall) (ns : List ℕ) (c : Call) : Type 0 where
  number : ℕ
  is_there : 0 < count_of number ns
  stands : Contains (calls_of number list) c

found : (list : List TaggedCall) (ns : List ℕ) (c : Call) → ((n : ℕ) → count_of n ns ≤ 1) → calls_many ns list ≡ length list → Contains (calls_in list) c → IsFound list ns c
found [] ns c apart many stands = let low = stands.1 in absurd (omega (arith, low))
found (x ∷ xs) ns c apart many stands =
    ⊎_elim
    (λ (here : Contains (x.0 ∷ []) c). ⊎_elim (λ (none : Contains [] c). let low = none.1 in absurd (omega (arith, low))) own (Contains-push_cases [] x.0 c here))
    (λ (later : Contains (calls_in xs) c). on (found xs ns c apart (omega (arith, calls_cons ns x xs, apart x.1, calls_most ns xs apart, many)) later))
    (Contains-append_cases (x.0 ∷ []) (calls_in xs) c stands)
  where
    own : x.0 ≡ c → IsFound (x ∷ xs) ns c
    own same = record {
      number = x.1;
      is_there = omega (arith, calls_cons ns x xs, calls_most ns xs apart, many);
      stands = Contains-append_left (if x.1 == x.1 then x.0 ∷ [] else []) (calls_of x.1 xs) c
          (subst (λ (b : Bool). Contains (if b then x.0 ∷ [] else []) c) (sym (eq-eqb x.1 x.1 refl)) (subst (Contains (x.0 ∷ [])) same (Contains-push [] x.0)));
    }

    on : IsFound xs ns c → IsFound (x ∷ xs) ns c
    on f = record {
      number = f.number;
      is_there = f.is_there;
      stands = Contains-append_right (if x.1 == f.number then x.0 ∷ [] else []) (calls_of f.number xs) c f.stands;
    }

-- each call that failed is one of these passes', where the one that was kept has none
pub all_failed : (list : List TaggedCall) (kept : PassState) (ps : List PassState) (ended : List ℕ) → kept.failed ≡ calls_of kept.number list → All (λ p. p.failed ≡ calls_of p.number list) ps
    → ended ≡ (kept.number ∷ []) ++ map (λ p. p.number) ps → ((n : ℕ) → count_of n ended ≤ 1) → length (failed_calls ps) ≡ length list → kept.failed ≡ []
    → (c : Call) → Contains (calls_in list) c → Contains (failed_calls ps) c
all_failed list kept ps ended here all is apart many none c stands =
    let P : PassState → Type 0 = λ p. p.failed ≡ calls_of p.number list in
    let each : All P (kept ∷ ps) = All-cons P kept ps here all in
    let ns : List ℕ = map (λ (p : PassState). p.number) (kept ∷ ps) in
    let differ : (n : ℕ) → count_of n ns ≤ 1 = λ n. subst (λ (l : List ℕ). count_of n l ≤ 1) is (apart n) in
    let split = length-append kept.failed (failed_calls ps) in
    let all_many : calls_many ns list ≡ length list = calls_all list (kept ∷ ps) each ∙ omega (arith, split, ap length none, many) in
    let f = found list ns c differ all_many stands in
    subst (λ (l : List Call). Contains (l ++ failed_calls ps) c) none (among list c f.number (kept ∷ ps) each f.stands f.is_there)
