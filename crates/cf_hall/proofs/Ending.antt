-- Passes are ended one after another.
use Rattle.std.proofs.Common.{◌≡◌, ℕ, zero, suc, ◌+◌, ◌≤◌, All, List, [], ◌∷◌, ◌++◌, length, map, refl, sym, ap, subst, ◌∙◌, arith, append_assoc, length-append}
use Rattle.cf_base.proofs.Common.{All-cons, All-head, All-tail, All-map}
use Rattle.cf_turns.specs.Lists.{TaggedEntry, count_of, places_of}
use Rattle.cf_turns.specs.States.{PassState, ReceiptsState}
use Rattle.cf_turns.proofs.Numbers.{once_more}
use Rattle.cf_hall_names.specs.Closing.{AreApart, AreReceiptsOf, Closes, RoseBy, accepted_of, failed_calls, faults_in, numbers_of, receipts_of}
use Rattle.cf_hall.proofs.Counting.{places_many, each_once}

map_push : {A B : Type 0} (f : A → B) (xs : List A) (x : A) → map f (xs ++ x ∷ []) ≡ map f xs ++ f x ∷ []
map_push f [] x = refl
map_push f (y ∷ xs) x = ap (λ l. f y ∷ l) (map_push f xs x)

-- one more of what was mapped
pub mapped_on : {A B : Type 0} (f : A → B) (first now new : List B) (xs : List A) (x : A) → now ≡ first ++ map f xs → new ≡ now ++ f x ∷ [] → new ≡ first ++ map f (xs ++ x ∷ [])
mapped_on f first now new xs x is more =
    more ∙ ap (λ l. l ++ f x ∷ []) is ∙ append_assoc first (map f xs) (f x ∷ []) ∙ ap (λ l. first ++ l) (sym (map_push f xs x))

pub yielded_on : (all yielded rest later : List PassState) (p : PassState) → all ≡ yielded ++ rest → rest ≡ p ∷ later → all ≡ (yielded ++ p ∷ []) ++ later
yielded_on all yielded rest later p is next = is ∙ ap (λ (x : List PassState). yielded ++ x) next ∙ sym (append_assoc yielded (p ∷ []) later)

accepted_push : (rs : List ReceiptsState) (r : ReceiptsState) → accepted_of (rs ++ r ∷ []) ≡ accepted_of rs + length r.places
accepted_push [] r = omega arith
accepted_push (q ∷ rs) r = omega (arith, accepted_push rs r)

pub accepted_on : (first now new : ℕ) (xs : List PassState) (p : PassState) → now ≡ first + accepted_of (map receipts_of xs) → new ≡ now + length p.places → new ≡ first + accepted_of (map receipts_of (xs ++ p ∷ []))
accepted_on first now new xs p is more =
    omega (arith, is, more, accepted_push (map receipts_of xs) (receipts_of p), ap accepted_of (map_push receipts_of xs p))

faults_push : (rs : List ReceiptsState) (r : ReceiptsState) → faults_in (rs ++ r ∷ []) ≡ faults_in rs + r.faults
faults_push [] r = omega arith
faults_push (q ∷ rs) r = omega (arith, faults_push rs r)

pub faulted_on : (first now new : ℕ) (xs : List PassState) (p : PassState) → first + faults_in (map receipts_of xs) ≤ now → now + p.faults ≤ new → first + faults_in (map receipts_of (xs ++ p ∷ [])) ≤ new
faulted_on first now new xs p is more =
    omega (arith, is, more, faults_push (map receipts_of xs) (receipts_of p), ap faults_in (map_push receipts_of xs p))

failed_push : (ps : List PassState) (p : PassState) → length (failed_calls (ps ++ p ∷ [])) ≡ length (failed_calls ps) + length p.failed
failed_push [] p = let here = length-append p.failed [] in omega (arith, here)
failed_push (q ∷ ps) p =
    let here = length-append q.failed (failed_calls (ps ++ p ∷ [])) in
    let less = length-append q.failed (failed_calls ps) in
    let rest = failed_push ps p in
    omega (arith, here, less, rest)

pub counted_on : (first now new : ℕ) (xs : List PassState) (p : PassState) → now ≡ first + length (failed_calls xs) → new ≡ now + length p.failed → new ≡ first + length (failed_calls (xs ++ p ∷ []))
counted_on first now new xs p is more = omega (arith, is, more, failed_push xs p)

-- a count that stood where no pass had a fault reply
pub quiet_on : (first now new : ℕ) (xs : List PassState) (p : PassState) → (faults_in (map receipts_of xs) ≡ 0 → now ≡ first) → (p.faults ≡ 0 → new ≡ now)
    → faults_in (map receipts_of (xs ++ p ∷ [])) ≡ 0 → new ≡ first
quiet_on first now new xs p is more none =
    let sum : faults_in (map receipts_of xs) + p.faults ≡ 0 = sym (ap faults_in (map_push receipts_of xs p) ∙ faults_push (map receipts_of xs) (receipts_of p)) ∙ none in
    more (omega (arith, sum)) ∙ is (omega (arith, sum))

pub parts_on : (first now new : ℕ) (xs : List PassState) (p : PassState) → now ≡ first + length xs → new ≡ now + 1 → new ≡ first + length (xs ++ p ∷ [])
parts_on first now new xs p is more = omega (arith, is, more, length-append xs (p ∷ []))

pub apart_on : (ended new : List ℕ) (n : ℕ) → AreApart ended → count_of n ended ≡ 0 → new ≡ ended ++ n ∷ [] → AreApart new
apart_on ended new n apart fresh is m = subst (λ (ns : List ℕ). count_of m ns ≤ 1) (sym is) (once_more m n ended fresh (apart m))

-- a count of faults that rose by so many rose by fewer
pub rose_less : (n m before now : ℕ) → n ≤ m → RoseBy m before now → RoseBy n before now
rose_less n m before now le rose = omega (arith, le, rose)

-- ---- all of them

all_at : (list : List TaggedEntry) (rs : List ReceiptsState) → All (λ r. r.places ≡ places_of r.number list) rs → places_many 1 (numbers_of rs) list ≡ accepted_of rs
all_at list [] all = refl
all_at list (r ∷ rs) all =
    let here = All-head (λ (q : ReceiptsState). q.places ≡ places_of q.number list) r rs all in
    let more = all_at list rs (All-tail (λ (q : ReceiptsState). q.places ≡ places_of q.number list) r rs all) in
    omega (arith, ap length here, more)

at_index : (list : List TaggedEntry) (rs : List ReceiptsState) → All (λ r. r.places ≡ places_of r.number list) rs → AreReceiptsOf list rs
at_index list [] all k r at = cc
at_index list (q ∷ rs) all zero r at =
    let same : q ≡ r = cc in
    subst (λ (x : ReceiptsState). x.places ≡ places_of x.number list) same (All-head (λ (x : ReceiptsState). x.places ≡ places_of x.number list) q rs all)
at_index list (q ∷ rs) all (suc k) r at = at_index list rs (All-tail (λ (x : ReceiptsState). x.places ≡ places_of x.number list) q rs all) k r at

numbers_map : (ps : List PassState) → numbers_of (map receipts_of ps) ≡ map (λ p. p.number) ps
numbers_map [] = refl
numbers_map (p ∷ ps) = ap (λ ns. p.number ∷ ns) (numbers_map ps)

pub closed : (list : List TaggedEntry) (first : PassState) (ps : List PassState) (ended : List ℕ) → first.places ≡ places_of first.number list → All (λ p. p.places ≡ places_of p.number list) ps →
    ended ≡ (first.number ∷ []) ++ map (λ p. p.number) ps → AreApart ended → length first.places + accepted_of (map receipts_of ps) ≡ length list → Closes list (receipts_of first ∷ map receipts_of ps)
closed list first ps ended here all is apart many =
    let rs : List ReceiptsState = receipts_of first ∷ map receipts_of ps in
    let each : All (λ r. r.places ≡ places_of r.number list) rs =
    All-cons (λ (r : ReceiptsState). r.places ≡ places_of r.number list) (receipts_of first) (map receipts_of ps) here (All-map (λ (r : ReceiptsState). r.places ≡ places_of r.number list) receipts_of ps all) in
    let numbers : ended ≡ numbers_of rs = is ∙ ap (λ (ns : List ℕ). first.number ∷ ns) (sym (numbers_map ps)) in
    let differ : AreApart (numbers_of rs) = subst AreApart numbers apart in
    record {
      places = at_index list rs each;
      apart = differ;
      once = each_once 1 (numbers_of rs) list differ (all_at list rs each ∙ many);
    }

pub one_apart : (ended : List ℕ) (n : ℕ) → ended ≡ [] ++ n ∷ [] → AreApart ended
one_apart ended n is = apart_on [] ended n (λ m. omega arith) refl is

pub nothing_more : {A : Type 0} (xs : List A) → length xs ≡ 0 → xs ≡ []
nothing_more [] e = refl
nothing_more (x ∷ xs) e = absurd (omega (arith, e))
