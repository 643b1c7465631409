-- The talks of passes whose receipts were all handed in have each new entry once.
use Rattle.std.proofs.Common.{◌≡◌, ℕ, zero, suc, ◌+◌, ◌<◌, ◌≤◌, Bool, true, false, if◌then◌else◌, ◌==◌, List, [], ◌∷◌, ◌++◌, length, Some, slice_get, ltb, refl, sym, ap, subst, ◌∙◌, arith}
use Rattle.cf_base.proofs.Common.{nat_tests}
use Rattle.cf_turns.specs.Lists.{TaggedEntry, count_of, places_from, places_of}
use Rattle.cf_turns.specs.States.{ReceiptsState}
use Rattle.cf_hall_names.specs.Closing.{Closes, HasFirst, numbers_of}
use Rattle.cf_serve_laws.specs.PassTalks.{Said}
use Rattle.cf_serve_laws.specs.Joins.{accepted_at, EachIsOne, AreTalksOf}

-- 1 where it is so
abbrev one : Bool → ℕ
one b = if b then 1 else 0

apart : (p q : ℕ) → q < p → one (p == q) ≡ 0
apart p q low = grind (arith, nat_tests)

apart' : (p q : ℕ) → p < q → one (p == q) ≡ 0
apart' p q low = grind (arith, nat_tests)

same : (p q : ℕ) → p ≡ q → one (p == q) ≡ 1
same p q is = grind (arith, nat_tests)

flip : (p q : ℕ) → one (p == q) ≡ one (q == p)
flip p q = grind (arith, nat_tests)

-- ---- the places of one pass

count_if : (b : Bool) (q place : ℕ) (rest : List ℕ) → count_of q ((if b then place ∷ [] else []) ++ rest) ≡ (if b then one (place == q) else 0) + count_of q rest
count_if true q place rest = refl
count_if false q place rest = omega arith

none_if : (b : Bool) (x : ℕ) → x ≡ 0 → (let n : ℕ = if b then x else 0 in n) ≡ 0
none_if true x e = e
none_if false x e = refl

one_if : (b : Bool) (x : ℕ) → x ≡ 1 → (let n : ℕ = if b then x else 0 in n) ≡ one b
one_if true x e = e
one_if false x e = refl

below : (q place n : ℕ) (list : List TaggedEntry) → q < place → count_of q (places_from place n list) ≡ 0
below q place n [] low = refl
below q place n (x ∷ xs) low =
    let split = count_if (x.1 == n) q place (places_from (place + 1) n xs) in
    let here = none_if (x.1 == n) (one (place == q)) (apart place q low) in
    let rest = below q (place + 1) n xs (omega (arith, low)) in
    omega (arith, split, here, rest)

beyond : (q place n : ℕ) (list : List TaggedEntry) → place + length list ≤ q → count_of q (places_from place n list) ≡ 0
beyond q place n [] high = refl
beyond q place n (x ∷ xs) high =
    let split = count_if (x.1 == n) q place (places_from (place + 1) n xs) in
    let here = none_if (x.1 == n) (one (place == q)) (apart' place q (omega (arith, high))) in
    let rest = beyond q (place + 1) n xs (omega (arith, high)) in
    omega (arith, split, here, rest)

-- an entry's place is one of its pass alone
tagged : (place n k : ℕ) (list : List TaggedEntry) (e : TaggedEntry) → slice_get list k ≡ Some e → count_of (place + k) (places_from place n list) ≡ one (e.1 == n)
tagged place n k [] e at = cc
tagged place n zero (x ∷ xs) e at =
    let is : x ≡ e = cc in
    let split = count_if (x.1 == n) (place + 0) place (places_from (place + 1) n xs) in
    let here = one_if (x.1 == n) (one (place == place + 0)) (same place (place + 0) (omega arith)) in
    let rest = below (place + 0) (place + 1) n xs (omega arith) in
    omega (arith, split, here, rest) ∙ ap (λ (y : TaggedEntry). one (y.1 == n)) is
tagged place n (suc k) (x ∷ xs) e at =
    let split = count_if (x.1 == n) (place + suc k) place (places_from (place + 1) n xs) in
    let here = none_if (x.1 == n) (one (place == place + suc k)) (apart' place (place + suc k) (omega arith)) in
    let next : (place + 1) + k ≡ place + suc k = omega arith in
    let rest = ap (λ q. count_of q (places_from (place + 1) n xs)) (sym next) ∙ tagged (place + 1) n k xs e at in
    omega (arith, split, here, rest)

-- ---- the places of several

-- what each has at a place, added up
abbrev count_in : ℕ → List ReceiptsState → ℕ
count_in q [] = 0
count_in q (r ∷ rs) = count_of q r.places + count_in q rs

abbrev AllPlaces : List TaggedEntry → List ReceiptsState → Type 0
AllPlaces list receipts = (k : ℕ) (r : ReceiptsState) → slice_get receipts k ≡ Some r → r.places ≡ places_of r.number list

head_places : (list : List TaggedEntry) (r : ReceiptsState) (rs : List ReceiptsState) → AllPlaces list (r ∷ rs) → r.places ≡ places_of r.number list
head_places list r rs all = all 0 r refl

tail_places : (list : List TaggedEntry) (r : ReceiptsState) (rs : List ReceiptsState) → AllPlaces list (r ∷ rs) → AllPlaces list rs
tail_places list r rs all k s at = all (suc k) s at

outside : (q : ℕ) (list : List TaggedEntry) (rs : List ReceiptsState) → AllPlaces list rs → ((n : ℕ) → count_of q (places_of n list) ≡ 0) → count_in q rs ≡ 0
outside q list [] all none = refl
outside q list (r ∷ rs) all none =
    let here = ap (count_of q) (head_places list r rs all) ∙ none r.number in
    omega (arith, here, outside q list rs (tail_places list r rs all) none)

inside : (k : ℕ) (list : List TaggedEntry) (e : TaggedEntry) (rs : List ReceiptsState) → AllPlaces list rs → slice_get list k ≡ Some e → count_in (1 + k) rs ≡ count_of e.1 (numbers_of rs)
inside k list e [] all at = refl
inside k list e (r ∷ rs) all at =
    let here = ap (count_of (1 + k)) (head_places list r rs all) ∙ (tagged 1 r.number k list e at ∙ flip e.1 r.number) in
    omega (arith, here, inside k list e rs (tail_places list r rs all) at)

there : {A : Type 0} (list : List A) (k : ℕ) → k < length list → (e : A) × (slice_get list k ≡ Some e)
there [] k low = absurd (omega (arith, low))
there (x ∷ xs) zero low = (x, refl)
there (x ∷ xs) (suc k) low = there xs k (omega (arith, low))

-- ---- the talks

talks_count : (q : ℕ) (talks : List (List Said)) (rs : List ReceiptsState) → AreTalksOf talks rs → accepted_at q talks ≡ count_in q rs
talks_count q [] [] are = refl
talks_count q [] (r ∷ rs) are = absurd are
talks_count q (said ∷ talks) [] are = absurd are
talks_count q (said ∷ talks) (r ∷ rs) are =
    let here = ap (count_of q) are.0 in
    omega (arith, here, talks_count q talks rs are.1)

-- all passes together have the entry of a place once
all_have : (list : List TaggedEntry) (kept : ReceiptsState) (rs : List ReceiptsState) → Closes list (kept ∷ rs) → (k : ℕ) → k < length list → count_of (1 + k) kept.places + count_in (1 + k) rs ≡ 1
all_have list kept rs closes k low =
    let e = there list k low in
    inside k list e.0 (kept ∷ rs) closes.places e.1 ∙ closes.once k e.0 e.1

none_has : (list : List TaggedEntry) (kept : ReceiptsState) (rs : List ReceiptsState) → Closes list (kept ∷ rs) → (q : ℕ) → length list < q → count_of q kept.places + count_in q rs ≡ 0
none_has list kept rs closes q high = outside q list (kept ∷ rs) closes.places (λ n. beyond q 1 n list (omega (arith, high)))

zero_has : (list : List TaggedEntry) (kept : ReceiptsState) (rs : List ReceiptsState) → Closes list (kept ∷ rs) → count_of 0 kept.places + count_in 0 rs ≡ 0
zero_has list kept rs closes = outside 0 list (kept ∷ rs) closes.places (λ n. below 0 1 n list (omega arith))

all_at : (list : List TaggedEntry) (kept : ReceiptsState) (rs : List ReceiptsState) → Closes list (kept ∷ rs) → (q : ℕ) → 0 < q → q ≤ length list → count_of q kept.places + count_in q rs ≡ 1
all_at list kept rs closes zero some low = absurd (omega (arith, some))
all_at list kept rs closes (suc k) some low =
    let is : 1 + k ≡ suc k = omega arith in
    subst (λ q. count_of q kept.places + count_in q rs ≡ 1) is (all_have list kept rs closes k (omega (arith, low)))

at_most : (list : List TaggedEntry) (kept : ReceiptsState) (rs : List ReceiptsState) → Closes list (kept ∷ rs) → (q : ℕ) → count_of q kept.places + count_in q rs ≤ 1
at_most list kept rs closes zero = omega (arith, zero_has list kept rs closes)
at_most list kept rs closes (suc k) = by_length (ltb (length list) (suc k)) refl
  where
    by_length : (b : Bool) → ltb (length list) (suc k) ≡ b → count_of (suc k) kept.places + count_in (suc k) rs ≤ 1
    by_length true is = omega (arith, none_has list kept rs closes (suc k) (grind (arith, nat_tests, is)))
    by_length false is = omega (arith, all_at list kept rs closes (suc k) (omega arith) (grind (arith, nat_tests, is)))

pub each_is_one : (list : List TaggedEntry) (kept : ReceiptsState) (rs : List ReceiptsState) (talks : List (List Said)) (first : ℕ)
    → Closes list (kept ∷ rs) → HasFirst first kept.places → AreTalksOf talks rs → EachIsOne first (length list) talks
each_is_one list kept rs talks first closes has are = record {
  new = λ q high low. omega (arith, talks_count q talks rs are, has.past q high, all_at list kept rs closes q (omega (arith, high)) low);
  old = λ q low. old_is q low;
  past = λ q high. omega (arith, talks_count q talks rs are, none_has list kept rs closes q high);
}
  where
    old_is : (q : ℕ) → q ≤ first → accepted_at q talks ≡ 0
    old_is zero low = omega (arith, talks_count 0 talks rs are, zero_has list kept rs closes)
    old_is (suc k) low = omega (arith, talks_count (suc k) talks rs are, has.has (suc k) (omega arith) low, at_most list kept rs closes (suc k))
