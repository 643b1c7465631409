-- The first of some names in order is the least.
use Rattle.std.proofs.Common.{◌≡◌, ℕ, List, [], ◌∷◌, Bool, true, false, cond, Option, Some, find, filter, map, String, string_bytes, Global, Less, refl, ap, ◌∙◌, nat_cmp, is_lt, string_cmp}
use Rattle.cf_base.proofs.Common.{lists_total, nat_cmp_total, slice_cmp, AllByRecursion, ordering_reverse}
use Rattle.std.specs.List.Sorted.{IsStrictlySortedBy}
use Rattle.cf_json_members.specs.Fields.{lesser, least}

not_below : (k l : List ℕ) → slice_cmp nat_cmp k l ≡ Less → is_lt (slice_cmp nat_cmp l k) ≡ false
not_below k l e = ap is_lt ((lists_total nat_cmp_total).antisymm l k ∙ ap ordering_reverse e)

chosen : (P : List ℕ → Type 0) (b : Bool) (l k : List ℕ) → P l → P k → P (cond b l k)
chosen P true l k p q = p
chosen P false l k p q = q

-- what holds of each of some names holds of the least
lesser-holds : (P : List ℕ → Type 0) (k : List ℕ) (ks : List (List ℕ)) → P k → AllByRecursion P ks → P (lesser k (least ks))
lesser-holds P k [] p all = p
lesser-holds P k (l ∷ ks) p all =
    chosen P (is_lt (slice_cmp nat_cmp (lesser l (least ks)) k)) (lesser l (least ks)) k (lesser-holds P l ks all.0 all.1) p

-- a name that is below all others is the least
lesser-first : (k : List ℕ) (ks : List (List ℕ)) → AllByRecursion (λ l. slice_cmp nat_cmp k l ≡ Less) ks → lesser k (least ks) ≡ k
lesser-first k [] all = refl
lesser-first k (l ∷ ks) all =
    let below = lesser-holds (λ n. slice_cmp nat_cmp k n ≡ Less) l ks all.0 all.1 in
    ap (λ b. cond b (lesser l (least ks)) k) (not_below k (lesser l (least ks)) below)

kept : (P : List ℕ → Type 0) (b : Bool) (k : List ℕ) (ks : List (List ℕ)) → P k → AllByRecursion P ks → AllByRecursion P (cond b (k ∷ ks) ks)
kept P true k ks p all = (p, all)
kept P false k ks p all = all

all-filter : (P : List ℕ → Type 0) (test : List ℕ → Bool) (ks : List (List ℕ)) → AllByRecursion P ks → AllByRecursion P (filter test ks)
all-filter P test [] all = tt
all-filter P test (k ∷ ks) all = kept P (test k) k (filter test ks) all.0 (all-filter P test ks all.1)

least-cond : (b : Bool) (k : List ℕ) (ks : List (List ℕ)) (found : Option (List ℕ)) → lesser k (least ks) ≡ k → least ks ≡ found → least (cond b (k ∷ ks) ks) ≡ cond b (Some k) found
least-cond true k ks found first rest = ap Some first
least-cond false k ks found first rest = rest

least-filter : (test : List ℕ → Bool) (ks : List (List ℕ)) → IsStrictlySortedBy (slice_cmp nat_cmp) ks → least (filter test ks) ≡ find test ks
unfolding IsStrictlySortedBy
least-filter test [] sorted = refl
least-filter test (k ∷ ks) sorted =
    let above = all-filter (λ l. slice_cmp nat_cmp k l ≡ Less) test ks sorted.0 in
    least-cond (test k) k (filter test ks) (find test ks) (lesser-first k (filter test ks) above) (least-filter test ks sorted.1)

-- the names of keys in order are in order
all-bytes : (k : String Global) (ks : List (String Global)) → AllByRecursion (λ l. string_cmp k l ≡ Less) ks → AllByRecursion (λ l. slice_cmp nat_cmp (string_bytes k) l ≡ Less) (map string_bytes ks)
all-bytes k [] all = tt
all-bytes k (l ∷ ks) all = (all.0, all-bytes k ks all.1)

sorted-bytes : (ks : List (String Global)) → IsStrictlySortedBy string_cmp ks → IsStrictlySortedBy (slice_cmp nat_cmp) (map string_bytes ks)
unfolding IsStrictlySortedBy
sorted-bytes [] sorted = tt
sorted-bytes (k ∷ ks) sorted = (all-bytes k ks sorted.0, sorted-bytes ks sorted.1)

-- of keys in order, the least name that passes is that of the first key that does
pub least-keys : (test : List ℕ → Bool) (ks : List (String Global)) → IsStrictlySortedBy string_cmp ks → least (filter test (map string_bytes ks)) ≡ find test (map string_bytes ks)
least-keys test ks sorted = least-filter test (map string_bytes ks) (sorted-bytes ks sorted)
