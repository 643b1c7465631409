-- Where the assets of vouchers stand, and what goes over them one after another.
use Rattle.std.proofs.Common.{◌≡◌, ◌≢◌, ◌⊎◌, inl, inr, ℕ, zero, suc, ◌+◌, ◌-◌, ◌<◌, ◌≤◌, Bool, true, false, if◌then◌else◌, ◌==◌, ◌&&◌, nat_le, nat_lt, List, [], ◌∷◌, ◌++◌, length, map, set, get_or, Option, Some, None, is_some, refl, sym, subst, ap, ◌∙◌, arith, filter}
use Rattle.cf_base.proofs.Common.{nat_tests, common_steps, length-append, length-map, get_or_append_left, get_or-append_right, get_or_past, get_or_push, get_or-map}
use Rattle.cf_assets.specs.Extents.{is_within, IsExtent, AreExtents}
use Rattle.cf_register_parts.proofs.Lists.{less_or_not, same_or_not}
use Rattle.cf_register_parts.specs.Extents.{no_extent, extent_at}
use Rattle.cf_assets.specs.Inventory.{Inventory, AreNumbered, StagesOne, staged}
use Rattle.cf_assets.specs.Rows.{view_asset, no_row}
use Rattle.cf_assets.specs.Steps.{CanVoid, voids, disposes}
use Rattle.cf_model.specs.Common.{Day, Refusal, VoucherItem, is_capital, Asset, Stage, void, disposed, bought, new_asset, voucher_of, purchase, life_of, is_leased, is_before, voided_asset, not_held, disposed_asset, is_number, or_else, first_refusal, refuse_if}
use Rattle.cf_register_parts.specs.declared.extents.Extent.{Extent}
use Rattle.cf_assets.proofs.Finding.{rest, rest_first, rest_more, rest_last, none_refused}
use Rattle.cf_calls.specs.declared.refusal.AssetFault.TheVariants as fault
use Rattle.cf_calls.specs.declared.refusal.Refusal.TheVariants as refusal
use Rattle.cf_chart.specs.Common.{Plan, object_at}
use Rattle.cf_model.specs.Assets.{held}

in_it : (e : Extent) (k : ℕ) → e.first ≤ k → k < e.end → is_within e k ≡ true
in_it e k a b = both (nat_le e.first k) (nat_lt k e.end) (low e.first k a) (high k e.end b)
  where
    low : (m n : ℕ) → m ≤ n → nat_le m n ≡ true
    low m n l = grind (arith, nat_tests)

    high : (m n : ℕ) → m < n → nat_lt m n ≡ true
    high m n l = grind (arith, nat_tests)

    both : (x y : Bool) → x ≡ true → y ≡ true → (x && y) ≡ true
    both x y e f = rw (e, f) refl

before_it : (e : Extent) (k : ℕ) → k < e.first → is_within e k ≡ false
before_it e k l = low (nat_le e.first k) (nat_lt k e.end) (less e.first k l)
  where
    less : (m n : ℕ) → n < m → nat_le m n ≡ false
    less m n l = grind (arith, nat_tests)

    low : (x y : Bool) → x ≡ false → (x && y) ≡ false
    low x y e = rw e refl

after_it : (e : Extent) (k : ℕ) → e.end ≤ k → is_within e k ≡ false
after_it e k l = high (nat_le e.first k) (nat_lt k e.end) (most k e.end l)
  where
    most : (m n : ℕ) → n ≤ m → nat_lt m n ≡ false
    most m n l = grind (arith, nat_tests)

    high : (x y : Bool) → y ≡ false → (x && y) ≡ false
    high true y e = e
    high false y e = refl

-- ---- the assets of a voucher, one after another

abbrev pub of_voucher : ℕ → Asset → Bool
of_voucher n a = is_number (voucher_of a.origin) n

pub scan_first : (f : Asset → Option Refusal) (n : ℕ) (assets : List Asset) (e : Extent) → IsExtent n assets e → first_refusal f (filter (of_voucher n) assets) ≡ first_refusal f (rest (of_voucher n) e.first assets)
scan_first f n assets e is = ap (first_refusal f) (rest_first (of_voucher n) assets e.first (λ j d l m. is.are j d l ∙ before_it e j m))

pub is_its : (n : ℕ) (assets : List Asset) (e : Extent) (k : ℕ) (d : Asset) → IsExtent n assets e → e.first ≤ k → k < e.end → is_number (voucher_of (get_or assets k d).origin) n ≡ true
is_its n assets e k d is a b = is.are k d (omega (arith, b, is.within)) ∙ in_it e k a b

pub scan_more : (f : Asset → Option Refusal) (n : ℕ) (assets : List Asset) (e : Extent) (k : ℕ) (d : Asset) → IsExtent n assets e → e.first ≤ k → k < e.end →
    first_refusal f (rest (of_voucher n) k assets) ≡ or_else (f (get_or assets k d)) (first_refusal f (rest (of_voucher n) (k + 1) assets))
scan_more f n assets e k d is a b = ap (first_refusal f) (rest_more (of_voucher n) assets k d (omega (arith, b, is.within)) (is_its n assets e k d is a b))

pub scan_last : (f : Asset → Option Refusal) (n : ℕ) (assets : List Asset) (e : Extent) (k : ℕ) → IsExtent n assets e → e.end ≤ k → first_refusal f (rest (of_voucher n) k assets) ≡ None
scan_last f n assets e k is l = ap (first_refusal f) (rest_last (of_voucher n) assets k (λ j d jl m. is.are j d jl ∙ after_it e j (omega (arith, l, m))))

-- ---- a step on the first so many

abbrev pub step_first : {A : Type 0} → ℕ → (A → A) → List A → List A
step_first zero f xs = xs
step_first (suc k) f [] = []
step_first (suc k) f (x ∷ xs) = f x ∷ step_first k f xs

pub length-step : {A : Type 0} (k : ℕ) (f : A → A) (xs : List A) → length (step_first k f xs) ≡ length xs
length-step zero f xs = refl
length-step (suc k) f [] = refl
length-step (suc k) f (x ∷ xs) = ap suc (length-step k f xs)

-- nothing changes before the first place
pub step_start : {A : Type 0} (k : ℕ) (f : A → A) (xs : List A) → ((j : ℕ) (d : A) → j < length xs → j < k → f (get_or xs j d) ≡ get_or xs j d) → step_first k f xs ≡ xs
step_start zero f xs same = refl
step_start (suc k) f [] same = refl
step_start (suc k) f (x ∷ xs) same = λ i. same zero x (omega arith) (omega arith) i ∷ step_start k f xs (λ j d l m. same (suc j) d (omega arith) (omega arith)) i

pub step_at : {A : Type 0} (k : ℕ) (f : A → A) (xs : List A) (d : A) → get_or (step_first k f xs) k d ≡ get_or xs k d
step_at zero f xs d = refl
step_at (suc k) f [] d = refl
step_at (suc k) f (x ∷ xs) d = step_at k f xs d

pub step_more : {A : Type 0} (k : ℕ) (f : A → A) (xs : List A) (d : A) → k < length xs → set (step_first k f xs) k (f (get_or xs k d)) ≡ step_first (suc k) f xs
step_more k f [] d l = absurd (omega arith)
step_more zero f (x ∷ xs) d l = refl
step_more (suc k) f (x ∷ xs) d l = ap (λ ys. f x ∷ ys) (step_more k f xs d (omega arith))

-- nor from the last one on
pub step_end : {A : Type 0} (k : ℕ) (f : A → A) (xs : List A) → ((j : ℕ) (d : A) → j < length xs → k ≤ j → f (get_or xs j d) ≡ get_or xs j d) → step_first k f xs ≡ map f xs
step_end zero f [] same = refl
step_end zero f (x ∷ xs) same = λ i. sym (same zero x (omega arith) (omega arith)) i ∷ step_end zero f xs (λ j d l m. same (suc j) d (omega arith) (omega arith)) i
step_end (suc k) f [] same = refl
step_end (suc k) f (x ∷ xs) same = ap (λ ys. f x ∷ ys) (step_end k f xs (λ j d l m. same (suc j) d (omega arith) (omega arith)))

-- a step that changes one element
pub set_step : {A : Type 0} (k : ℕ) (f : A → A) (xs : List A) (d : A) → k < length xs → ((j : ℕ) (e : A) → j < length xs → j ≢ k → f (get_or xs j e) ≡ get_or xs j e) → set xs k (f (get_or xs k d)) ≡ map f xs
set_step k f xs d l same =
    ap (λ ys. set ys k (f (get_or xs k d))) (sym (step_start k f xs (λ j e jl m. same j e jl (λ h. omega (arith, h, m)))))
    ∙ step_more k f xs d l
    ∙ step_end (suc k) f xs (λ j e jl m. same j e jl (λ h. omega (arith, h, m)))

-- ---- the void of a voucher

others_stay : (n : ℕ) (a : Asset) → is_number (voucher_of a.origin) n ≡ false → voids n a ≡ a
others_stay n a e = rw e refl

its_void : (n : ℕ) (a : Asset) → is_number (voucher_of a.origin) n ≡ true → voids n a ≡ staged void a
its_void n a e = rw e refl

pub void_first : (n : ℕ) (assets : List Asset) (e : Extent) → IsExtent n assets e → step_first e.first (voids n) assets ≡ assets
void_first n assets e is = step_start e.first (voids n) assets (λ j d l m. others_stay n (get_or assets j d) (is.are j d l ∙ before_it e j m))

pub void_last : (n k : ℕ) (assets : List Asset) (e : Extent) → IsExtent n assets e → e.end ≤ k → step_first k (voids n) assets ≡ map (voids n) assets
void_last n k assets e is l = step_end k (voids n) assets (λ j d jl m. others_stay n (get_or assets j d) (is.are j d jl ∙ after_it e j (omega (arith, l, m))))

pub void_next : (n k : ℕ) (assets now new : List Asset) (e : Extent) → IsExtent n assets e → e.first ≤ k → k < e.end → now ≡ step_first k (voids n) assets → StagesOne k void now new → new ≡ step_first (k + 1) (voids n) assets
void_next n k assets now new e is a b at stages =
    let d = view_asset no_row in
    let more : suc k ≡ k + 1 = omega arith in
    stages d
    ∙ (λ i. set (at i) k (staged void (get_or (at i) k d)))
    ∙ ap (λ (x : Asset). set (step_first k (voids n) assets) k (staged void x)) (step_at k (voids n) assets d)
    ∙ ap (set (step_first k (voids n) assets) k) (sym (its_void n (get_or assets k d) (is_its n assets e k d is a b)))
    ∙ step_more k (voids n) assets d (omega (arith, b, is.within))
    ∙ ap (λ m. step_first m (voids n) assets) more

number_some : (o : Option ℕ) (n : ℕ) → is_number o n ≡ true → is_some o ≡ true
number_some None n e = cc
number_some (Some m) n e = refl

pub can_void : (n k : ℕ) (assets : List Asset) (i : Inventory) (closed : ℕ) (e : Extent) → IsExtent n assets e → e.first ≤ k → k < e.end → first_refusal (voided_asset closed) (filter (of_voucher n) assets) ≡ None →
    i.assets ≡ step_first k (voids n) assets → i.closed ≡ closed → CanVoid k i
can_void n k assets i closed e is a b none at same = record {
  bought = λ d. ap (λ (x : Asset). is_some (voucher_of x.origin)) (here d) ∙ number_some (voucher_of (get_or assets k d).origin) n (is_its n assets e k d is a b);
  allowed = λ d. (λ j. voided_asset (same j) (here d j)) ∙ none_refused (voided_asset closed) (of_voucher n) assets k d none (omega (arith, b, is.within)) (is_its n assets e k d is a b);
}
  where
    here : (d : Asset) → get_or i.assets k d ≡ get_or assets k d
    here d = ap (λ xs. get_or xs k d) at ∙ step_at k (voids n) assets d

-- ---- a disposal

held_of : (n : ℕ) (s : Stage) → not_held n s ≡ None → s ≡ held
held_of n held e = refl
held_of n void e = cc
held_of n (disposed year closed) e = cc

first_of_two : (r other : Option Refusal) → or_else r other ≡ None → r ≡ None
first_of_two None other e = refl
first_of_two (Some r) other e = cc

differ_number : (a b : ℕ) → a ≢ b → (a == b) ≡ false
differ_number a b n = grind (arith, common_steps)

same_number : (a b : ℕ) → a ≡ b → (a == b) ≡ true
same_number a b e = grind (arith, common_steps)

pub held_number : (on : Day) (number k : ℕ) (assets : List Asset) → AreNumbered assets → k < length assets → number ≡ k + 1 → first_refusal (disposed_asset on) (filter (λ a. a.number == number) assets) ≡ None →
    (d : Asset) → (get_or assets k d).stage ≡ held
held_number on number k assets numbered l is none d =
    let a = get_or assets k d in
    held_of a.number a.stage
    (first_of_two (not_held a.number a.stage)
    (or_else (refuse_if (is_leased a.origin) (refusal.AssetState a.number fault.Leased)) (refuse_if (is_before on a.on) (refusal.AssetState a.number fault.Later)))
    (none_refused (disposed_asset on) (λ (x : Asset). x.number == number) assets k d none l (same_number a.number number (omega (arith, numbered k d l, is)))))

pub disposed_one : (number k year closed : ℕ) (assets new : List Asset) → AreNumbered assets → k < length assets → number ≡ k + 1 → StagesOne k (disposed year closed) assets new → new ≡ map (disposes number year closed) assets
disposed_one number k year closed assets new numbered l is stages =
    let d = view_asset no_row in
    stages d
    ∙ ap (set assets k) (sym (its (get_or assets k d) (omega (arith, numbered k d l, is))))
    ∙ set_step k (disposes number year closed) assets d l (λ j e jl apart. other (get_or assets j e) (λ same. apart (omega (arith, same, numbered j e jl, is))))
  where
    its : (a : Asset) → a.number ≡ number → disposes number year closed a ≡ staged (disposed year closed) a
    its a e = rw (same_number a.number number e) refl

    other : (a : Asset) → a.number ≢ number → disposes number year closed a ≡ a
    other a n = rw (differ_number a.number number n) refl

pub disposed_none : (number year closed : ℕ) (assets : List Asset) → AreNumbered assets → (number ≡ 0) ⊎ (length assets < number) → assets ≡ map (disposes number year closed) assets
disposed_none number year closed assets numbered out = step_end zero (disposes number year closed) assets (λ j d l m. other (get_or assets j d) (apart j d l out))
  where
    other : (a : Asset) → a.number ≢ number → disposes number year closed a ≡ a
    other a n = rw (differ_number a.number number n) refl

    apart : (j : ℕ) (d : Asset) → j < length assets → (number ≡ 0) ⊎ (length assets < number) → (get_or assets j d).number ≢ number
    apart j d l (inl e) = λ same. omega (arith, same, numbered j d l, e)
    apart j d l (inr m) = λ same. omega (arith, same, numbered j d l, m, l)

-- ---- extents

no_voucher : (n : ℕ) (extents : List Extent) → length extents < n → extent_at extents n ≡ no_extent
no_voucher zero extents l = absurd (omega arith)
no_voucher (suc n) extents l = get_or_past extents n no_extent (omega arith)

extent_old : (extents : List Extent) (e : Extent) (n : ℕ) → n ≢ length extents + 1 → extent_at (extents ++ e ∷ []) n ≡ extent_at extents n
extent_old extents e zero apart = refl
extent_old extents e (suc m) apart = at (less_or_not m (length extents))
  where
    at : (m < length extents) ⊎ (length extents ≤ m) → get_or (extents ++ e ∷ []) m no_extent ≡ get_or extents m no_extent
    at (inl l) = get_or_append_left extents (e ∷ []) no_extent m l
    at (inr l) = get_or_past (extents ++ e ∷ []) m no_extent (rw (length-append extents (e ∷ [])) (omega (arith, l, apart))) ∙ sym (get_or_past extents m no_extent l)

extent_new : (extents : List Extent) (e : Extent) → extent_at (extents ++ e ∷ []) (length extents + 1) ≡ e
extent_new extents e = ap (extent_at (extents ++ e ∷ [])) (let z : length extents + 1 ≡ suc (length extents) = omega arith in z) ∙ get_or_push extents e no_extent (length extents) refl

-- the first voucher is still to come
pub extents_none : AreExtents [] []
extents_none n = subst (IsExtent n []) (sym (at n)) (record { ordered = omega arith; within = omega arith; are = λ k d l. absurd (omega arith) })
  where
    at : (n : ℕ) → extent_at [] n ≡ no_extent
    at zero = refl
    at (suc n) = refl

-- assets of another voucher, or of none
extent_more : (n : ℕ) (old added : List Asset) (e : Extent) → IsExtent n old e → ((k : ℕ) (d : Asset) → k < length added → is_number (voucher_of (get_or added k d).origin) n ≡ false) → IsExtent n (old ++ added) e
extent_more n old added e is others = record {
  ordered = is.ordered;
  within = omega (arith, is.within, length-append old added);
  are = λ k d l. at k d l (less_or_not k (length old));
}
  where
    at : (k : ℕ) (d : Asset) → k < length (old ++ added) → (k < length old) ⊎ (length old ≤ k) → is_number (voucher_of (get_or (old ++ added) k d).origin) n ≡ is_within e k
    at k d l (inl a) = ap (λ (x : Asset). is_number (voucher_of x.origin) n) (get_or_append_left old added d k a) ∙ is.are k d a
    at k d l (inr a) =
        ap (λ (x : Asset). is_number (voucher_of x.origin) n) (get_or-append_right old added (length old) k d refl a)
        ∙ others (k - length old) d (omega (arith, a, l, length-append old added))
        ∙ sym (after_it e k (omega (arith, a, is.within)))

pub extents_gift : (extents : List Extent) (assets : List Asset) (a : Asset) → voucher_of a.origin ≡ None → AreExtents extents assets → AreExtents extents (assets ++ a ∷ [])
extents_gift extents assets a none are n = extent_more n assets (a ∷ []) (extent_at extents n) (are n) (λ k d l. other k d l)
  where
    other : (k : ℕ) (d : Asset) → k < 1 → is_number (voucher_of (get_or (a ∷ []) k d).origin) n ≡ false
    other zero d l = ap (λ o. is_number o n) none
    other (suc k) d l = absurd (omega arith)

-- a voucher more, and its assets
pub extents_push : (extents : List Extent) (old added : List Asset) → AreExtents extents old → ((k : ℕ) (d : Asset) → k < length added → voucher_of (get_or added k d).origin ≡ Some (length extents + 1)) →
    AreExtents (extents ++ record { first = length old; end = length (old ++ added) } ∷ []) (old ++ added)
extents_push extents old added are its n = by_number (same_or_not n (length extents + 1))
  where
    e : Extent
    e = record { first = length old; end = length (old ++ added) }

    differ : (a b : ℕ) → b ≢ a → (a == b) ≡ false
    differ a b n = grind (arith, common_steps)

    agree : (a : ℕ) → (a == a) ≡ true
    agree a = grind (arith, common_steps)

    long : length (old ++ added) ≡ length old + length added
    long = length-append old added

    at : (k : ℕ) (d : Asset) → k < length (old ++ added) → (k < length old) ⊎ (length old ≤ k) → is_number (voucher_of (get_or (old ++ added) k d).origin) (length extents + 1) ≡ is_within (record { first = length old; end = length (old ++ added) }) k
    at k d l (inl a) =
        ap (λ (x : Asset). is_number (voucher_of x.origin) (length extents + 1)) (get_or_append_left old added d k a)
        ∙ (are (length extents + 1)).are k d a
        ∙ ap (λ (x : Extent). is_within x k) (no_voucher (length extents + 1) extents (omega arith))
        ∙ after_it (record { first = 0; end = 0 }) k (omega arith)
        ∙ sym (before_it (record { first = length old; end = length (old ++ added) }) k a)
    at k d l (inr a) =
        ap (λ (x : Asset). is_number (voucher_of x.origin) (length extents + 1)) (get_or-append_right old added (length old) k d refl a)
        ∙ ap (λ o. is_number o (length extents + 1)) (its (k - length old) d (omega (arith, a, l, long)))
        ∙ agree (length extents + 1)
        ∙ sym (in_it (record { first = length old; end = length (old ++ added) }) k a l)

    here : IsExtent (length extents + 1) (old ++ added) (record { first = length old; end = length (old ++ added) })
    here = record { ordered = omega (arith, long); within = omega arith; are = λ k d l. at k d l (less_or_not k (length old)) }

    by_number : (n ≡ length extents + 1) ⊎ (n ≢ length extents + 1) → IsExtent n (old ++ added) (extent_at (extents ++ record { first = length old; end = length (old ++ added) } ∷ []) n)
    by_number (inl same) =
        subst (λ m. IsExtent m (old ++ added) (extent_at (extents ++ record { first = length old; end = length (old ++ added) } ∷ []) m)) (sym same)
        (subst (IsExtent (length extents + 1) (old ++ added)) (sym (extent_new extents (record { first = length old; end = length (old ++ added) }))) here)
    by_number (inr apart) =
        subst (IsExtent n (old ++ added)) (sym (extent_old extents (record { first = length old; end = length (old ++ added) }) n apart))
        (extent_more n old added (extent_at extents n) (are n) (λ k d l. ap (λ o. is_number o n) (its k d l) ∙ differ (length extents + 1) n apart))

-- a step that leaves each asset's voucher
pub extents_map : (f : Asset → Asset) (extents : List Extent) (assets : List Asset) → ((a : Asset) → voucher_of (f a).origin ≡ voucher_of a.origin) → AreExtents extents assets → AreExtents extents (map f assets)
extents_map f extents assets keeps are n =
    let was = are n in record {
      ordered = was.ordered;
      within = rw (length-map assets f) was.within;
      are = λ k d l. let m : k < length assets = rw (length-map assets f) at l in
          ap (λ (a : Asset). is_number (voucher_of a.origin) n) (get_or-map f assets k d d m) ∙ ap (λ o. is_number o n) (keeps (get_or assets k d)) ∙ was.are k d m;
    }

-- ---- what the register's steps keep

pub voids_keep : (n : ℕ) (a : Asset) → voucher_of (voids n a).origin ≡ voucher_of a.origin
voids_keep n a = by_test (is_number (voucher_of a.origin) n)
  where
    by_test : (b : Bool) → voucher_of (if b then staged void a else a).origin ≡ voucher_of a.origin
    by_test true = refl
    by_test false = refl

pub disposes_keep : (number year closed : ℕ) (a : Asset) → voucher_of (disposes number year closed a).origin ≡ voucher_of a.origin
disposes_keep number year closed a = by_test (a.number == number)
  where
    by_test : (b : Bool) → voucher_of (if b then staged (disposed year closed) a else a).origin ≡ voucher_of a.origin
    by_test true = refl
    by_test false = refl

-- what a voucher buys is its own
pub bought_its : (plan : Plan) (voucher : ℕ) (on : Day) (year number : ℕ) (items : List VoucherItem) (k : ℕ) (d : Asset) → k < length (bought plan voucher on year number items) → voucher_of (get_or (bought plan voucher on year number items) k d).origin ≡ Some voucher
bought_its plan voucher on year number [] k d l = absurd (omega arith)
bought_its plan voucher on year number (i ∷ items) k d l =
    by_test (is_capital (object_at plan i.account.object)) k l (λ j m. bought_its plan voucher on year (number + 1) items j d m) (λ j m. bought_its plan voucher on year number items j d m)
  where
    by_test : (b : Bool) (k : ℕ) → k < length (if b then new_asset plan (purchase voucher) on year number i.account.dept (life_of plan i.account.object) i.account.amount ∷ bought plan voucher on year (number + 1) items else bought plan voucher on year number items) →
        ((j : ℕ) → j < length (bought plan voucher on year (number + 1) items) → voucher_of (get_or (bought plan voucher on year (number + 1) items) j d).origin ≡ Some voucher) →
        ((j : ℕ) → j < length (bought plan voucher on year number items) → voucher_of (get_or (bought plan voucher on year number items) j d).origin ≡ Some voucher) →
        voucher_of (get_or (if b then new_asset plan (purchase voucher) on year number i.account.dept (life_of plan i.account.object) i.account.amount ∷ bought plan voucher on year (number + 1) items else bought plan voucher on year number items) k d).origin ≡ Some voucher
    by_test true zero l more same = refl
    by_test true (suc k) l more same = more k (omega arith)
    by_test false k l more same = same k l
