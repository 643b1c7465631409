-- The assets that pass a test: those from one place up to another.
use Rattle.std.proofs.Common.{◌≡◌, ◌≢◌, ◌⊎◌, inl, inr, ℕ, zero, suc, ◌+◌, ◌<◌, ◌≤◌, Bool, true, false, if◌then◌else◌, ◌==◌, List, [], ◌∷◌, length, drop, get_or, Option, Some, None, find, slice_get, option_to_list, is_some, refl, sym, ap, ◌∙◌, arith, filter}
use Rattle.cf_base.proofs.Common.{common_steps, drop_more}
use Rattle.cf_assets.specs.Inventory.{AreNumbered}
use Rattle.cf_assets.specs.Rows.{view_asset, no_row}
use Rattle.cf_model.specs.Common.{Refusal, Asset, asset_at, or_else, first_refusal}

-- no element passes
pub filter_none : {X : Type 0} (p : X → Bool) (xs : List X) → ((k : ℕ) (d : X) → k < length xs → p (get_or xs k d) ≡ false) → filter p xs ≡ []
filter_none p [] none = refl
filter_none p (x ∷ xs) none = rw (none zero x (omega arith)) (filter_none p xs (λ k d l. none (suc k) d (omega arith)))

-- one passes
pub filter_one : {X : Type 0} (p : X → Bool) (xs : List X) (k : ℕ) (d : X) → k < length xs → p (get_or xs k d) ≡ true → ((j : ℕ) (e : X) → j < length xs → j ≢ k → p (get_or xs j e) ≡ false) → filter p xs ≡ get_or xs k d ∷ []
filter_one p [] k d l passes fails = absurd (omega arith)
filter_one p (x ∷ xs) zero d l passes fails = rw passes (ap (λ t. x ∷ t) (filter_none p xs (λ j e m. fails (suc j) e (omega arith) (omega arith))))
filter_one p (x ∷ xs) (suc k) d l passes fails = rw (fails zero x (omega arith) (omega arith)) (filter_one p xs k d (omega arith) passes (λ j e m n. fails (suc j) e (omega arith) (λ same. n (omega arith))))

find-filter : {X : Type 0} (p : X → Bool) (xs : List X) → find p xs ≡ slice_get (filter p xs) 0
find-filter p [] = refl
find-filter p (x ∷ xs) = by_test (p x) (find-filter p xs)
  where
    by_test : (b : Bool) → find p xs ≡ slice_get (filter p xs) 0 → (if b then Some x else find p xs) ≡ slice_get (if b then x ∷ filter p xs else filter p xs) 0
    by_test true e = refl
    by_test false e = e

differ : (a b : ℕ) → a ≢ b → (a == b) ≡ false
differ a b n = grind (arith, common_steps)

agree : (a b : ℕ) → a ≡ b → (a == b) ≡ true
agree a b e = grind (arith, common_steps)

-- ---- the asset of a number

pub filter_number : (assets : List Asset) (number k : ℕ) (d : Asset) → AreNumbered assets → k < length assets → number ≡ k + 1 → filter (λ a. a.number == number) assets ≡ get_or assets k d ∷ []
filter_number assets number k d numbered l is =
    filter_one (λ (a : Asset). a.number == number) assets k d l (agree (get_or assets k d).number number (omega (arith, numbered k d l, is)))
    (λ j e m n. differ (get_or assets j e).number number (λ same. n (omega (arith, same, numbered j e m, is))))

pub filter_no_number : (assets : List Asset) (number : ℕ) → AreNumbered assets → (number ≡ 0) ⊎ (length assets < number) → filter (λ a. a.number == number) assets ≡ []
filter_no_number assets number numbered out = filter_none (λ (a : Asset). a.number == number) assets (λ k d l. differ (get_or assets k d).number number (apart k d l out))
  where
    apart : (k : ℕ) (d : Asset) → k < length assets → (number ≡ 0) ⊎ (length assets < number) → (get_or assets k d).number ≢ number
    apart k d l (inl e) = λ same. omega (arith, same, numbered k d l, e)
    apart k d l (inr m) = λ same. omega (arith, same, numbered k d l, m, l)

pub found_number : (assets : List Asset) (number k : ℕ) (d : Asset) → AreNumbered assets → k < length assets → number ≡ k + 1 → asset_at number assets ≡ Some (get_or assets k d)
found_number assets number k d numbered l is = find-filter (λ (a : Asset). a.number == number) assets ∙ ap (λ t. slice_get t 0) (filter_number assets number k d numbered l is)

pub no_number : (assets : List Asset) (number : ℕ) → AreNumbered assets → (number ≡ 0) ⊎ (length assets < number) → asset_at number assets ≡ None
no_number assets number numbered out = find-filter (λ (a : Asset). a.number == number) assets ∙ ap (λ t. slice_get t 0) (filter_no_number assets number numbered out)

-- ---- the first refusal of those that pass

-- what passes from a place on
abbrev pub rest : {X : Type 0} → (X → Bool) → ℕ → List X → List X
rest p k xs = filter p (drop k xs)

-- before the first place none passes
pub rest_first : {X : Type 0} (p : X → Bool) (xs : List X) (k : ℕ) → ((j : ℕ) (d : X) → j < length xs → j < k → p (get_or xs j d) ≡ false) → filter p xs ≡ rest p k xs
rest_first p xs zero none = refl
rest_first p [] (suc k) none = refl
rest_first p (x ∷ xs) (suc k) none = rw (none zero x (omega arith) (omega arith)) (rest_first p xs k (λ j d l m. none (suc j) d (omega arith) (omega arith)))

pub rest_more : {X : Type 0} (p : X → Bool) (xs : List X) (k : ℕ) (d : X) → k < length xs → p (get_or xs k d) ≡ true → rest p k xs ≡ get_or xs k d ∷ rest p (k + 1) xs
rest_more p xs k d l passes = ap (filter p) (drop_more xs k d l) ∙ rw passes refl

-- and from the last one on none does
pub rest_last : {X : Type 0} (p : X → Bool) (xs : List X) (k : ℕ) → ((j : ℕ) (d : X) → j < length xs → k ≤ j → p (get_or xs j d) ≡ false) → rest p k xs ≡ []
rest_last p xs zero none = filter_none p xs (λ j d l. none j d l (omega arith))
rest_last p [] (suc k) none = refl
rest_last p (x ∷ xs) (suc k) none = rest_last p xs k (λ j d l m. none (suc j) d (omega arith) (omega arith))

-- the asset of a number is the only one that has it
pub number_alone : (assets : List Asset) (number : ℕ) → AreNumbered assets → filter (λ a. a.number == number) assets ≡ option_to_list (asset_at number assets)
number_alone assets zero numbered = filter_no_number assets zero numbered (inl refl) ∙ sym (ap option_to_list (no_number assets zero numbered (inl refl)))
number_alone assets (suc k) numbered = by_size (less_or_not k (length assets))
  where
    less_or_not : (a b : ℕ) → (a < b) ⊎ (b ≤ a)
    less_or_not a b = grind arith

    next : suc k ≡ k + 1
    next = omega arith

    none : Asset
    none = view_asset no_row

    by_size : (k < length assets) ⊎ (length assets ≤ k) → filter (λ a. a.number == suc k) assets ≡ option_to_list (asset_at (suc k) assets)
    by_size (inl l) = filter_number assets (suc k) k none numbered l next ∙ sym (ap option_to_list (found_number assets (suc k) k none numbered l next))
    by_size (inr l) = filter_no_number assets (suc k) numbered (inr (omega (arith, l))) ∙ sym (ap option_to_list (no_number assets (suc k) numbered (inr (omega (arith, l)))))

-- ---- refusals

pub or_none : (r : Option Refusal) → or_else r None ≡ r
or_none None = refl
or_none (Some r) = refl

pub refusal_found : (r other : Option Refusal) → is_some r ≡ true → or_else r other ≡ r
refusal_found None other e = cc
refusal_found (Some r) other e = refl

first_none : (r other : Option Refusal) → or_else r other ≡ None → (r ≡ None) × (other ≡ None)
first_none None other e = (refl, e)
first_none (Some r) other e = cc

-- where none is refused, each that passes isn't
pub none_refused : {X : Type 0} (f : X → Option Refusal) (p : X → Bool) (xs : List X) (k : ℕ) (d : X) → first_refusal f (filter p xs) ≡ None → k < length xs → p (get_or xs k d) ≡ true → f (get_or xs k d) ≡ None
none_refused f p [] k d none l passes = absurd (omega arith)
none_refused f p (x ∷ xs) zero d none l passes = (first_none (f x) (first_refusal f (filter p xs)) (rw passes at none)).0
none_refused f p (x ∷ xs) (suc k) d none l passes = by_test (p x) none (λ e. none_refused f p xs k d e (omega arith) passes)
  where
    by_test : (b : Bool) → first_refusal f (if b then x ∷ filter p xs else filter p xs) ≡ None → (first_refusal f (filter p xs) ≡ None → f (get_or xs k d) ≡ None) → f (get_or xs k d) ≡ None
    by_test true e more = more ((first_none (f x) (first_refusal f (filter p xs)) e).1)
    by_test false e more = more e
