-- Lists that rise by vendor: what each vendor was paid determines them.
use Rattle.std.proofs.Common.{◌≡◌, ◌<◌, ◌≤◌, ◌+◌, ◌∙◌, ℕ, suc, Bool, true, false, if◌then◌else◌, ◌⊎◌, inl, inr, List, [], ◌∷◌, refl, sym, ap, ap₂, arith, length, get_or, ◌==◌, ◌&&◌, nat_le, not, pos, filter, is_lt, nat_cmp}
use Rattle.cf_base.proofs.Common.{IsNonDecreasingBy, IsStableByKey, ties, cases_lt, eq-eqb, eqb-true, leb-false, leb-true, nat_tests}
use Rattle.cf_books_payments.specs.Paid.{by_vendor, placed}
use Rattle.cf_books_payments.specs.declared.entered.Paid.{Paid}
use Rattle.cf_books_payments.specs.declared.entered.PaidKind.TheVariants as kind

abbrev is_of : ℕ → Paid → Bool
is_of v p = p.vendor == v

-- each is of a vendor that is at least this one
abbrev IsLow : ℕ → List Paid → Type 0
IsLow v [] = Unit {0}
IsLow v (p ∷ rest) = (v ≤ p.vendor) × IsLow v rest

abbrev Rises : List Paid → Type 0
Rises [] = Unit {0}
Rises (p ∷ rest) = IsLow p.vendor rest × Rises rest

-- ---- numbers

apart_up : (a b : ℕ) → a < b → (b == a) ≡ false
apart_up a b h = grind (arith, nat_tests)

-- ---- lists that rise

low_le : (v w : ℕ) (ps : List Paid) → v ≤ w → IsLow w ps → IsLow v ps
low_le v w [] le low = tt
low_le v w (p ∷ rest) le low = (omega (arith, le, low.0), low_le v w rest le low.1)

low_from : (v : ℕ) (ps : List Paid) → ((j : ℕ) (d : Paid) → j < length ps → v ≤ (get_or ps j d).vendor) → IsLow v ps
low_from v [] each = tt
low_from v (p ∷ rest) each = (each 0 p (omega arith), low_from v rest (λ j d below. each (suc j) d (omega (arith, below))))

pub rises_from : (ps : List Paid) → IsNonDecreasingBy (λ (p : Paid). p.vendor) ps → Rises ps
rises_from [] up = tt
rises_from (p ∷ rest) up = (
  low_from p.vendor rest (λ j d below. up 0 (suc j) d (omega arith) (omega (arith, below))),
  rises_from rest (λ i j d le below. up (suc i) (suc j) d (omega (arith, le)) (omega (arith, below))),
)

low_if : (v : ℕ) (p q : Paid) (rest : List Paid) (b : Bool) → v ≤ p.vendor → IsLow v (q ∷ rest) → IsLow v (placed p rest) → IsLow v (if b then p ∷ (q ∷ rest) else q ∷ placed p rest)
low_if v p q rest true le low later = (le, low)
low_if v p q rest false le low later = (low.0, later)

placed_low : (v : ℕ) (p : Paid) (ps : List Paid) → v ≤ p.vendor → IsLow v ps → IsLow v (placed p ps)
placed_low v p [] le low = (le, tt)
placed_low v p (q ∷ rest) le low = low_if v p q rest (nat_le p.vendor q.vendor) le low (placed_low v p rest le low.1)

rises_if : (p q : Paid) (rest : List Paid) (b : Bool) → nat_le p.vendor q.vendor ≡ b → Rises (q ∷ rest) → Rises (placed p rest) → Rises (if b then p ∷ (q ∷ rest) else q ∷ placed p rest)
rises_if p q rest true is up later = let le = leb-true p.vendor q.vendor is in ((le, low_le p.vendor q.vendor rest le up.0), up)
rises_if p q rest false is up later = let gt = leb-false p.vendor q.vendor is in (placed_low q.vendor p rest (omega (arith, gt)) up.0, later)

placed_rises : (p : Paid) (ps : List Paid) → Rises ps → Rises (placed p ps)
placed_rises p [] up = (tt, tt)
placed_rises p (q ∷ rest) up = rises_if p q rest (nat_le p.vendor q.vendor) refl up (placed_rises p rest up.1)

pub by_vendor_rises : (ps : List Paid) → Rises (by_vendor ps)
by_vendor_rises [] = tt
by_vendor_rises (p ∷ rest) = placed_rises p (by_vendor rest) (by_vendor_rises rest)

-- ---- what a vendor was paid stays in its order

swapped : (a b : Bool) (p q : Paid) (xs : List Paid) → (a ≡ true → b ≡ true → ⊥)
    → (if b then q ∷ (if a then p ∷ xs else xs) else (if a then p ∷ xs else xs)) ≡ (if a then p ∷ (if b then q ∷ xs else xs) else (if b then q ∷ xs else xs))
swapped true true p q xs never = absurd (never refl refl)
swapped true false p q xs never = refl
swapped false true p q xs never = refl
swapped false false p q xs never = refl

filter_if : (v : ℕ) (p q : Paid) (rest : List Paid) (b : Bool) → nat_le p.vendor q.vendor ≡ b → filter (is_of v) (placed p rest) ≡ filter (is_of v) (p ∷ rest)
    → filter (is_of v) (if b then p ∷ (q ∷ rest) else q ∷ placed p rest) ≡ filter (is_of v) (p ∷ (q ∷ rest))
filter_if v p q rest true is later = refl
filter_if v p q rest false is later =
    ap (λ t. if is_of v q then q ∷ t else t) later
    ∙ swapped (is_of v p) (is_of v q) p q (filter (is_of v) rest)
    (λ a b. let gt = leb-false p.vendor q.vendor is in omega (arith, gt, eqb-true p.vendor v a, eqb-true q.vendor v b))

placed_filter : (v : ℕ) (p : Paid) (ps : List Paid) → filter (is_of v) (placed p ps) ≡ filter (is_of v) (p ∷ ps)
placed_filter v p [] = refl
placed_filter v p (q ∷ rest) = filter_if v p q rest (nat_le p.vendor q.vendor) refl (placed_filter v p rest)

pub by_vendor_filter : (v : ℕ) (ps : List Paid) → filter (is_of v) (by_vendor ps) ≡ filter (is_of v) ps
by_vendor_filter v [] = refl
by_vendor_filter v (p ∷ rest) = placed_filter v p (by_vendor rest) ∙ ap (λ t. if is_of v p then p ∷ t else t) (by_vendor_filter v rest)

-- ---- there is one such list

none_of : (v : ℕ) (ps : List Paid) → IsLow (v + 1) ps → filter (is_of v) ps ≡ []
none_of v [] low = refl
none_of v (p ∷ rest) low = ap (λ (b : Bool). if b then p ∷ filter (is_of v) rest else filter (is_of v) rest) (apart_up v p.vendor (omega (arith, low.0))) ∙ none_of v rest low.1

first_of : (p : Paid) (rest : List Paid) → filter (is_of p.vendor) (p ∷ rest) ≡ p ∷ filter (is_of p.vendor) rest
first_of p rest = ap (λ (b : Bool). if b then p ∷ filter (is_of p.vendor) rest else filter (is_of p.vendor) rest) (eq-eqb p.vendor p.vendor refl)

no_less : (x y : Paid) (xs ys : List Paid) → Rises (y ∷ ys) → x.vendor < y.vendor → filter (is_of x.vendor) (x ∷ xs) ≡ filter (is_of x.vendor) (y ∷ ys) → ⊥
no_less x y xs ys up less same =
    let e : x ∷ filter (is_of x.vendor) xs ≡ [] = sym (first_of x xs) ∙ same ∙ none_of x.vendor (y ∷ ys) (omega (arith, less), low_le (x.vendor + 1) y.vendor ys (omega (arith, less)) up.0) in
    cc

rest_if : (b : Bool) (x y : Paid) (s t : List Paid) → (if b then x ∷ s else s) ≡ (if b then y ∷ t else t) → s ≡ t
rest_if true x y s t e = cc
rest_if false x y s t e = e

one_first : (x y : Paid) (xs ys : List Paid) → x.vendor ≡ y.vendor → ((v : ℕ) → filter (is_of v) (x ∷ xs) ≡ filter (is_of v) (y ∷ ys)) → x ≡ y
one_first x y xs ys e same =
    let heads : x ∷ filter (is_of x.vendor) xs ≡ y ∷ filter (is_of y.vendor) ys =
    sym (first_of x xs) ∙ same x.vendor ∙ ap (λ v. filter (is_of v) (y ∷ ys)) e ∙ first_of y ys in
    cc

one_rest : (x y : Paid) (xs ys : List Paid) → x.vendor ≡ y.vendor → (v : ℕ) → filter (is_of v) (x ∷ xs) ≡ filter (is_of v) (y ∷ ys) → filter (is_of v) xs ≡ filter (is_of v) ys
one_rest x y xs ys e v same =
    rest_if (is_of v x) x y (filter (is_of v) xs) (filter (is_of v) ys)
    (same ∙ ap (λ (w : ℕ). if w == v then y ∷ filter (is_of v) ys else filter (is_of v) ys) (sym e))

pub unique : (xs ys : List Paid) → Rises xs → Rises ys → ((v : ℕ) → filter (is_of v) xs ≡ filter (is_of v) ys) → xs ≡ ys
unique [] [] up up' same = refl
unique [] (y ∷ ys) up up' same = let e : [] ≡ y ∷ filter (is_of y.vendor) ys = same y.vendor ∙ first_of y ys in cc
unique (x ∷ xs) [] up up' same = let e : [] ≡ x ∷ filter (is_of x.vendor) xs = sym (same x.vendor) ∙ first_of x xs in cc
unique (x ∷ xs) (y ∷ ys) up up' same =
    let e : x.vendor ≡ y.vendor = same_vendor (cases_lt x.vendor y.vendor) (cases_lt y.vendor x.vendor) in
    ap₂ (λ z zs. z ∷ zs) (one_first x y xs ys e same) (unique xs ys up.1 up'.1 (λ v. one_rest x y xs ys e v (same v)))
  where
    same_vendor : (x.vendor < y.vendor) ⊎ (y.vendor ≤ x.vendor) → (y.vendor < x.vendor) ⊎ (x.vendor ≤ y.vendor) → x.vendor ≡ y.vendor
    same_vendor a b =
        elim a [
          | inl less ↦ absurd (no_less x y xs ys up' less (same x.vendor))
          | inr le ↦ elim b [ inl less ↦ absurd (no_less y x ys xs up less (sym (same y.vendor))) | inr le' ↦ omega (arith, le, le') ]
        ]

-- ---- a stable sort

tie : (v w : ℕ) → (not (is_lt (nat_cmp v w)) && not (is_lt (nat_cmp w v))) ≡ (w == v)
tie v w = grind (arith, nat_tests)

any_paid : ℕ → Paid
any_paid v = record { vendor = v; kind = kind.Voucher; number = 0; at = 0; by = 0; amount = pos 0 }

pub sorted : (xs ys : List Paid) → IsNonDecreasingBy (λ (p : Paid). p.vendor) ys → IsStableByKey (λ (p : Paid). p.vendor) nat_cmp xs ys → ys ≡ by_vendor xs
unfolding any_paid
sorted xs ys up stable =
    unique ys (by_vendor xs) (rises_from ys up) (by_vendor_rises xs)
    (λ v. sym (kept v ys) ∙ stable (any_paid v) ∙ kept v xs ∙ sym (by_vendor_filter v xs))
  where
    kept : (v : ℕ) (ps : List Paid) → filter (ties (λ (a b : Paid). is_lt (nat_cmp a.vendor b.vendor)) (any_paid v)) ps ≡ filter (is_of v) ps
    kept v ps = ap (λ (t : Paid → Bool). filter t ps) (λ i p. tie v p.vendor i)
