-- Beginnings of one list.
use Rattle.std.proofs.Common.{◌≡◌, ◌≤◌, List, [], ◌∷◌, ◌++◌, length, refl, ap, sym, ◌∙◌, Bool, true, false, arith, append_assoc, length-append, ltb}
use Rattle.cf_base.proofs.Common.{nat_tests}
use mathlib.Core.List.{IsPrefix}
use Rattle.cf_turns.specs.Lists.{longer}

pub IsPrefix-self : {A : Type 0} (xs : List A) → IsPrefix xs xs
IsPrefix-self [] = ([], refl)
IsPrefix-self (x ∷ xs) = let rest = IsPrefix-self xs in (rest.0, ap (λ ys. x ∷ ys) rest.1)

pub IsPrefix-nil : {A : Type 0} (ys : List A) → IsPrefix [] ys
IsPrefix-nil ys = (ys, refl)

pub IsPrefix-append : {A : Type 0} (xs ys zs : List A) → IsPrefix xs ys → IsPrefix xs (ys ++ zs)
IsPrefix-append xs ys zs p = (p.0 ++ zs, sym (append_assoc xs p.0 zs) ∙ ap (λ w. w ++ zs) p.1)

pub IsPrefix-trans : {A : Type 0} (xs ys zs : List A) → IsPrefix xs ys → IsPrefix ys zs → IsPrefix xs zs
IsPrefix-trans xs ys zs p q = (p.0 ++ q.0, sym (append_assoc xs p.0 q.0) ∙ (ap (λ w. w ++ q.0) p.1 ∙ q.1))

pub IsPrefix-length : {A : Type 0} (xs ys : List A) → IsPrefix xs ys → length xs ≤ length ys
IsPrefix-length xs ys p = omega (arith, sym (ap length p.1) ∙ length-append xs p.0)

-- of two beginnings of one list the shorter begins the longer
pub IsPrefix-shorter : {A : Type 0} (xs ys zs : List A) → IsPrefix xs zs → IsPrefix ys zs → length xs ≤ length ys → IsPrefix xs ys
IsPrefix-shorter [] ys zs p q le = (ys, refl)
IsPrefix-shorter (x ∷ xs) [] zs p q le = absurd (omega arith)
IsPrefix-shorter (x ∷ xs) (y ∷ ys) [] p q le = absurd (cc (p.1))
IsPrefix-shorter (x ∷ xs) (y ∷ ys) (z ∷ zs) p q le =
    let heads : x ≡ y = cc (p.1, q.1) in
    let rest = IsPrefix-shorter xs ys zs (p.0, cc (p.1)) (q.0, cc (q.1)) (omega arith) in
    (rest.0, cc (heads, rest.1))

-- two beginnings of one list both begin the longer of them, which begins that list too
pub record BeginLonger {A : Type 0} (xs ys whole : List A) : Type 0 where
  pub first : IsPrefix xs (longer xs ys)
  pub second : IsPrefix ys (longer xs ys)
  pub both : IsPrefix (longer xs ys) whole

pub begin_longer : {A : Type 0} (xs ys whole : List A) → IsPrefix xs whole → IsPrefix ys whole → BeginLonger xs ys whole
begin_longer xs ys whole p q =
    let cases = by_case (ltb (length ys) (length xs)) refl in
    record { first = cases.0; second = cases.1; both = cases.2 }
  where
    by_case : (b : Bool) → ltb (length ys) (length xs) ≡ b → IsPrefix xs (longer xs ys) × IsPrefix ys (longer xs ys) × IsPrefix (longer xs ys) whole
    by_case true is = rw is (IsPrefix-self xs, IsPrefix-shorter ys xs whole q p (grind (arith, nat_tests)), p)
    by_case false is = rw is (IsPrefix-shorter xs ys whole p q (grind (arith, nat_tests)), IsPrefix-self ys, q)
