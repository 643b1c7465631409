-- Desks are opened one after another.
use Rattle.std.proofs.Common.{◌≡◌, ℕ, ◌+◌, List, [], ◌∷◌, ◌++◌, length, map, sym, ap, ◌∙◌, arith, append_assoc, length-append}
use Rattle.cf_base.proofs.Common.{map-append}

pub one_on : {A : Type 0} (all yielded rest later : List A) (x : A) → all ≡ yielded ++ rest → rest ≡ x ∷ later → all ≡ (yielded ++ x ∷ []) ++ later
one_on all yielded rest later x is next = is ∙ ap (λ ys. yielded ++ ys) next ∙ sym (append_assoc yielded (x ∷ []) later)

pub long_on : {A B : Type 0} (xs new : List A) (ys : List B) (x : A) (y : B) → length xs ≡ length ys → new ≡ xs ++ x ∷ [] → length new ≡ length (ys ++ y ∷ [])
long_on xs new ys x y e is = omega (arith, e, ap length is, length-append xs (x ∷ []), length-append ys (y ∷ []))

pub fewer_on : {A B : Type 0} (first : ℕ) (xs new : List A) (ys : List B) (x : A) (y : B) → first ≡ length xs + length ys → xs ≡ new ++ x ∷ [] → first ≡ length new + length (ys ++ y ∷ [])
fewer_on first xs new ys x y e is = omega (arith, e, ap length is, length-append new (x ∷ []), length-append ys (y ∷ []))

pub paired_on : {A B C : Type 0} (f : A → C) (g : B → C) (xs new : List A) (ys : List B) (x : A) (y : B) → map f xs ≡ map g ys → f x ≡ g y → new ≡ xs ++ x ∷ [] → map f new ≡ map g (ys ++ y ∷ [])
paired_on f g xs new ys x y e h is =
    ap (map f) is ∙ map-append f xs (x ∷ []) ∙ ap (λ l. l ++ f x ∷ []) e ∙ ap (λ c. map g ys ++ c ∷ []) h ∙ sym (map-append g ys (y ∷ []))
