-- What one change of the views leaves of the rule.
use Rattle.std.proofs.Common.{◌≡◌, ◌≢◌, ◌⊎◌, inl, inr, ℕ, zero, suc, ◌≤◌, List, [], ◌∷◌, ◌++◌, length, set, true, false, true≢false, refl, sym, ap, ◌∙◌, subst, ⊎_elim, arith}
use mathlib.Core.Option.{some, some-ne-none, some-injective}
use mathlib.Core.List.{IsPrefix}
use lib.ListN.{get_elem?}
use Rattle.atomic_table.proofs.Lists.{at_set}
use Rattle.cf_turns.specs.declared.rule.View.{View}
use Rattle.cf_turns.specs.Rule.{blank, Shared, Fits, AreGivenOut, HaveOwnNumbers, IsKept}
use Rattle.cf_turns.proofs.Beginnings.{IsPrefix-nil}

-- what stands in a list with one more stood there before, or is the new one, at the end
pub at_end : {A : Type 0} (l : List A) (a b : A) (j : ℕ) → get_elem? (l ++ a ∷ []) j ≡ some b → (get_elem? l j ≡ some b) ⊎ ((j ≡ length l) × (a ≡ b))
at_end [] a b zero e = inr (refl, some-injective a b e)
at_end [] a b (suc j) e = absurd (some-ne-none b (sym e))
at_end (x ∷ xs) a b zero e = inl e
at_end (x ∷ xs) a b (suc j) e = ⊎_elim (λ t. inl t) (λ t. inr (ap suc t.0, t.1)) (at_end xs a b j e)

-- changes at two places may be made in either order
pub set_swap : {A : Type 0} (l : List A) (i j : ℕ) (a b : A) → i ≢ j → set (set l i a) j b ≡ set (set l j b) i a
set_swap [] i j a b ne = refl
set_swap (x ∷ xs) zero zero a b ne = absurd (ne refl)
set_swap (x ∷ xs) zero (suc j) a b ne = refl
set_swap (x ∷ xs) (suc i) zero a b ne = refl
set_swap (x ∷ xs) (suc i) (suc j) a b ne = ap (λ l. x ∷ l) (set_swap xs i j a b (λ e. ne (ap suc e)))

pub false≢true : false ≡ true → ⊥
false≢true e = true≢false (sym e)

-- a view that is neither the recorder's nor a live pass's fits wherever its lists and its floor do
pub fits_plain : (t : Shared) (seat : ℕ) (v : View) → v.records ≡ false → v.has_number ≡ false → IsPrefix v.list t.list → IsPrefix v.joined t.list → v.floor ≤ length t.list
    → Fits t seat v
fits_plain t seat v other none list joined floor = record {
  recorder = λ e. absurd (false≢true (sym other ∙ e));
  list = list;
  joined = joined;
  floor = floor;
  number = λ e. absurd (false≢true (sym none ∙ e));
}

-- a spent view fits everywhere
pub fits_blank : (t : Shared) (seat : ℕ) → Fits t seat blank
fits_blank t seat = fits_plain t seat blank refl refl (IsPrefix-nil t.list) (IsPrefix-nil t.list) (omega arith)

-- no other seat has the number of this view
abbrev pub HasOwnNumber : List View → ℕ → View → Type 0
HasOwnNumber views seat w =
    (j : ℕ) (u : View) → j ≢ seat → get_elem? views j ≡ some u → u.has_number ≡ true → w.has_number ≡ true → u.number ≢ w.number

numbers_after_set : (views : List View) (seat : ℕ) (w : View) → HaveOwnNumbers views → HasOwnNumber views seat w → HaveOwnNumbers (set views seat w)
numbers_after_set views seat w old own i j a b at_i at_j has_i has_j same =
    ⊎_elim
    (λ (x : (i ≡ seat) × (w ≡ a)).
    ⊎_elim
    (λ (y : (j ≡ seat) × (w ≡ b)). x.0 ∙ sym y.0)
    (λ (y : (j ≢ seat) × (get_elem? views j ≡ some b)). absurd (own j b y.0 y.1 has_j (ap (λ (v : View). v.has_number) x.1 ∙ has_i) (sym same ∙ sym (ap (λ (v : View). v.number) x.1))))
    (at_set views seat j w b at_j))
    (λ (x : (i ≢ seat) × (get_elem? views i ≡ some a)).
    ⊎_elim
    (λ (y : (j ≡ seat) × (w ≡ b)). absurd (own i a x.0 x.1 has_i (ap (λ (v : View). v.has_number) y.1 ∙ has_j) (same ∙ sym (ap (λ (v : View). v.number) y.1))))
    (λ (y : (j ≢ seat) × (get_elem? views j ≡ some b)). old i j a b x.1 y.1 has_i has_j same)
    (at_set views seat j w b at_j))
    (at_set views seat i w a at_i)

-- one seat's view changes, and perhaps what stands behind the word
pub kept_set : (t t' : Shared) (words : List ℕ) (views : List View) (seat : ℕ) (w : View)
    → IsKept t words views
    → ((j : ℕ) (u : View) → j ≢ seat → get_elem? views j ≡ some u → Fits t' j u)
    → Fits t' seat w
    → HasOwnNumber views seat w
    → AreGivenOut t'
    → IsKept t' (length t'.list ∷ []) (set views seat w)
kept_set t t' words views seat w kept others mine own given = record { word = refl; fits = fits; apart = numbers_after_set views seat w kept.apart own; numbers = given }
  where
    fits : (j : ℕ) (u : View) → get_elem? (set views seat w) j ≡ some u → Fits t' j u
    fits j u e =
        ⊎_elim
        (λ (x : (j ≡ seat) × (w ≡ u)). subst (λ (y : ℕ × View). Fits t' y.0 y.1) (λ i. (sym x.0 i, x.1 i)) mine)
        (λ (x : (j ≢ seat) × (get_elem? views j ≡ some u)). others j u x.0 x.1)
        (at_set views seat j w u e)

-- no seat has the number of this view
abbrev pub HasNewNumber : List View → View → Type 0
HasNewNumber views w =
    (j : ℕ) (u : View) → get_elem? views j ≡ some u → u.has_number ≡ true → w.has_number ≡ true → u.number ≢ w.number

numbers_after_snoc : (views : List View) (w : View) → HaveOwnNumbers views → HasNewNumber views w → HaveOwnNumbers (views ++ w ∷ [])
numbers_after_snoc views w old new i j a b at_i at_j has_i has_j same =
    ⊎_elim
    (λ (x : get_elem? views i ≡ some a).
    ⊎_elim
    (λ (y : get_elem? views j ≡ some b). old i j a b x y has_i has_j same)
    (λ (y : (j ≡ length views) × (w ≡ b)). absurd (new i a x has_i (ap (λ (v : View). v.has_number) y.1 ∙ has_j) (same ∙ sym (ap (λ (v : View). v.number) y.1))))
    (at_end views w b j at_j))
    (λ (x : (i ≡ length views) × (w ≡ a)).
    ⊎_elim
    (λ (y : get_elem? views j ≡ some b). absurd (new j b y has_j (ap (λ (v : View). v.has_number) x.1 ∙ has_i) (sym same ∙ sym (ap (λ (v : View). v.number) x.1))))
    (λ (y : (j ≡ length views) × (w ≡ b)). x.0 ∙ sym y.0)
    (at_end views w b j at_j))
    (at_end views w a i at_i)

-- a new seat comes
pub kept_snoc : (t : Shared) (words : List ℕ) (views : List View) (w : View)
    → IsKept t words views → ((j : ℕ) → Fits t j w) → HasNewNumber views w → IsKept t words (views ++ w ∷ [])
kept_snoc t words views w kept mine new = record { word = kept.word; fits = fits; apart = numbers_after_snoc views w kept.apart new; numbers = kept.numbers }
  where
    fits : (j : ℕ) (u : View) → get_elem? (views ++ w ∷ []) j ≡ some u → Fits t j u
    fits j u e =
        ⊎_elim
        (λ (x : get_elem? views j ≡ some u). kept.fits j u x)
        (λ (x : (j ≡ length views) × (w ≡ u)). subst (Fits t j) x.1 (mine j))
        (at_end views w u j e)

-- the changed view has the seat's old number, or none
pub own_number : (t : Shared) (words : List ℕ) (views : List View) (seat : ℕ) (v w : View) → IsKept t words views → get_elem? views seat ≡ some v
    → (w.has_number ≡ true → v.has_number ≡ true) → w.number ≡ v.number → HasOwnNumber views seat w
own_number t words views seat v w kept at has same j u ne e has_u has_w is = ne (kept.apart j seat u v e at has_u (has has_w) (is ∙ same))

pub no_number : (views : List View) (seat : ℕ) (w : View) → w.has_number ≡ false → HasOwnNumber views seat w
no_number views seat w none j u ne e has_u has_w is = false≢true (sym none ∙ has_w)

-- one seat's view changes, and nothing else
pub kept_view : (t : Shared) (words : List ℕ) (views : List View) (seat : ℕ) (v w : View)
    → IsKept t words views → get_elem? views seat ≡ some v → Fits t seat w → (w.has_number ≡ true → v.has_number ≡ true) → w.number ≡ v.number
    → IsKept t (length t.list ∷ []) (set views seat w)
kept_view t words views seat v w kept at mine has same =
    kept_set t t words views seat w kept (λ j u ne e. kept.fits j u e) mine (own_number t words views seat v w kept at has same) kept.numbers
