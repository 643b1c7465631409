-- The fiscal years that a history closes, as a list.
use Rattle.std.proofs.Common.{◌≡◌, ℕ, Bool, true, false, ◌||◌, ◌==◌, List, [], ◌∷◌, flat_map, refl, sym, ◌∙◌, true≢false, eq-eqb}
use Rattle.cf_base.proofs.Common.{eqb-true, list_any-append}
use Rattle.cf_calls.specs.Common.{closes_year}
use Rattle.cf_model.specs.Common.{Act, Close, Entry, is_year_closed}
use Rattle.cf_calls.specs.declared.acts.Period.TheVariants as period
use Rattle.cf_claims.specs.Claims.{has_number}
use Rattle.cf_claims.specs.Marks.{years_of}

abbrev pub closed_years : List Entry → List ℕ
closed_years history = flat_map (λ e. years_of e.change.act) history

or_false : (b : Bool) → (b || false) ≡ b
or_false true = refl
or_false false = refl

same_number : (m n : ℕ) → (m == n) ≡ (n == m)
same_number m n = by (m == n) (n == m) refl refl
  where
    by : (a b : Bool) → (m == n) ≡ a → (n == m) ≡ b → a ≡ b
    by true true e f = refl
    by false false e f = refl
    by true false e f = absurd (true≢false (sym (eq-eqb n m (sym (eqb-true m n e))) ∙ f))
    by false true e f = absurd (true≢false (sym (eq-eqb m n (sym (eqb-true n m f))) ∙ e))

one_year : (n : ℕ) (act : Act) → has_number n (years_of act) ≡ closes_year n act
one_year n (Close (period.Year y)) = or_false (y == n) ∙ same_number y n
one_year n (Close (period.Month m)) = refl
one_year n _ = refl

pub has_number-closed_years : (n : ℕ) (history : List Entry) → has_number n (closed_years history) ≡ is_year_closed history n
has_number-closed_years n [] = refl
has_number-closed_years n (e ∷ later) =
    list_any-append (λ m. m == n) (years_of e.change.act) (closed_years later)
    ∙ (λ i. one_year n e.change.act i || has_number-closed_years n later i)
