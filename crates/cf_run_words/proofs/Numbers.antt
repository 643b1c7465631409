-- A parse as a number, against the digits.
use Rattle.std.proofs.Common.{◌≡◌, ◌<◌, ◌≤◌, ◌&&◌, ◌||◌, ◌^◌, ◌==◌, ℕ, Bool, true≢false, true, false, refl, sym, ap, subst, arith, [], ◌∷◌, length, nat_le, nat_lt, Some, None, Result, Ok, Err, codes, bytes_eq}
use Rattle.cf_base.proofs.Common.{and_parts, eqb-true, leb-true, lt-ltb, ltb-true, bytes_eq-Decides, result_ok, digit_value, AllDigits, ParsesUnsigned, digits_value, without_leading_plus}
use Rattle.cf_run_words.specs.Forms.{Text}
use Rattle.cf_run_words.specs.Words.{are_digits, begins_number, has_lead, number_of}

digits_from : (ds : Text) → are_digits ds ≡ true → AllDigits 10 ds
digits_from [] e = tt
digits_from (d ∷ ds) e =
    let parts = and_parts _ _ e in
    (ltb-true _ _ parts.0, digits_from ds parts.1)

digits_pass : (ds : Text) → AllDigits 10 ds → are_digits ds ≡ true
digits_pass [] h = refl
digits_pass (d ∷ ds) h = rw (lt-ltb (digit_value d) 10 h.0) (digits_pass ds h.1)

-- a number begins with a digit from 1 to 9, or is `0`
begins : (P : Text → Type 0) (text : Text) → begins_number text ≡ true → (has_lead text ≡ true → P text) → P (codes "0") → P text
begins P text e lead zero = go (has_lead text) refl e
  where
    go : (b : Bool) → has_lead text ≡ b → (b || bytes_eq text (codes "0")) ≡ true → P text
    go true is h = lead is
    go false is h = subst P (sym ((bytes_eq-Decides text (codes "0")).0 h)) zero

-- so it has no plus
after_lead : (text : Text) → has_lead text ≡ true → without_leading_plus text ≡ text
after_lead [] e = refl
after_lead (b ∷ rest) e = go (b == 43) refl
  where
    least : 49 ≤ b
    least = leb-true 49 b (and_parts (nat_le 49 b) _ e).0

    go : (p : Bool) → (b == 43) ≡ p → without_leading_plus (b ∷ rest) ≡ b ∷ rest
    go false h = rw h refl
    go true h = let is : b ≡ 43 = eqb-true b 43 h in absurd (omega (arith, is, least))

no_plus : (text : Text) → begins_number text ≡ true → without_leading_plus text ≡ text
no_plus text e = begins (λ t. without_leading_plus t ≡ t) text e (after_lead text) refl

led : (text : Text) → has_lead text ≡ true → 0 < length text
led [] e = absurd (true≢false (sym e))
led (b ∷ rest) e = omega arith

starts : (text : Text) → begins_number text ≡ true → 0 < length text
starts text e = begins (λ t. 0 < length t) text e (led text) (omega arith)

pub number_read : {E : Type 0} (text : Text) (r : Result ℕ E) → begins_number text ≡ true → ParsesUnsigned 64 10 text r → result_ok r ≡ number_of text
number_read text (Ok n) lead h =
    let g = rw (no_plus text lead) at h in
    rw (lead, digits_pass text g.0.0.1, lt-ltb (digits_value 10 text) (2 ^ 64) g.0.1) (ap (λ m. Some m) g.1)
number_read text (Err e) lead h = go (are_digits text && nat_lt (digits_value 10 text) (2 ^ 64)) refl
  where
    go : (b : Bool) → (are_digits text && nat_lt (digits_value 10 text) (2 ^ 64)) ≡ b → None ≡ number_of text
    go false t = rw (lead, t) refl
    go true t =
        let parts = and_parts _ _ t in
        let g = rw (no_plus text lead) at h in
        absurd (g ((starts text lead, digits_from text parts.0), ltb-true _ _ parts.1))
