-- Texts that JSON writes as they are.
use Rattle.std.proofs.Common.{◌≡◌, ℕ, suc, ◌^◌, ◌<◌, ◌≤◌, ℤ, pos, negsuc, FitsSigned, decimal, List, [], ◌∷◌, ◌++◌, true, not, ◌&&◌, ◌==◌, nat_lt, refl, ap, sym, ◌∙◌, arith, true≢false}
use Rattle.cf_base.proofs.Common.{list_all, and_parts, eq-eqb, ne_eqb, lt-ltb, ltb-true, decimal_is_IsNumeral_wide, digit_from_value, signed_decimal, w128, AllDigits}
use Rattle.json.specs.Print.{quoted, escape, escape_byte}
use Rattle.json.proofs.Printed.Strings.{escape_byte_plain}
use Rattle.cf_json_members.specs.Parts.{is_plain}

differs : (c d : ℕ) → not (c == d) ≡ true → c ≡ d → ⊥
differs c d n e = true≢false (sym n ∙ ap not (eq-eqb c d e))

pub escape_byte-plain : (c : ℕ) → is_plain c ≡ true → escape_byte c ≡ c ∷ []
escape_byte-plain c p =
    let tests = and_parts (nat_lt 31 c && not (c == 34)) (not (c == 92)) p in
    let first = and_parts (nat_lt 31 c) (not (c == 34)) tests.0 in
    escape_byte_plain c (differs c 34 first.1) (differs c 92 tests.1) (omega (arith, ltb-true 31 c first.0))

pub escape-plain : (s : List ℕ) → list_all is_plain s ≡ true → escape s ≡ s
escape-plain [] p = refl
escape-plain (c ∷ s) p =
    let tests = and_parts (is_plain c) (list_all is_plain s) p in
    λ i. escape_byte-plain c tests.0 i ++ escape-plain s tests.1 i

pub quoted_plain : (s : List ℕ) → list_all is_plain s ≡ true → quoted s ≡ 34 ∷ (s ++ 34 ∷ [])
quoted_plain s p = ap (λ t. 34 ∷ (t ++ 34 ∷ [])) (escape-plain s p)

-- ---- digits

digit-plain : (c : ℕ) → 48 ≤ c → c ≤ 57 → is_plain c ≡ true
digit-plain c low high = rw (lt-ltb 31 c (omega arith), ne_eqb c 34 (λ e. omega arith), ne_eqb c 92 (λ e. omega arith))

pub digits-plain : (ds : List ℕ) → AllDigits 10 ds → list_all is_plain ds ≡ true
digits-plain [] d = refl
digits-plain (c ∷ ds) d =
    let range = digit_from_value c d.0 in
    rw (digit-plain c (omega (arith, range)) (omega (arith, range))) (digits-plain ds d.1)

pub decimal-plain : (n : ℕ) → n < 2 ^ 128 → list_all is_plain (decimal n) ≡ true
decimal-plain n small = digits-plain (decimal n) (decimal_is_IsNumeral_wide n (omega arith)).0.1

pub signed-plain : (z : ℤ) → FitsSigned w128 z → list_all is_plain (signed_decimal z) ≡ true
signed-plain (pos n) fits = decimal-plain n (omega (arith, fits.sfits))
signed-plain (negsuc n) fits = decimal-plain (suc n) (omega (arith, fits.sfits))
