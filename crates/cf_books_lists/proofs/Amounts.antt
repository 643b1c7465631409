-- An amount of money, piece by piece.
use Rattle.std.proofs.Common.{◌≡◌, ◌∙◌, ◌<◌, ◌+◌, ◌/◌, ◌%◌, ℕ, ℤ, List, [], ◌∷◌, ◌++◌, refl, sym, ap, ap₂, arith, append_assoc, unsigned_abs, decimal}
use Rattle.cf_base.proofs.Common.{decimal_digit}
use Rattle.cf_base.specs.Common.{money_of, sign_text, size_text}

-- the hundredths are two digits
hundredths : (n : ℕ) → size_text n ≡ decimal (n / 100) ++ 46 ∷ (48 + n % 100 / 10) ∷ (48 + n % 10) ∷ []
hundredths n =
    let tens : n % 100 / 10 < 10 = omega arith in
    let ones : n % 10 < 10 = omega arith in
    rw (decimal_digit (n % 100 / 10) tens, decimal_digit (n % 10) ones) refl

-- a sign, the units, a dot and two digits behind a text
pub money_behind : (old sign units : List ℕ) (amount : ℤ) → sign ≡ sign_text amount → units ≡ decimal (unsigned_abs amount / 100)
    → (((((old ++ sign) ++ units) ++ 46 ∷ []) ++ (48 + unsigned_abs amount % 100 / 10) ∷ []) ++ (48 + unsigned_abs amount % 10) ∷ [])
    ≡ old ++ money_of amount
money_behind old sign units amount s u =
    let size = unsigned_abs amount in
    let tail : List ℕ = 46 ∷ (48 + size % 100 / 10) ∷ (48 + size % 10) ∷ [] in
    let money : money_of amount ≡ sign ++ (units ++ tail) = ap (λ l. sign_text amount ++ l) (hundredths size) ∙ ap₂ (λ a b. a ++ (b ++ tail)) (sym s) (sym u) in
    let flat : (((((old ++ sign) ++ units) ++ 46 ∷ []) ++ (48 + size % 100 / 10) ∷ []) ++ (48 + size % 10) ∷ []) ≡ old ++ (sign ++ (units ++ tail)) = simp append_assoc in
    flat ∙ ap (λ l. old ++ l) (sym money)
