-- An amount, piece by piece.
use Rattle.std.proofs.Common.{◌≡◌, ◌∙◌, ◌+◌, ◌-◌, ◌<◌, ◌/◌, ◌%◌, ℕ, ℤ, List, [], ◌∷◌, ◌++◌, length, refl, sym, ap, ap₂, arith, append_assoc, length-append, unsigned_abs, decimal}
use Rattle.cf_base.proofs.Common.{decimal_digit}
use Rattle.cf_base.specs.Common.{money_of, sign_text, size_text}
use Rattle.cf_text.specs.Statement.{amount_text, blanks}

-- the hundredths are two digits
size_digits : (n : ℕ) → size_text n ≡ decimal (n / 100) ++ 46 ∷ (48 + n % 100 / 10) ∷ (48 + n % 10) ∷ []
size_digits n =
    let tens : n % 100 / 10 < 10 = omega arith in
    let ones : n % 10 < 10 = omega arith in
    rw (decimal_digit (n % 100 / 10) tens, decimal_digit (n % 10) ones) refl

pub pieces : (old sign units : List ℕ) (amount : ℤ) → sign ≡ sign_text amount → units ≡ decimal (unsigned_abs amount / 100)
    → ((((((old ++ blanks (20 - (length sign + length units + 3))) ++ sign) ++ units) ++ 46 ∷ []) ++ (48 + unsigned_abs amount % 100 / 10) ∷ []) ++ (48 + unsigned_abs amount % 10) ∷ [])
    ≡ old ++ amount_text amount
pieces old sign units amount s u =
    let size = unsigned_abs amount in
    let tail : List ℕ = 46 ∷ (48 + size % 100 / 10) ∷ (48 + size % 10) ∷ [] in
    let money : money_of amount ≡ sign ++ (units ++ tail) = ap (λ l. sign_text amount ++ l) (size_digits size) ∙ ap₂ (λ a b. a ++ (b ++ tail)) (sym s) (sym u) in
    let long : length (money_of amount) ≡ length sign + length units + 3 =
    ap length money ∙ length-append sign (units ++ tail) ∙ ap (λ n. length sign + n) (length-append units tail) ∙ omega arith in
    let flat : ((((((old ++ blanks (20 - (length sign + length units + 3))) ++ sign) ++ units) ++ 46 ∷ []) ++ (48 + size % 100 / 10) ∷ []) ++ (48 + size % 10) ∷ [])
    ≡ old ++ (blanks (20 - (length sign + length units + 3)) ++ (sign ++ (units ++ tail))) = simp append_assoc in
    flat ∙ ap₂ (λ n l. old ++ (blanks (20 - n) ++ l)) (sym long) (sym money)
