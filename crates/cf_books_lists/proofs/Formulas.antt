-- An amount of money is no formula.
use Rattle.std.proofs.Common.{◌≡◌, ◌<◌, ◌+◌, ◌/◌, ◌%◌, ◌^◌, ◌∙◌, ℕ, ℤ, suc, Bool, true, false, List, [], ◌∷◌, ◌++◌, refl, ap, ap₂, arith, decimal, if◌then◌else◌, pos, negsuc, unsigned_abs, ◌&&◌, ◌||◌, ◌==◌, not}
use Rattle.cf_base.proofs.Common.{list_all, nat_tests, decimal_by_steps_wide, list_all-append}
use Rattle.cf_base.specs.Common.{money_of, size_text}
use Rattle.cf_books_lists.specs.Records.{begins_formula, guarded, is_formula, is_unsigned_byte}

-- ---- digits and a point

digit_byte : (n : ℕ) → n < 10 → is_unsigned_byte (48 + n) ≡ true
digit_byte n small = grind (arith, nat_tests)

both : (a b : Bool) → a ≡ true → b ≡ true → (a && b) ≡ true
both a b p q = ap₂ (λ x y. x && y) p q

joined : (xs ys : List ℕ) → list_all is_unsigned_byte xs ≡ true → list_all is_unsigned_byte ys ≡ true → list_all is_unsigned_byte (xs ++ ys) ≡ true
joined xs ys p q = list_all-append is_unsigned_byte xs ys ∙ both _ _ p q

one_digit : (n : ℕ) → n < 10 → list_all is_unsigned_byte ((48 + n) ∷ []) ≡ true
one_digit n small = both (is_unsigned_byte (48 + n)) true (digit_byte n small) refl

digits_plain : (n : ℕ) → n < 10 ^ 64 → list_all is_unsigned_byte (decimal n) ≡ true
digits_plain n small =
    decimal_by_steps_wide (λ m ds. list_all is_unsigned_byte ds ≡ true) one_digit
    (λ m ds big front. joined ds ((48 + m % 10) ∷ []) front (one_digit (m % 10) (omega arith))) n small

size_plain : (n : ℕ) → n < 2 ^ 128 → list_all is_unsigned_byte (size_text n) ≡ true
size_plain n small =
    let units : n / 100 < 10 ^ 64 = omega arith in
    let tens : n % 100 / 10 < 10 ^ 64 = omega arith in
    let ones : n % 10 < 10 ^ 64 = omega arith in
    let cents = joined (decimal (n % 100 / 10)) (decimal (n % 10)) (digits_plain (n % 100 / 10) tens) (digits_plain (n % 10) ones) in
    joined (decimal (n / 100)) (46 ∷ (decimal (n % 100 / 10) ++ decimal (n % 10))) (digits_plain (n / 100) units) cents

-- ---- which are no formula

first_byte : (c : ℕ) → is_unsigned_byte c ≡ true → (begins_formula c ≡ false) × ((c == 45) ≡ false)
first_byte c h = grind (arith, nat_tests)

left_true : (a b : Bool) → (a && b) ≡ true → a ≡ true
left_true true b h = refl
left_true false b h = h

no_formula : (a b minus : Bool) → a ≡ false → minus ≡ false → (a || (minus && b)) ≡ false
no_formula a b minus p q = ap₂ (λ x y. x || (y && b)) p q

unsigned_stands : (xs : List ℕ) → list_all is_unsigned_byte xs ≡ true → is_formula xs ≡ false
unsigned_stands [] h = refl
unsigned_stands (c ∷ rest) h =
    let first = first_byte c (left_true (is_unsigned_byte c) (list_all is_unsigned_byte rest) h) in
    no_formula (begins_formula c) (not (list_all is_unsigned_byte rest)) (c == 45) first.0 first.1

stands : (xs : List ℕ) → is_formula xs ≡ false → guarded xs ≡ xs
stands xs plain = ap (λ (b : Bool). if b then 39 ∷ xs else xs) plain

pub amount_stands : (amount : ℤ) → unsigned_abs amount < 2 ^ 128 → guarded (money_of amount) ≡ money_of amount
amount_stands (pos n) small = stands (size_text n) (unsigned_stands (size_text n) (size_plain n small))
amount_stands (negsuc n) small = stands (45 ∷ size_text (suc n)) (ap not (size_plain (suc n) small))
