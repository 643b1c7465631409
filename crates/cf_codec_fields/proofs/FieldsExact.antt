-- The fields of a payload are exact.
use Rattle.std.proofs.Common.{◌≡◌, ℕ, zero, suc, ◌+◌, ◌<◌, ◌≤◌, Bool, true, false, cond, ltb, leb, List, [], ◌∷◌, ◌++◌, length, take, drop, Some, None, Ok, Err, ℤ, pos, negsuc, refl, ap, subst, arith, ◌&&◌, unsigned_abs, w8, w16, w32, w64}
use Rattle.std.specs.Prelude.{⊤}
use Rattle.cf_base.proofs.Common.{ltb-true, lt-ltb, leb-true, le-leb, and_parts, and_from, take_at, drop_at, take-append-drop, length-append, length-take, day_at, number_of}
use Rattle.cf_base.specs.declared.calendar.Day.{Day}
use Rattle.cf_base.specs.Common.{is_day, day_number, day_of_number, is_amount}
use Rattle.cf_calls.specs.Common.{is_key, is_most, IsYear, IsCallMonth}
use Rattle.cf_codec_fields.specs.Formats.{kept, is_between}
use Rattle.cf_codec_fields.specs.Fields.{byte, half, word, long, one_of, flag_value, flag_code, flag, year, amount, most_amount, is_negative, with_sign, signed, month, day_value, day_code, day, key_bytes, key_at, key}
use Rattle.cf_codec_fields.proofs.Exact.{IsBytes, IsBytes-drop, Takes, IsWhole, Any, step, last, same, number-exact, converted-exact, kept-exact, wide8, wide16, wide32, wide64}

pub byte-exact : IsWhole byte Any
byte-exact = number-exact w8 wide8

pub half-exact : IsWhole half Any
half-exact = number-exact w16 wide16

pub word-exact : IsWhole word Any
word-exact = number-exact w32 wide32

pub long-exact : IsWhole long Any
long-exact = number-exact w64 wide64

pub one_of-exact : (count : ℕ) → IsWhole (one_of count) (λ n. n < count)
one_of-exact count =
    same (one_of count) Any (λ n. ⊤ × (ltb n count ≡ true)) (λ n. n < count) (kept-exact (λ n. ltb n count) byte Any byte-exact)
    (λ n known fits form. (tt, lt-ltb n count form)) (λ n known fits form. ltb-true n count form.1)

flag-from : (n : ℕ) (b : Bool) → flag_value n ≡ Some b → flag_code b ≡ n
flag-from zero true e = absurd cc
flag-from zero false e = refl
flag-from (suc zero) true e = refl
flag-from (suc zero) false e = absurd cc
flag-from (suc (suc n)) b e = absurd cc

flag-to : (b : Bool) → flag_value (flag_code b) ≡ Some b
flag-to true = refl
flag-to false = refl

pub flag-exact : IsWhole flag Any
flag-exact = converted-exact flag_value flag_code byte Any Any byte-exact (λ b fits form. (flag-to b, tt)) (λ n b fits form e. (flag-from n b e, tt))

pub year-exact : IsWhole year IsYear
year-exact =
    same year Any (λ n. ⊤ × (is_between 1971 2199 n ≡ true)) IsYear (kept-exact (is_between 1971 2199) half Any half-exact)
    (λ n known fits form. (tt, and_from _ _ (le-leb 1971 n form.from) (le-leb n 2199 form.to)))
    (λ n known fits form. let p = and_parts _ _ form.1 in record { from = leb-true _ _ p.0; to = leb-true _ _ p.1 })

pub amount-exact : IsWhole amount (λ n. is_amount n ≡ true)
amount-exact =
    same amount Any (λ n. ⊤ × (is_amount n ≡ true)) (λ n. is_amount n ≡ true) (kept-exact is_amount long Any long-exact)
    (λ n known fits form. (tt, form)) (λ n known fits form. form.1)

pub most_amount-exact : IsWhole most_amount (λ n. is_most n ≡ true)
most_amount-exact =
    same most_amount Any (λ n. ⊤ × (is_most n ≡ true)) (λ n. is_most n ≡ true) (kept-exact is_most long Any long-exact)
    (λ n known fits form. (tt, form)) (λ n known fits form. form.1)

-- a size that is an amount isn't 0
signed-is : (negative : Bool) (size : ℕ) (z : ℤ) → negative ≡ is_negative z → size ≡ unsigned_abs z → with_sign negative size ≡ z
signed-is negative size (pos n) e f = rw (e, f) refl
signed-is negative size (negsuc n) e f = rw (e, f) refl

sign-is : (negative : Bool) (size : ℕ) → 1 ≤ size → (negative ≡ is_negative (with_sign negative size)) × (size ≡ unsigned_abs (with_sign negative size))
sign-is true zero h = absurd (omega arith)
sign-is true (suc n) h = (refl, refl)
sign-is false size h = (refl, refl)

pub signed-exact : IsWhole signed (λ z. is_amount (unsigned_abs z) ≡ true)
signed-exact =
    same signed Any _ _
    (step is_negative flag _ Any Any _ flag-exact (λ negative fits form.
    step unsigned_abs amount _ (λ n. is_amount n ≡ true) _ _ amount-exact (λ size fits form.
    let s = sign-is negative size (leb-true _ _ (and_parts _ _ form).0) in
    last (with_sign negative size) _ ((tt, s.0), s.1) (λ z known. signed-is negative size z known.0.1 known.1))))
    (λ z known fits form. (tt, (form, tt))) (λ z known fits form. form.1.0)

pub month-exact : IsWhole month IsCallMonth
month-exact =
    same month Any _ _
    (step (λ m. m.year) (kept (is_between 1970 2199) half) _ (λ n. ⊤ × (is_between 1970 2199 n ≡ true)) Any _ (kept-exact (is_between 1970 2199) half Any half-exact) (λ year fits form.
    step (λ m. m.month) (kept (is_between 1 12) byte) _ (λ n. ⊤ × (is_between 1 12 n ≡ true)) _ _ (kept-exact (is_between 1 12) byte Any byte-exact) (λ month fits form.
    last (record { year = year; month = month }) _ ((tt, refl), refl) (λ m known. λ i. record { year = known.0.1 i; month = known.1 i }))))
    (λ m known fits form. ((tt, and_from _ _ (le-leb 1970 m.year form.from) (le-leb m.year 2199 form.to)), ((tt, and_from _ _ (le-leb 1 m.month form.first) (le-leb m.month 12 form.last)), tt)))
    (λ m known fits form.
    let y = and_parts _ _ form.0.1 in
    let n = and_parts _ _ form.1.0.1 in
    record { from = leb-true _ _ y.0; to = leb-true _ _ y.1; first = leb-true _ _ n.0; last = leb-true _ _ n.1 })

some_is : {A : Type 0} (b : Bool) (a c : A) → cond b (Some a) None ≡ Some c → (b ≡ true) × (a ≡ c)
some_is true a c e = (refl, cc)
some_is false a c e = absurd cc

day_back : (d : Day) → is_day d ≡ true → day_value (day_code d) ≡ Some d
unfolding day_value day_code
day_back d e =
    let n = number_of d e in
    let code : unsigned_abs (day_number d) ≡ n.0 = ap unsigned_abs n.2 in
    let within : leb n.0 84005 ≡ true = le-leb n.0 84005 n.1 in
    rw (code, within, n.3) refl

day_only : (n : ℕ) (d : Day) → day_value n ≡ Some d → (day_code d ≡ n) × (is_day d ≡ true)
unfolding day_value day_code
day_only n d e =
    let p = some_is (leb n 84005) (day_of_number n) d e in
    let a = day_at n (leb-true n 84005 p.0) in
    (rw (← p.1) (ap unsigned_abs a.1), subst (λ (x : Day). is_day x ≡ true) p.1 a.0)

pub day-exact : IsWhole day (λ d. is_day d ≡ true)
day-exact = converted-exact day_value day_code word Any (λ d. is_day d ≡ true) word-exact (λ d fits form. (day_back d form, tt)) (λ n d fits form e. day_only n d e)

chosen : {A : Type 0} (b : Bool) (n : ℕ) (x y : A × List ℕ) → cond b (Ok x) (Err n) ≡ Ok y → (b ≡ true) × (x ≡ y)
chosen true n x y e = (refl, cc)
chosen false n x y e = absurd cc

not_chosen : {A : Type 0} (b : Bool) (n m : ℕ) (x : A × List ℕ) → cond b (Ok x) (Err n) ≡ Err m → n ≡ m
not_chosen true n m x e = absurd cc
not_chosen false n m x e = cc

key_only : (bytes k rest : List ℕ) → IsBytes bytes → key_at bytes ≡ Ok (k, rest) → Takes bytes (key_bytes k) rest × (is_key k ≡ true)
unfolding key_at
key_only [] k rest are e = absurd cc
key_only (n ∷ bytes) k rest are e =
    let p = chosen (leb n (length bytes) && is_key (take n bytes)) (1 + length bytes) (take n bytes, drop n bytes) (k, rest) e in
    let t = and_parts _ _ p.0 in
    let within : n ≤ length bytes = leb-true n (length bytes) t.0 in
    let count : length (take n bytes) ≡ n = omega (arith, length-take n bytes) in
    let parts : n ∷ bytes ≡ length (take n bytes) ∷ (take n bytes ++ drop n bytes) = rw (count, take-append-drop n bytes) refl in
    subst (λ (x : List ℕ × List ℕ). Takes (n ∷ bytes) (key_bytes x.0) x.1 × (is_key x.0 ≡ true)) p.1 (record { parts = parts; rest_fits = IsBytes-drop n bytes (λ i. are (suc i)) }, t.1)

key_left : (bytes : List ℕ) (n : ℕ) → key_at bytes ≡ Err n → n ≤ length bytes
unfolding key_at
key_left [] n e = let same : 0 ≡ n = cc in omega arith
key_left (b ∷ bytes) n e =
    let same = not_chosen (leb b (length bytes) && is_key (take b bytes)) (1 + length bytes) n (take b bytes, drop b bytes) e in
    omega arith

key_back : (k rest : List ℕ) → is_key k ≡ true → key_at (key_bytes k ++ rest) ≡ Ok (k, rest)
unfolding key_at
key_back k rest e =
    let within : leb (length k) (length (k ++ rest)) ≡ true = le-leb _ _ (omega (arith, length-append k rest)) in
    rw (within, take_at k rest (length k) refl, drop_at k rest (length k) refl, e) refl

pub key-exact : IsWhole key (λ k. is_key k ≡ true)
key-exact = record {
  back = λ k rest known fits form. key_back k rest form;
  only = λ bytes k rest are e. let p = key_only bytes k rest are e in (p.0, tt, tt, p.1);
  left = λ bytes n are e. key_left bytes n e;
}
