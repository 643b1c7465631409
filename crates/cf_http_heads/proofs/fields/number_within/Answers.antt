use Rattle.std.proofs.Common.{◌≡◌, ◌<◌, ◌≤◌, ◌+◌, ◌-◌, ◌*◌, ℕ, List, true, length, ◌∷◌, get_or, drop, suc, arith, refl, drop-cons}
use Rattle.cf_base.proofs.Common.{list_all, is_ascii_digit, digit_value, digits_value, digits_value_after, lt-leb}
use Rattle.cf_http_heads.proofs.FieldLaws.{after_least}
use Rattle.cf_http_heads.proofs.fields.number_within.Goals as goal

-- with one digit more the number is at least so large
one_more : (n i : ℕ) (digits : List ℕ) → i < length digits → list_all is_ascii_digit (drop i digits) ≡ true → n * 10 + (get_or digits i 0 - 48) ≤ digits_value_after 10 n (drop i digits)
one_more n i digits lt are =
    let e = drop-cons digits i 0 lt in
    let least = after_least (n * 10 + digit_value (get_or digits i 0)) (drop (suc i) digits) in
    let digit : list_all is_ascii_digit (get_or digits i 0 ∷ drop (suc i) digits) ≡ true = rw e at are in
    rw e (grind (arith, least, digit))

pub returns-then-number-from : goal.returns-then-number-from
returns-then-number-from c =
    let more = one_more c.loop-digit.number c.loop-digit.digit-index c.args.digits.now c.loop-digit-test.true c.loop-digit.invariant.digits in
    let above = lt-leb (digits_value 10 c.args.digits.now) c.args.most (omega (arith, more, c.loop-digit.invariant.value, c.if-number-from.true, c.from.ensures, c.from-in-loop-digit.ensures)) in
    rw above refl
