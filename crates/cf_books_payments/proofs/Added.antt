-- What a step of a loop adds.
use Rattle.std.proofs.Common.{◌≡◌, ◌<◌, ◌≤◌, ◌+◌, ◌*◌, ◌^◌, ◌∙◌, ◌+ℤ◌, ℕ, ℤ, pos, Bool, true, false, if◌then◌else◌, List, ◌∷◌, ◌++◌, sym, ap, arith, append_assoc, add-one, drop, drop-cons, get_or, length, unsigned_abs, ◌==◌, flat_map}
use Rattle.cf_base.proofs.Common.{ints}
use Rattle.cf_books_payments.specs.Entering.{AreSmall}
use Rattle.cf_books_payments.specs.Paid.{paid_to}
use Rattle.cf_books_payments.specs.declared.entered.Paid.{Paid}

pub added_more : {B : Type 0} (f : ℕ → List B) (old new all : List B) (xs : List ℕ) (i : ℕ) → i < length xs → new ≡ old ++ f (get_or xs i 0)
    → old ++ flat_map f (drop i xs) ≡ all → new ++ flat_map f (drop (i + 1) xs) ≡ all
added_more f old new all xs i below put was =
    let split : drop i xs ≡ get_or xs i 0 ∷ drop (i + 1) xs = rw add-one (drop-cons xs i 0 below) in
    ap (λ t. t ++ flat_map f (drop (i + 1) xs)) put ∙ append_assoc old (f (get_or xs i 0)) (flat_map f (drop (i + 1) xs))
    ∙ ap (λ ys. old ++ flat_map f ys) (sym split) ∙ was

sum_if : (b : Bool) (old amount rest all new : ℤ) → new ≡ (if b then old +ℤ amount else old) → old +ℤ ((if b then amount else pos 0) +ℤ rest) ≡ all → new +ℤ rest ≡ all
sum_if true old amount rest all new put was = omega (arith, ints, put, was)
sum_if false old amount rest all new put was = omega (arith, ints, put, was)

pub sum_more : (v : ℕ) (old new all : ℤ) (rows : List Paid) (i : ℕ) (d : Paid) → i < length rows
    → new ≡ (if (get_or rows i d).vendor == v then old +ℤ (get_or rows i d).amount else old) → old +ℤ paid_to v (drop i rows) ≡ all → new +ℤ paid_to v (drop (i + 1) rows) ≡ all
sum_more v old new all rows i d below put was =
    let split : drop i rows ≡ get_or rows i d ∷ drop (i + 1) rows = rw add-one (drop-cons rows i d below) in
    sum_if ((get_or rows i d).vendor == v) old (get_or rows i d).amount (paid_to v (drop (i + 1) rows)) all new put (ap (λ ps. old +ℤ paid_to v ps) (sym split) ∙ was)

small_if : (b : Bool) (old amount new : ℤ) (i : ℕ) → new ≡ (if b then old +ℤ amount else old) → unsigned_abs old ≤ 2 ^ 90 * i → unsigned_abs amount < 2 ^ 90
    → unsigned_abs new ≤ 2 ^ 90 * (i + 1)
small_if true old amount new i put was small = omega (arith, ints, put, was, small)
small_if false old amount new i put was small = omega (arith, ints, put, was, small)

pub small_more : (v : ℕ) (old new : ℤ) (rows : List Paid) (i : ℕ) (d : Paid) → i < length rows
    → new ≡ (if (get_or rows i d).vendor == v then old +ℤ (get_or rows i d).amount else old) → unsigned_abs old ≤ 2 ^ 90 * i → AreSmall rows
    → unsigned_abs new ≤ 2 ^ 90 * (i + 1)
small_more v old new rows i d below put was small = small_if ((get_or rows i d).vendor == v) old (get_or rows i d).amount new i put was (small i d below)
