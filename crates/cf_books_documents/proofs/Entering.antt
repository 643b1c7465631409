-- The places of vouchers, entry by entry.
use Rattle.std.proofs.Common.{◌≡◌, ◌<◌, ℕ, zero, suc, Bool, true, false, if◌then◌else◌, List, [], ◌∷◌, length, get_or, Option, Some, ap, sym, arith, option_and_then, slice_get}
use Rattle.cf_model.specs.Common.{Entry}

pub noted_if : (test : Bool) (history : List Entry) (at : ℕ) (e : Entry) (x : Option ℕ) (y : Option Entry) → slice_get history at ≡ Some e
    → option_and_then (slice_get history) x ≡ y → option_and_then (slice_get history) (if test then Some at else x) ≡ (if test then Some e else y)
noted_if true history at e x y found rest = found
noted_if false history at e x y found rest = rest

-- the item at a place, as it is looked up
pub get-item : {A : Type 0} (xs : List A) (i : ℕ) (x : A) → i < length xs → x ≡ get_or xs i x → slice_get xs i ≡ Some x
get-item [] i x below is = absurd (omega (arith, below))
get-item (y ∷ ys) zero x below is = ap (λ z. Some z) (sym is)
get-item (y ∷ ys) (suc i) x below is = get-item ys i x (omega (arith, below)) is
