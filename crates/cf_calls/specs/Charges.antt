-- What a charge is against.
use Rattle.std.specs.Prelude.{◌≡◌, refl, ℕ, ◌==◌, ◌&&◌, Option, Some, None}
use Rattle.cf_calls.specs.declared.items.Charge.{Charge}
use Rattle.cf_calls.specs.declared.items.Charge.TheVariants.{Direct, OnOrder}
use Rattle.cf_calls.specs.Form.{same_charge}
use Rattle.cf_calls.specs.Keys.{same_key}

-- the order and its item
abbrev pub charged_item : Charge → Option (ℕ × ℕ)
charged_item (OnOrder item order how) = Some (order, item)
charged_item Direct = None

-- two charges are the same where they are against one item
pub same_charged : (a b : Charge)
    → same_charge a b ≡ same_key (λ x y. (x.0 == y.0) && (x.1 == y.1)) (charged_item a)
    (charged_item b)
same_charged (OnOrder i o h) (OnOrder j p k) = refl
same_charged (OnOrder i o h) Direct = refl
same_charged Direct (OnOrder j p k) = refl
same_charged Direct Direct = refl
