-- A voucher draws an asset for each of its items on a capital object.
use Rattle.std.proofs.Common.{◌≡◌, ℕ, suc, ◌+◌, Bool, true, false, if◌then◌else◌, List, [], ◌∷◌, length, refl, ap, filter}
use Rattle.cf_model.specs.Common.{Day, VoucherItem, bought, life_of, new_asset, purchase, is_capital}
use Rattle.cf_chart.specs.Common.{Plan, object_at}

pub bought_length : (plan : Plan) (voucher : ℕ) (on : Day) (year number : ℕ) (items : List VoucherItem) →
    length (bought plan voucher on year number items) ≡ length (filter (λ i. is_capital (object_at plan i.account.object)) items)
bought_length plan voucher on year number [] = refl
bought_length plan voucher on year number (i ∷ items) =
    by_test (is_capital (object_at plan i.account.object)) (bought_length plan voucher on year (number + 1) items) (bought_length plan voucher on year number items)
  where
    by_test : (b : Bool) → length (bought plan voucher on year (number + 1) items) ≡ length (filter (λ x. is_capital (object_at plan x.account.object)) items) →
        length (bought plan voucher on year number items) ≡ length (filter (λ x. is_capital (object_at plan x.account.object)) items) →
        length (if b then new_asset plan (purchase voucher) on year number i.account.dept (life_of plan i.account.object) i.account.amount ∷ bought plan voucher on year (number + 1) items else bought plan voucher on year number items)
        ≡ length (if b then i ∷ filter (λ x. is_capital (object_at plan x.account.object)) items else filter (λ x. is_capital (object_at plan x.account.object)) items)
    by_test true more less = ap suc more
    by_test false more less = less
