-- The account of a voucher's item, and what a close charges to a function.
use Rattle.std.specs.Prelude.{ℕ, List}
use Rattle.cf_model.specs.Common.{AccountItem, Function, Asset, function_charge}
use Rattle.cf_orders.specs.declared.spent.ExpendedItem.{ExpendedItem}
use Rattle.cf_post.specs.declared.deed.Deed.{Deed}
use Rattle.cf_post.specs.declared.deed.Deed.TheVariants as deed

abbrev pub item_account : ExpendedItem → AccountItem
item_account v = record { fund = v.fund; dept = v.dept; object = v.object; amount = v.amount }

abbrev pub charge_deed : ℕ → ℕ → List Asset → Function → Deed
charge_deed year closed assets f =
    deed.Depreciate (record
    { year = year; function = f.id; amount = function_charge closed assets f.id })

abbrev pub amortize_deed : ℕ → ℕ → List Asset → Function → Deed
amortize_deed year closed assets f =
    deed.Amortize (record
    { year = year; function = f.id; amount = function_charge closed assets f.id })
