-- What stands in the lists of a call, in JSON.
use Rattle.std.specs.Prelude.{ℕ, ℤ, List, [], ◌∷◌, ◌++◌, true, codes}
use Rattle.serde_json.specs.Data.{Data, number, boolean}
use Rattle.serde_json.specs.Find.{of_integer}
use Rattle.cf_calls.specs.declared.items.LineAmount.{LineAmount}
use Rattle.cf_calls.specs.declared.items.SourceAmount.{SourceAmount}
use Rattle.cf_calls.specs.declared.items.AccountItem.{AccountItem}
use Rattle.cf_calls.specs.declared.items.VoucherItem.{VoucherItem}
use Rattle.cf_calls.specs.declared.items.Charge.{Charge}
use Rattle.cf_calls.specs.declared.items.Charge.TheVariants.{Direct, OnOrder}
use Rattle.cf_calls.specs.declared.items.Liquidation.{Liquidation}
use Rattle.cf_calls.specs.declared.items.Liquidation.TheVariants.{Lesser, Recorded, Final}
use Rattle.cf_json_members.specs.Objects.{fields, count}

-- a whole number that may be negative
abbrev pub signed : ℤ → Data
signed z = number (of_integer z)

abbrev pub line_amount_data : LineAmount → Data
line_amount_data i = fields ((codes "line", count i.line) ∷ (codes "amount", count i.amount) ∷ [])

abbrev pub source_amount_data : SourceAmount → Data
source_amount_data i =
    fields ((codes "source", count i.source) ∷ (codes "amount", count i.amount) ∷ [])

abbrev pub account_fields : AccountItem → List (List ℕ × Data)
account_fields i = (codes "fund", count i.fund) ∷ (codes "dept", count i.dept)
    ∷ (codes "object", count i.object) ∷ (codes "amount", count i.amount) ∷ []

abbrev pub account_item_data : AccountItem → Data
account_item_data i = fields (account_fields i)

-- the lesser amount is not said
abbrev pub liquidation_fields : Liquidation → List (List ℕ × Data)
liquidation_fields Lesser = []
liquidation_fields (Recorded r) = (codes "recorded", count r) ∷ []
liquidation_fields Final = (codes "final", boolean true) ∷ []

-- a charge to the appropriation itself is not said
abbrev pub charge_fields : Charge → List (List ℕ × Data)
charge_fields Direct = []
charge_fields (OnOrder item order how) =
    (codes "order", count order) ∷ (codes "item", count item) ∷ liquidation_fields how

abbrev pub voucher_item_data : VoucherItem → Data
voucher_item_data i = fields (account_fields i.account ++ charge_fields i.charge)
