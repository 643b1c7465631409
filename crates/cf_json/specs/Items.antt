-- What stands in the lists of a call.
use Rattle.std.specs.Prelude.{ℕ, ◌&&◌, List, [], ◌∷◌, Bool, true, false, not, codes, is_none, if◌then◌else◌, Option, Some, None, option_map, option_and_then}
use Rattle.serde_json.specs.Data.{Data}
use Rattle.serde_json.specs.Find.{get, as_bool}
use Rattle.cf_calls.specs.declared.items.LineAmount.{LineAmount}
use Rattle.cf_calls.specs.declared.items.SourceAmount.{SourceAmount}
use Rattle.cf_calls.specs.declared.items.AccountItem.{AccountItem}
use Rattle.cf_calls.specs.declared.items.VoucherItem.{VoucherItem}
use Rattle.cf_calls.specs.declared.items.Charge.{Charge}
use Rattle.cf_calls.specs.declared.items.Charge.TheVariants.{Direct, OnOrder}
use Rattle.cf_calls.specs.declared.items.Liquidation.{Liquidation}
use Rattle.cf_calls.specs.declared.items.Liquidation.TheVariants.{Lesser, Recorded, Final}
use Rattle.cf_calls.specs.Common.{same_line, same_source, same_number, same_order_item}
use Rattle.cf_json_members.specs.Fields.{maybe, has_only}
use Rattle.cf_json_members.specs.Kinds.{kept, as_n16, as_n32, as_count, as_amount}
use Rattle.cf_json_members.specs.Lists.{as_list}

-- ---- the items

infixl 10 ◌>>=◌
abbrev pub ◌>>=◌ : {A B : Type 0} → Option A → (A → Option B) → Option B
o >>= f = option_and_then f o

-- a field of an item
abbrev pub part : {A : Type 0} → (Data → Option A) → List ℕ → Data → Option A
part kind name d = option_and_then kind (get name d)

-- a field of an item that may be absent
abbrev pub maybe_part : {A : Type 0} → (Data → Option A) → List ℕ → Data → Option (Option A)
maybe_part kind name d = maybe kind (get name d)

-- any two may stand in one list
abbrev pub never : {A : Type 0} → A → A → Bool
never a b = false

abbrev pub as_line_amount : Data → Option LineAmount
as_line_amount d = do
  line ← part as_n16 (codes "line") d
  amount ← part as_count (codes "amount") d
  kept (λ _. has_only (codes "line" ∷ codes "amount" ∷ []) d)
      (record { line = line; amount = amount })

abbrev pub as_source_amount : Data → Option SourceAmount
as_source_amount d = do
  source ← part as_n16 (codes "source") d
  amount ← part as_count (codes "amount") d
  kept (λ _. has_only (codes "source" ∷ codes "amount" ∷ []) d)
      (record { source = source; amount = amount })

-- an account with its amount, where other fields may stand beside
abbrev pub as_account : Data → Option AccountItem
as_account d = do
  fund ← part as_n16 (codes "fund") d
  dept ← part as_n16 (codes "dept") d
  object ← part as_n16 (codes "object") d
  amount ← part as_count (codes "amount") d
  Some (record { fund = fund; dept = dept; object = object; amount = amount })

abbrev pub as_account_item : Data → Option AccountItem
as_account_item d = do
  account ← as_account d
  kept (λ _. has_only (codes "fund" ∷ codes "dept" ∷ codes "object" ∷ codes "amount" ∷ []) d)
      account

-- how much is liquidated: at most one of `recorded` and a true `final`
abbrev pub liquidation_of : Option ℕ → Bool → Option Liquidation
liquidation_of None false = Some Lesser
liquidation_of None true = Some Final
liquidation_of (Some r) false = Some (Recorded r)
liquidation_of (Some r) true = None

-- what is charged: `order` and `item` together, and `recorded` or a true `final` only with them
abbrev pub charge_of : Option ℕ → Option ℕ → Option ℕ → Bool → Option Charge
charge_of None None recorded final = if is_none recorded && not final then Some Direct else None
charge_of (Some o) (Some i) recorded final =
    option_map (OnOrder i o) (liquidation_of recorded final)
charge_of _ _ recorded final = None

-- an absent `final` is false
abbrev pub is_final : Option Bool → Bool
is_final None = false
is_final (Some b) = b

abbrev pub as_charge : Data → Option Charge
as_charge d = do
  order ← maybe_part as_n32 (codes "order") d
  place ← maybe_part as_n16 (codes "item") d
  recorded ← maybe_part as_amount (codes "recorded") d
  final ← maybe_part as_bool (codes "final") d
  charge_of order place recorded (is_final final)

abbrev pub voucher_item_names : List (List ℕ)
voucher_item_names =
    codes "fund" ∷ codes "dept" ∷ codes "object" ∷ codes "amount" ∷ codes "order" ∷ codes "item"
    ∷ codes "recorded" ∷ codes "final" ∷ []

abbrev pub as_voucher_item : Data → Option VoucherItem
as_voucher_item d = do
  account ← as_account d
  charge ← as_charge d
  kept (λ _. has_only voucher_item_names d) (record { account = account; charge = charge })

-- ---- the lists

abbrev pub as_line_amounts : Data → Option (List LineAmount)
as_line_amounts = as_list as_line_amount same_line 0 4096

abbrev pub as_source_amounts : Data → Option (List SourceAmount)
as_source_amounts = as_list as_source_amount same_source 0 256

abbrev pub as_account_items : Data → Option (List AccountItem)
as_account_items = as_list as_account_item never 1 32

abbrev pub as_voucher_items : Data → Option (List VoucherItem)
as_voucher_items = as_list as_voucher_item same_order_item 1 32

abbrev pub as_vouchers : Data → Option (List ℕ)
as_vouchers = as_list as_n32 same_number 1 64

abbrev pub as_principals : Data → Option (List ℕ)
as_principals = as_list as_count never 1 120
