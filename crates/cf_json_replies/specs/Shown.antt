-- The answers of looks, in JSON.
use Rattle.std.specs.Prelude.{ℕ, List, [], ◌∷◌, map, codes, Option, Some, None}
use Rattle.serde_json.specs.Data.{Data, array, string, item}
use Rattle.serde_json.specs.View.{items_of}
use Rattle.cf_base.specs.declared.calendar.Day.{Day}
use Rattle.cf_calls.specs.declared.items.LineAmount.{LineAmount}
use Rattle.cf_calls.specs.declared.reply.Row.{Row}
use Rattle.cf_calls.specs.declared.shown.LineNumbers.{LineNumbers}
use Rattle.cf_calls.specs.declared.shown.OrderItemShown.{OrderItemShown}
use Rattle.cf_calls.specs.declared.shown.ReconShown.{ReconShown}
use Rattle.cf_calls.specs.declared.shown.RequisitionState.{RequisitionState}
use Rattle.cf_calls.specs.declared.shown.RequisitionState.TheVariants as requisition
use Rattle.cf_calls.specs.declared.shown.ItemState.{ItemState}
use Rattle.cf_calls.specs.declared.shown.ItemState.TheVariants as state
use Rattle.cf_calls.specs.declared.shown.VoucherState.{VoucherState}
use Rattle.cf_calls.specs.declared.shown.VoucherState.TheVariants as voucher
use Rattle.cf_calls.specs.declared.shown.AssetState.{AssetState}
use Rattle.cf_calls.specs.declared.shown.AssetState.TheVariants as asset
use Rattle.cf_calls.specs.declared.shown.Shown.{Shown}
use Rattle.cf_calls.specs.declared.shown.Shown.TheVariants.{Line, Requisition, Order, Voucher, Bill, Asset, Bond, Leave, Account, Reconcile, Report}
use Rattle.cf_json_members.specs.Objects.{fields, count, cents, signed_cents, day, list_of}

abbrev pub requisition_word : RequisitionState → List ℕ
requisition_word requisition.Open = codes "open"
requisition_word requisition.Withdrawn = codes "withdrawn"
requisition_word requisition.Ordered = codes "ordered"
requisition_word requisition.Lapsed = codes "lapsed"

abbrev pub item_word : ItemState → List ℕ
item_word state.Live = codes "live"
item_word state.Finished = codes "finished"
item_word state.Lapsed = codes "lapsed"
item_word state.Cancelled = codes "cancelled"

abbrev pub voucher_word : VoucherState → List ℕ
voucher_word voucher.Open = codes "open"
voucher_word voucher.Paid = codes "paid"
voucher_word voucher.Void = codes "void"

abbrev pub asset_word : AssetState → List ℕ
asset_word asset.Held = codes "held"
asset_word asset.Disposed = codes "disposed"
asset_word asset.Void = codes "void"

abbrev pub line_data : LineNumbers → Data
line_data n = fields
    ((codes "appropriated", signed_cents n.appropriated)
    ∷ (codes "encumbered", signed_cents n.encumbered)
    ∷ (codes "expended", signed_cents n.expended) ∷ (codes "held", signed_cents n.held)
    ∷ (codes "original", signed_cents n.original) ∷ (codes "room", signed_cents n.room) ∷ [])

abbrev pub line_amount_data : LineAmount → Data
line_amount_data i = fields ((codes "amount", cents i.amount) ∷ (codes "line", count i.line) ∷ [])

abbrev pub order_item_data : OrderItemShown → Data
order_item_data i =
    fields ((codes "line", count i.line) ∷ (codes "open", cents i.open_cents)
    ∷ (codes "state", string (item_word i.state)) ∷ (codes "year", count i.year) ∷ [])

-- a due date, or the empty text where all is paid
abbrev pub next_data : Option Day → Data
next_data None = string []
next_data (Some d) = day d

abbrev pub recon_data : ReconShown → Data
recon_data r = fields
    ((codes "accrued_interest", signed_cents r.accrued_interest)
    ∷ (codes "bonds", signed_cents r.bonds)
    ∷ (codes "capital_assets", signed_cents r.capital_assets)
    ∷ (codes "fund_balances", signed_cents r.fund_balances)
    ∷ (codes "leases", signed_cents r.leases) ∷ (codes "leave", signed_cents r.leave)
    ∷ (codes "net_position", signed_cents r.net_position)
    ∷ (codes "right_to_use", signed_cents r.right_to_use)
    ∷ (codes "unavailable", signed_cents r.unavailable) ∷ [])

-- the label, and then the amounts
abbrev pub row_data : Row → Data
row_data r = array (item (string r.label) (items_of (map signed_cents r.amounts)))

abbrev pub shown_data : Shown → Data
shown_data (Line numbers) = line_data numbers
shown_data (Requisition items state year) =
    fields ((codes "items", list_of line_amount_data items)
    ∷ (codes "state", string (requisition_word state)) ∷ (codes "year", count year) ∷ [])
shown_data (Order items vendor) =
    fields ((codes "items", list_of order_item_data items) ∷ (codes "vendor", count vendor) ∷ [])
shown_data (Voucher amount state year) =
    fields ((codes "amount", cents amount) ∷ (codes "state", string (voucher_word state))
    ∷ (codes "year", count year) ∷ [])
shown_data (Bill left levy_year source) =
    fields ((codes "left", cents left) ∷ (codes "levy_year", count levy_year)
    ∷ (codes "source", count source) ∷ [])
shown_data (Asset cost depreciation state) =
    fields ((codes "cost", cents cost) ∷ (codes "depreciation", cents depreciation)
    ∷ (codes "state", string (asset_word state)) ∷ [])
shown_data (Bond accrued next outstanding) =
    fields ((codes "accrued", signed_cents accrued) ∷ (codes "next", next_data next)
    ∷ (codes "outstanding", cents outstanding) ∷ [])
shown_data (Leave left) = fields ((codes "left", cents left) ∷ [])
shown_data (Account balance) = fields ((codes "balance", signed_cents balance) ∷ [])
shown_data (Reconcile r) = recon_data r
shown_data (Report rows title) =
    fields ((codes "rows", list_of row_data rows) ∷ (codes "title", string title) ∷ [])
