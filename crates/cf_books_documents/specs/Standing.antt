-- How documents stand, by what looks at them show.
use Rattle.std.specs.Prelude.{ℕ, min, ◌-◌, ◌==◌, if◌then◌else◌, Option, Some, None, is_some, slice_get, ℤ, pos}
use Rattle.cf_model.specs.Common.{AssetState, ItemState, OrderItemShown, RequisitionState, Shown, VoucherState}
use Rattle.cf_calls.specs.declared.shown.AssetState.TheVariants as asset
use Rattle.cf_calls.specs.declared.shown.ItemState.TheVariants as item
use Rattle.cf_calls.specs.declared.shown.RequisitionState.TheVariants as requisition
use Rattle.cf_calls.specs.declared.shown.Shown.TheVariants as shown
use Rattle.cf_calls.specs.declared.shown.VoucherState.TheVariants as voucher
use Rattle.cf_books_documents.specs.declared.facts.State.{State}
use Rattle.cf_books_documents.specs.declared.facts.State.TheVariants as state
use Rattle.cf_books_documents.specs.declared.standing.Standing.{Standing}

-- what no look shows
abbrev pub unseen : ℤ → Standing
unseen amount = record { state = None; year = None; amount = amount; left = pos 0 }

abbrev pub requisition_state : RequisitionState → State
requisition_state requisition.Open = state.Open
requisition_state requisition.Withdrawn = state.Withdrawn
requisition_state requisition.Ordered = state.Ordered
requisition_state requisition.Lapsed = state.Lapsed

abbrev pub item_state : ItemState → State
item_state item.Live = state.Live
item_state item.Finished = state.Finished
item_state item.Lapsed = state.Lapsed
item_state item.Cancelled = state.Cancelled

abbrev pub voucher_state : VoucherState → State
voucher_state voucher.Open = state.Open
voucher_state voucher.Paid = state.Paid
voucher_state voucher.Void = state.Void

abbrev pub asset_state : AssetState → State
asset_state asset.Held = state.Held
asset_state asset.Disposed = state.Disposed
asset_state asset.Void = state.Void

-- what is left of an amount: all of it while the state is open or held
abbrev pub open_part : State → ℤ → ℤ
open_part state.Open amount = amount
open_part state.Held amount = amount
open_part _ amount = pos 0

abbrev pub standing : State → ℕ → ℤ → ℤ → Standing
standing state year amount left =
    record { state = Some state; year = Some year; amount = amount; left = left }

abbrev pub requisition_now : Option Shown → ℤ → Standing
requisition_now (Some (shown.Requisition items state year)) amount =
    standing (requisition_state state) year amount (open_part (requisition_state state) amount)
requisition_now _ amount = unseen amount

abbrev pub item_shown : Option Shown → ℕ → Option OrderItemShown
item_shown (Some (shown.Order items vendor)) nth = slice_get items nth
item_shown _ nth = None

-- an order's item: what is open of it
abbrev pub item_now : Option OrderItemShown → ℕ → Standing
item_now None amount = unseen (pos amount)
item_now (Some i) amount = standing (item_state i.state) i.year (pos amount) (pos i.open_cents)

abbrev pub voucher_now : Option Shown → Standing
voucher_now (Some (shown.Voucher amount state year)) =
    standing (voucher_state state) year (pos amount) (open_part (voucher_state state) (pos amount))
voucher_now _ = unseen (pos 0)

abbrev pub bill_state : ℕ → State
bill_state left = if left == 0 then state.Settled else state.Open

abbrev pub bill_now : Option Shown → ℕ → Standing
bill_now (Some (shown.Bill left levy_year source)) amount =
    standing (bill_state left) levy_year (pos amount) (pos left)
bill_now _ amount = unseen (pos amount)

-- an asset: what is left is its cost, less its depreciation, while it is held
abbrev pub asset_now : Option Shown → ℕ → ℕ → Standing
asset_now (Some (shown.Asset cost depreciation state)) year amount =
    standing (asset_state state) year (pos amount)
    (open_part (asset_state state) (pos (cost - depreciation)))
asset_now _ year amount = unseen (pos amount)

-- a bond or a lease: open while a payment is to come
abbrev pub debt_now : Option Shown → ℕ → ℕ → Standing
debt_now (Some (shown.Bond accrued next outstanding)) year amount =
    standing (if is_some next then state.Open else state.Repaid) year (pos amount) (pos outstanding)
debt_now _ year amount = unseen (pos amount)

abbrev pub loan_state : ℕ → State
loan_state left = if left == 0 then state.Repaid else state.Open

-- a loan: what is left of it, of what the fund that borrowed owes the one that lent
abbrev pub loan_now : ℕ → ℕ → ℕ → Standing
loan_now year amount owed =
    standing (loan_state (min amount owed)) year (pos amount) (pos (min amount owed))
