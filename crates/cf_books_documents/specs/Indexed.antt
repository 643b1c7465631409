-- What is known of a history by number.
use Rattle.std.specs.Prelude.{◌≡◌, ℕ, ◌==◌, ◌&&◌, if◌then◌else◌, List, [], Option, Some, None, Vec, option_and_then, slice_get}
use Rattle.std.specs.BTreeMap.{get}
use Rattle.std.specs.Global.{Global}
use Rattle.std.specs.List.{filter}
use Rattle.std.specs.Ordering.{nat_cmp}
use Rattle.std.specs.declared.collections.BTreeMap.{BTreeMap}
use Rattle.cf_model.specs.Common.{Entry}
use Rattle.cf_books_documents.specs.declared.event.Event.{Event}
use Rattle.cf_books_documents.specs.declared.rolls.Roll.{Roll}
use Rattle.cf_books_documents.specs.Events.{is_voucher, voucher_in}

-- the places of vouchers behind an entry, which stands at a place from 0
abbrev pub voucher_noted : Entry → ℕ → (ℕ → Option ℕ) → ℕ → Option ℕ
voucher_noted e at before n = if is_voucher e.change.act && (e.drawn.number == n) then Some at
    else before n

-- the places are those of the vouchers
abbrev pub KnowsVouchers : List Entry → BTreeMap ℕ ℕ Global → Type 0
KnowsVouchers history places = (n : ℕ)
    → option_and_then (slice_get history) (get nat_cmp places n) ≡ voucher_in history n

-- the events of a number
abbrev pub numbered : ℕ → List Event → List Event
numbered n events = filter (λ v. v.number == n) events

abbrev pub list_in : Option (Vec Event Global) → List Event
list_in None = []
list_in (Some v) = v.items

-- the events of each number, and the rolls
pub record Known : Type 0 where
  pub events : ℕ → List Event
  pub rolls : List Roll
