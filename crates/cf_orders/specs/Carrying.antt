-- What the roll of a fiscal year carries onto each line of the year after (GFOA Blue Book:
-- encumbrances).
use Rattle.std.specs.Prelude.{◌≡◌, ℕ, ◌+◌, ◌<◌, if◌then◌else◌, ◌&&◌, List, length, slice_index_or}
use Rattle.cf_chart.specs.Common.{Plan}
use Rattle.cf_model.specs.Common.{is_on, carried_to, OrderItem}
use Rattle.cf_orders.specs.declared.rows.ItemRow.{ItemRow}
use Rattle.cf_orders.specs.RowRolls.{goes_on_row}
use Rattle.cf_orders.specs.Rows.{open_now}

-- what is carried of a row's item onto a line
abbrev pub adds_to : Plan → ℕ → ℕ → ItemRow → ℕ
adds_to plan line year r = if goes_on_row plan year r && is_on plan line (r.year + 1) r.account
    then open_now r else 0

-- amounts by line, each what is carried of these items onto it
pub record AreCarried (plan : Plan) (year : ℕ) (items : List OrderItem)
    (amounts : List ℕ) : Type 0 where
  pub len : length amounts ≡ length plan.lines
  pub each : (n : ℕ) → n < length plan.lines
      → slice_index_or amounts n 0 ≡ carried_to plan n year items
