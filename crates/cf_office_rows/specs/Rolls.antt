-- What the roll of a fiscal year moves, document by document (GFOA Blue Book: encumbrances that are
-- open at a year's end).
use Rattle.std.specs.Prelude.{◌≡◌, ◌≢◌, ℕ, ◌+◌, if◌then◌else◌, ◌==◌, List, [], ◌∷◌, ◌++◌, Option, Some, None, map, flat_map, ◌&&◌, ℤ, pos, ◌-ℤ◌}
use Rattle.std.specs.List.{AllByRecursion, filter, range_with_len}
use Rattle.cf_chart.specs.Common.{Plan, fund_at}
use Rattle.cf_model.specs.Common.{withdrawn_state, Hold, Documents, is_number, requisition_at, held_amount, Move, release_move, OrderItem, carries_fund, has_line, may_carry, open_of}
use Rattle.cf_orders.specs.declared.moves.LineMove.{LineMove}
use Rattle.cf_office_rows.specs.declared.rows.Amounts.{Amounts}
use Rattle.cf_office_rows.specs.declared.rows.LedgerRow.{LedgerRow}
use Rattle.cf_office_rows.specs.declared.rows.Origin.{Origin}
use Rattle.cf_office_rows.specs.Items.{item_rows, rows_if}
use Rattle.cf_office_rows.specs.Rows.{amounts_of, nothing, on_account, on_move, origin}

-- ---- requisitions

-- what is held of an item is released where its year is rolled
abbrev pub lapse_move : ℕ → Hold → Move
lapse_move year h =
    if h.year == year then release_move h
    else record {
      account = h.account;
      year = h.year;
      held = pos 0;
      encumbered = pos 0;
      expended = pos 0;
    }

abbrev pub requisition_rows : Plan → ℕ → ℕ → List Hold → ℕ → List LedgerRow
requisition_rows plan place year holds n =
    item_rows plan place n 1
    (map (lapse_move year) (filter (λ h. is_number (Some n) h.requisition) holds))

-- ---- orders

-- what an item has open is no longer encumbered in its year
abbrev pub leave_move : OrderItem → Move
leave_move i = record {
  account = i.account;
  year = i.year;
  held = pos 0;
  encumbered = pos 0 -ℤ pos (open_of i);
  expended = pos 0;
}

-- it is encumbered in the year after, which has as much more appropriation
abbrev pub carries_amount : ℤ → Amounts
carries_amount amount = record nothing { appropriated = amount; ordered = amount }

abbrev pub carried_row : Plan → Origin → OrderItem → LedgerRow
carried_row plan of i = on_account plan of i.account (i.year + 1) (carries_amount (pos (open_of i)))

-- an item whose year is rolled: it leaves the year, and goes on in the year after where its fund
-- carries and it has a line there
abbrev pub roll_item : Plan → ℕ → Origin → OrderItem → List LedgerRow
roll_item plan year of i =
    if i.year == year
    then on_move plan of (leave_move i)
    ∷ (if may_carry plan i then carried_row plan of i ∷ [] else [])
    else []

abbrev pub roll_items : Plan → ℕ → ℕ → ℕ → ℕ → List OrderItem → List LedgerRow
roll_items plan place year document item [] = []
roll_items plan place year document item (i ∷ items) =
    roll_item plan year (origin place document item) i
    ++ roll_items plan place year document (item + 1) items

abbrev pub order_rows : Plan → ℕ → ℕ → List OrderItem → ℕ → List LedgerRow
order_rows plan place year items n =
    roll_items plan place year n 1 (filter (λ i. i.order == n) items)

-- ---- all of them, by their numbers

abbrev pub roll_rows : Plan → Documents → ℕ → Option ℕ → List LedgerRow
roll_rows plan s place None = []
roll_rows plan s place (Some year) =
    flat_map (requisition_rows plan place year s.holds) (range_with_len 1 s.requisitions)
    ++ flat_map (order_rows plan place year s.items) (range_with_len 1 s.orders)

-- the items of a requisition that isn't open hold nothing
abbrev pub AreReleased : List Hold → Type 0
AreReleased holds = (n : ℕ) → withdrawn_state n (requisition_at n holds) ≢ None →
    AllByRecursion (λ h. held_amount h.state h.account.amount ≡ 0)
    (filter (λ h. is_number (Some n) h.requisition) holds)

-- ---- the same of moves as the register hands them out

abbrev pub in_year : Plan → Origin → ℕ → Option LineMove → List LedgerRow
in_year plan of year None = []
in_year plan of year (Some m) = if m.year == year then rows_if plan of (Some m) else []

abbrev pub carried_line : Plan → Origin → LineMove → List LedgerRow
carried_line plan of m =
    if carries_fund (fund_at plan m.account.fund) && has_line plan m.account (m.year + 1)
    then on_account plan of m.account (m.year + 1) (carries_amount (pos 0 -ℤ m.encumbered)) ∷ []
    else []

abbrev pub rolled_line : Plan → Origin → LineMove → List LedgerRow
rolled_line plan of m =
    on_account plan of m.account m.year (amounts_of m.held m.encumbered m.expended)
    ∷ carried_line plan of m

abbrev pub rolled_if : Plan → Origin → ℕ → Option LineMove → List LedgerRow
rolled_if plan of year None = []
rolled_if plan of year (Some m) = if m.year == year then rolled_line plan of m else []
