-- The rows of what the items of a document move.
use Rattle.std.specs.Prelude.{ℕ, ◌+◌, Bool, true, false, if◌then◌else◌, ◌==◌, ◌&&◌, List, [], ◌∷◌, ◌++◌, Option, Some, None, ◌+ℤ◌}
use Rattle.cf_chart.specs.Common.{Plan}
use Rattle.cf_model.specs.Common.{Move}
use Rattle.cf_office_rows.specs.declared.rows.LedgerRow.{LedgerRow}
use Rattle.cf_office_rows.specs.declared.rows.Origin.{Origin}
use Rattle.cf_orders.specs.declared.moves.LineMove.{LineMove}
use Rattle.cf_office_rows.specs.Rows.{amounts_of, line_number, on_account, on_move, origin}

-- a row for each move of a document's items, which are numbered from this one on
abbrev pub item_rows : Plan → ℕ → ℕ → ℕ → List Move → List LedgerRow
item_rows plan place document item [] = []
item_rows plan place document item (m ∷ moves) =
    on_move plan (origin place document item) m ∷ item_rows plan place document (item + 1) moves

-- rows of one item
abbrev pub same_rows : Plan → Origin → List Move → List LedgerRow
same_rows plan of [] = []
same_rows plan of (m ∷ moves) = on_move plan of m ∷ same_rows plan of moves

-- ---- what a voucher's item spends, and what it liquidates of its order's item

abbrev pub same_number : Option ℕ → Option ℕ → Bool
same_number None None = true
same_number (Some m) (Some n) = m == n
same_number _ _ = false

-- whether two moves are of one line and fiscal year
abbrev pub same_place : Plan → Move → Move → Bool
same_place plan a b = (a.year == b.year)
    && same_number (line_number plan a.account a.year) (line_number plan b.account b.year)

-- both on the account of the first
abbrev pub with_both : Move → Move → Move
with_both a b = record {
  account = a.account;
  year = a.year;
  held = a.held +ℤ b.held;
  encumbered = a.encumbered +ℤ b.encumbered;
  expended = a.expended +ℤ b.expended;
}

-- one row where they are of one line and year
abbrev pub joined : Plan → Origin → Move → Move → List LedgerRow
joined plan of a b = if same_place plan a b then on_move plan of (with_both a b) ∷ []
    else on_move plan of a ∷ on_move plan of b ∷ []

abbrev pub paired_rows : Plan → ℕ → ℕ → ℕ → List Move → List Move → List LedgerRow
paired_rows plan place document item (m ∷ ms) (n ∷ ns) =
    joined plan (origin place document item) m n ++ paired_rows plan place document (item + 1) ms ns
paired_rows plan place document item _ _ = []

-- ---- the same of moves as the register hands them out

-- a row of a move, if there is one
abbrev pub rows_if : Plan → Origin → Option LineMove → List LedgerRow
rows_if plan of None = []
rows_if plan of (Some m) =
    on_account plan of m.account m.year (amounts_of m.held m.encumbered m.expended) ∷ []

abbrev pub same_line_place : Plan → LineMove → LineMove → Bool
same_line_place plan a b = (a.year == b.year)
    && same_number (line_number plan a.account a.year) (line_number plan b.account b.year)

abbrev pub line_with_both : LineMove → LineMove → LineMove
line_with_both a b =
    record {
      account = a.account;
      year = a.year;
      held = a.held +ℤ b.held;
      encumbered = a.encumbered +ℤ b.encumbered;
      expended = a.expended +ℤ b.expended;
    }

abbrev pub joined_lines : Plan → Origin → LineMove → LineMove → List LedgerRow
joined_lines plan of a b =
    if same_line_place plan a b then rows_if plan of (Some (line_with_both a b))
    else rows_if plan of (Some a) ++ rows_if plan of (Some b)
