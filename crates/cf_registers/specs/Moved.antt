-- What an entry changes of line numbers.
use Rattle.std.specs.Prelude.{◌≡◌, ℕ, Bool, true, false, if◌then◌else◌, ◌==◌, ◌&&◌, nat_lt, ◌+◌, ◌<◌, List, [], ◌∷◌, length, map, Option, None, Some, ℤ, pos, ◌≤ℤ◌, ◌+ℤ◌, ◌-ℤ◌, option_to_list}
use Rattle.std.specs.List.{filter, list_all, AllByRecursion}
use Rattle.cf_model.specs.Common.{Day, Act, PayDue, Leave, Lease, Amendment, LineTransfer, Entry, LineAmount, state_refusal, on_order_refusal, open_refusal, original, appropriated, encumbered, expended, adopted_by, added_by, removed_by, counts, Move, carried_by, document_moves, moved_sum, moves_of, spending_move, Registers, spendings_by, is_item_in, touches, bond_at, document_number, draws}
use Rattle.cf_base.specs.Common.{is_day}
use Rattle.cf_calls.specs.Common.{is_distinct, IsActInForm}
use Rattle.cf_chart.specs.Common.{Plan}
use Rattle.cf_budget.specs.declared.changes.LineChange.{LineChange}
use Rattle.cf_budget.specs.declared.row.Row.{Row}
use Rattle.cf_budget.specs.Changes.{changes_at, same_place}
use Rattle.cf_budget.specs.Tables.{Tables, has_line, row_at, zero_row, adopt_row, amend_row}
use Rattle.cf_model.specs.LineNumbers.{held}
use Rattle.cf_orders.specs.declared.moves.LineMove.{LineMove}

-- the row of a line and year of a history
abbrev pub row_of : Plan → List Entry → ℕ → ℕ → Row
row_of plan history line year = record {
  original = pos (original line year history);
  appropriated = appropriated plan line year history;
  held = pos (held plan line year history);
  encumbered = pos (encumbered plan line year history);
  expended = pos (expended plan line year history);
}

-- the tables that are there have the numbers of the history
abbrev pub AreTablesOf : Plan → List Entry → Tables → Type 0
AreTablesOf plan history tables = (line year : ℕ) → has_line tables line ≡ true
    → row_at tables line year ≡ row_of plan history line year

-- the moves of an act of this day over these registers: what it spends beside documents, or the
-- moves of its documents
abbrev pub act_moves : Plan → Registers → Day → Act → List Move
act_moves plan s on (PayDue d) = map spending_move (spendings_by plan s on (PayDue d))
act_moves plan s on (Leave l) = map spending_move (spendings_by plan s on (Leave l))
act_moves plan s on (Lease l) = map spending_move (spendings_by plan s on (Lease l))
act_moves plan s on act = document_moves plan s.documents (document_number s.documents act) on act

-- moves in stripes that an act touches
abbrev pub AreTouched : Plan → Act → List Move → Type 0
AreTouched plan act moves = (stripe : ℕ) → touches plan stripe act ≡ false
    → AllByRecursion (λ m. is_item_in plan stripe m.account ≡ false) moves

-- an act that the rules before that of room allow
pub record IsCleared (plan : Plan) (s : Registers) (on : Day) (act : Act) : Type 0 where
  pub day : is_day on ≡ true
  pub form : IsActInForm on act
  pub states : state_refusal plan s.documents on act ≡ None
  pub on_order : on_order_refusal s.documents act ≡ None
  pub opens : open_refusal s.documents act ≡ None
  pub years : AllByRecursion (λ m. m.year < 2201) (act_moves plan s on act)
  pub touched : AreTouched plan act (act_moves plan s on act)
  -- a number names at most one bond
  pub bonds : (k : ℕ) → filter (λ b. b.number == k) s.bonds ≡ option_to_list (bond_at k s.bonds)

-- what a change asks of its line and year: by how much it narrows the room
abbrev pub asks_of : Row → ℤ
asks_of by = (by.held +ℤ by.encumbered) +ℤ by.expended

-- a sum of at most 64 numbers, each of which fits 64 bits
pub record IsSmallSum (z : ℤ) : Type 0 where
  pub least : (pos 0 -ℤ pos 1180591620717411303424) ≤ℤ z
  pub most : z ≤ℤ pos 1180591620717411303424

-- what at most 64 moves make of a line and year
pub record AreSmallSums (r : Row) : Type 0 where
  pub held : IsSmallSum r.held
  pub encumbered : IsSmallSum r.encumbered
  pub expended : IsSmallSum r.expended

-- what a move makes of its line and year
abbrev pub move_row : LineMove → Row
move_row m = record zero_row { held = m.held; encumbered = m.encumbered; expended = m.expended }

abbrev pub row_at_move : Plan → ℕ → ℕ → LineMove → Row
row_at_move plan line year m = if counts plan line year m.account m.year then move_row m
    else zero_row

abbrev pub row_if : Plan → ℕ → ℕ → Option LineMove → Row
row_if plan line year None = zero_row
row_if plan line year (Some m) = row_at_move plan line year m

-- what moves make of a line and year
abbrev pub moves_row : Plan → List Move → ℕ → ℕ → Row
moves_row plan moves line year = record zero_row {
  held = moved_sum (λ m. m.held) plan line year moves;
  encumbered = moved_sum (λ m. m.encumbered) plan line year moves;
  expended = moved_sum (λ m. m.expended) plan line year moves;
}

-- what an act changes of a line and year, over these registers
abbrev pub moved_by : Plan → Registers → Day → Act → ℕ → ℕ → Row
moved_by plan s on act line year = record {
  original = pos (adopted_by line year act);
  appropriated = pos (added_by line year act + carried_by plan s.documents line year act) -ℤ pos
      (removed_by line year act);
  held = moved_sum (λ m. m.held) plan line year (moves_of plan s (draws s act).number on act);
  encumbered = moved_sum (λ m. m.encumbered) plan line year
      (moves_of plan s (draws s act).number on act);
  expended = moved_sum (λ m. m.expended) plan line year
      (moves_of plan s (draws s act).number on act);
}

-- .. where it rolls no year
abbrev pub plainly_moved : Plan → Registers → Day → Act → ℕ → ℕ → Row
plainly_moved plan s on act line year = record {
  original = pos (adopted_by line year act);
  appropriated = pos (added_by line year act) -ℤ pos (removed_by line year act);
  held = moved_sum (λ m. m.held) plan line year (act_moves plan s on act);
  encumbered = moved_sum (λ m. m.encumbered) plan line year (act_moves plan s on act);
  expended = moved_sum (λ m. m.expended) plan line year (act_moves plan s on act);
}

-- a line of the chart, in a year that has numbers
abbrev pub is_inside : Plan → ℕ → ℕ → Bool
is_inside plan line year = nat_lt line (length plan.lines) && nat_lt year 2201

-- these changes, one a line and year, make this of each line and year
pub record Make (plan : Plan) (moves : ℕ → ℕ → Row) (changes : List LineChange) : Type 0 where
  pub apart : is_distinct same_place changes ≡ true
  pub inside : list_all (λ c. is_inside plan c.line.number c.year) changes ≡ true
  pub made : (line year : ℕ) → changes_at changes line year ≡ moves line year

-- the changes of an adoption, an amendment and a transfer
abbrev pub change_of : ℕ → ℕ → Row → LineChange
change_of line year by = record { line = record { number = line }; year = year; by = by }

abbrev pub adoption_changes : ℕ → List LineAmount → List LineChange
adoption_changes year rows = map (λ r. change_of r.line year (adopt_row r.amount)) rows

abbrev pub amendment_changes : Amendment → List LineChange
amendment_changes a = change_of a.line a.year (amend_row a.by) ∷ []

abbrev pub transfer_changes : LineTransfer → List LineChange
transfer_changes t =
    change_of t.to t.year (amend_row (pos t.amount))
    ∷ change_of t.from t.year (amend_row (pos 0 -ℤ pos t.amount)) ∷ []
