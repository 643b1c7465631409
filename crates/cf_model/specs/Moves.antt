-- What an act moves of line numbers, item by item (own rule).
use Rattle.std.specs.Prelude.{ℕ, ◌+◌, Bool, not, ◌&&◌, if◌then◌else◌, ◌==◌, List, [], ◌∷◌, ◌++◌, Option, Some, None, map, sum_by, ℤ, pos, ◌+ℤ◌, ◌-ℤ◌}
use Rattle.std.specs.List.{filter}
use Rattle.cf_base.specs.declared.calendar.Day.{Day}
use Rattle.cf_calls.specs.declared.acts.Act.{Act}
use Rattle.cf_calls.specs.declared.acts.Act.TheVariants.{Requisition, Withdraw, Order, ChangeOrder, CancelOrder, Voucher, VoidVoucher, PayDue, Leave, Close, Lease}
use Rattle.cf_calls.specs.declared.items.AccountItem.{AccountItem}
use Rattle.cf_calls.specs.declared.items.VoucherItem.{VoucherItem}
use Rattle.cf_calls.specs.declared.items.Charge.{Charge}
use Rattle.cf_calls.specs.declared.items.Charge.TheVariants.{Direct, OnOrder}
use Rattle.cf_chart.specs.Common.{Plan}
use Rattle.cf_model.specs.Calendar.{document_year, rolls}
use Rattle.cf_model.specs.OrderItems.{OrderItem, is_live, lapses, open_of, carried_of, is_named, item_named, item_step}
use Rattle.cf_model.specs.Documents.{Hold, Expenditure, Documents, is_number}
use Rattle.cf_calls.specs.declared.entry.Entry.{Entry}
use Rattle.cf_model.specs.Registers.{Registers}
use Rattle.cf_model.specs.Spendings.{Spending, spendings_by}
use Rattle.cf_model.specs.LineNumbers.{counts, is_on, carried_sum, held_amount, expended_amount, added_by, removed_by}

-- what one item moves of its account's line in a year
pub record Move : Type 0 where
  pub account : AccountItem
  pub year : ℕ
  pub held : ℤ
  pub encumbered : ℤ
  pub expended : ℤ

-- an amount that is held, and one that is released
abbrev pub hold_move : ℕ → AccountItem → Move
hold_move year a = record
    { account = a; year = year; held = pos a.amount; encumbered = pos 0; expended = pos 0 }

abbrev pub release_move : Hold → Move
release_move h = record {
  account = h.account;
  year = h.year;
  held = pos 0 -ℤ pos (held_amount h.state h.account.amount);
  encumbered = pos 0;
  expended = pos 0;
}

-- an amount that is ordered
abbrev pub order_move : ℕ → AccountItem → Move
order_move year a =
    record { account = a; year = year; held = pos 0; encumbered = pos a.amount; expended = pos 0 }

-- the rise of what is open where an item is moved
abbrev pub open_rise : (OrderItem → OrderItem) → OrderItem → ℤ
open_rise step i = pos (open_of (step i)) -ℤ pos (open_of i)

abbrev pub item_move : (OrderItem → OrderItem) → OrderItem → Move
item_move step i = record {
  account = i.account;
  year = i.year;
  held = pos 0;
  encumbered = open_rise step i;
  expended = pos 0;
}

-- an amount that is spent, and one that is taken back
abbrev pub spend_move : ℕ → VoucherItem → Move
spend_move year v =
    record {
      account = v.account;
      year = year;
      held = pos 0;
      encumbered = pos 0;
      expended = pos v.account.amount;
    }

abbrev pub unspend_move : Expenditure → Move
unspend_move x = record {
  account = x.account;
  year = x.year;
  held = pos 0;
  encumbered = pos 0;
  expended = pos 0 -ℤ pos (expended_amount x.state x.account.amount);
}

-- the order's item that a charge is against
abbrev pub charged_item : Charge → List OrderItem → Option OrderItem
charged_item Direct items = None
charged_item (OnOrder place order how) items = item_named order place items

abbrev pub move_if : (OrderItem → OrderItem) → AccountItem → ℕ → Option OrderItem → Move
move_if step account year None =
    record { account = account; year = year; held = pos 0; encumbered = pos 0; expended = pos 0 }
move_if step account year (Some i) = item_move step i

-- what a voucher's item liquidates or opens again of its order's item, and nothing where it is
-- direct
abbrev pub charge_move : (OrderItem → OrderItem) → List OrderItem → ℕ → VoucherItem → Move
charge_move step items year v = move_if step v.account year (charged_item v.charge items)

abbrev pub reopen_move : (OrderItem → OrderItem) → List OrderItem → Expenditure → Move
reopen_move step items x = move_if step x.account x.year (charged_item x.charge items)

-- the items of a voucher
abbrev pub spent_by : ℕ → List Expenditure → List Expenditure
spent_by voucher expenditures = filter (λ x. x.voucher == voucher) expenditures

abbrev pub releases : Option ℕ → List Hold → List Move
releases requisition holds =
    map release_move (filter (λ h. is_number requisition h.requisition) holds)

-- the hold of a requisition that the roll of its year finds open
abbrev pub lapses_of : Plan → Act → List Hold → List Move
lapses_of plan act holds = map release_move (filter (λ h. rolls plan h.year act) holds)

-- what an item has open leaves its year with the year's roll, and is encumbered in the year after
-- where it is carried
abbrev pub roll_moves : Plan → Act → List OrderItem → List Move
roll_moves plan act [] = []
roll_moves plan act (i ∷ items) =
    (if rolls plan i.year act && is_live i
    then record {
      account = i.account;
      year = i.year;
      held = pos 0;
      encumbered = pos 0 -ℤ pos (open_of i);
      expended = pos 0;
    }
    ∷ (if lapses plan i then []
    else record {
      account = i.account;
      year = i.year + 1;
      held = pos 0;
      encumbered = pos (open_of i);
      expended = pos 0;
    } ∷ [])
    else [])
    ++ roll_moves plan act items

-- whether the roll of a year carries an item onto a line of the year after
abbrev pub goes_on : Plan → ℕ → ℕ → OrderItem → Bool
goes_on plan line year i = (i.year == year) && is_live i && not (lapses plan i)
    && is_on plan line (i.year + 1) i.account

-- what it carries onto the line
abbrev pub carried_to : Plan → ℕ → ℕ → List OrderItem → ℕ
carried_to plan line year items =
    sum_by (λ i. if goes_on plan line year i then open_of i else 0) items

-- the moves of an act on documents that draws this number, at most 64, in the order of its
-- documents' items
abbrev pub document_moves : Plan → Documents → ℕ → Day → Act → List Move
document_moves plan s number on (Requisition r) =
    map (hold_move (document_year plan on (Requisition r))) r.items
document_moves plan s number on (Withdraw n) = releases (Some n) s.holds
document_moves plan s number on (Order o) =
    releases o.requisition s.holds ++ map (order_move (document_year plan on (Order o))) o.items
document_moves plan s number on (ChangeOrder c) =
    map (item_move (item_step plan number (ChangeOrder c)))
    (filter (is_named c.order c.item) s.items)
document_moves plan s number on (CancelOrder n) =
    map (item_move (item_step plan number (CancelOrder n))) (filter (λ i. i.order == n) s.items)
document_moves plan s number on (Voucher v) =
    map (spend_move (document_year plan on (Voucher v))) v.items
    ++ map (charge_move (item_step plan number (Voucher v)) s.items
    (document_year plan on (Voucher v))) v.items
document_moves plan s number on (VoidVoucher n) =
    map unspend_move (spent_by n s.expenditures)
    ++ map (reopen_move (item_step plan number (VoidVoucher n)) s.items) (spent_by n s.expenditures)
document_moves plan s number on _ = []

-- what a debt payment, matured leave or a lease spends
abbrev pub spending_move : Spending → Move
spending_move x = record {
  account = x.account;
  year = x.year;
  held = pos 0;
  encumbered = pos 0;
  expended = pos x.account.amount;
}

-- the moves of an act: those of its documents, of the year that it rolls, or of what it spends
-- beside documents
abbrev pub moves_of : Plan → Registers → ℕ → Day → Act → List Move
moves_of plan s number on (Close p) =
    lapses_of plan (Close p) s.documents.holds ++ roll_moves plan (Close p) s.documents.items
moves_of plan s number on (PayDue d) = map spending_move (spendings_by plan s on (PayDue d))
moves_of plan s number on (Leave l) = map spending_move (spendings_by plan s on (Leave l))
moves_of plan s number on (Lease l) = map spending_move (spendings_by plan s on (Lease l))
moves_of plan s number on act = document_moves plan s.documents number on act

-- what moves make of one number of a line and year
abbrev pub moved_sum : (Move → ℤ) → Plan → ℕ → ℕ → List Move → ℤ
moved_sum f plan line year [] = pos 0
moved_sum f plan line year (m ∷ moves) =
    (if counts plan line year m.account m.year then f m else pos 0) +ℤ moved_sum f plan line year
    moves

-- what moves ask of a line and year: by how much they narrow its room
abbrev pub asks_of_moves : Plan → ℕ → ℕ → List Move → ℤ
asks_of_moves plan line year moves =
    moved_sum (λ m. (m.held +ℤ m.encumbered) +ℤ m.expended) plan line year moves

-- what an act carries into a line and year, over these documents
abbrev pub carried_by : Plan → Documents → ℕ → ℕ → Act → ℕ
carried_by plan s line year act = carried_sum plan line year (carried_of plan act s.items)

-- what an entry asks of a line and year, over the registers before it
abbrev pub asked_of : Plan → Registers → Entry → ℕ → ℕ → ℤ
asked_of plan s e line year =
    (pos (removed_by line year e.change.act) -ℤ pos
    (added_by line year e.change.act + carried_by plan s.documents line year e.change.act))
    +ℤ asks_of_moves plan line year (moves_of plan s e.drawn.number e.change.on e.change.act)
