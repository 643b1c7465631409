-- What each entry moves, item by item, over the registers before it.
use Rattle.std.specs.Prelude.{ℕ, ◌+◌, ◌-◌, Bool, if◌then◌else◌, ◌==◌, ◌&&◌, nat_lt, List, [], ◌∷◌, ◌++◌, Option, Some, None, map, flat_map, pos, ◌-ℤ◌}
use Rattle.std.specs.List.{filter}
use Rattle.cf_model.specs.Common.{Day, Act, Adopt, Amend, Transfer, Requisition, Withdraw, Order, ChangeOrder, CancelOrder, Voucher, VoidVoucher, Collect, WriteOff, PayDue, Leave, Close, Lease, DebtPayment, LeaveAct, Mature, NewLease, NewOrder, NewVoucher, Drawn, Entry, document_year, rolled_year, year_of_day, Bond, Documents, Hold, or_zero, Move, charge_move, document_moves, order_move, releases, reopen_move, spend_move, spending_move, spent_by, unspend_move, item_step, Registers, document_number, bonds_spendings}
use Rattle.cf_calls.specs.declared.acts.Act.TheVariants.{Bill}
use Rattle.cf_chart.specs.Common.{Plan}
use Rattle.cf_ledger.specs.declared.post.Post.{Post}
use Rattle.cf_registers.specs.Dues.{leased, paid_leave}
use Rattle.cf_office_rows.specs.declared.rows.LedgerRow.{LedgerRow}
use Rattle.cf_office_rows.specs.Council.{adopted_rows, transfer_rows}
use Rattle.cf_office_rows.specs.Items.{item_rows, paired_rows, same_rows}
use Rattle.cf_office_rows.specs.Rolls.{roll_rows}
use Rattle.cf_office_rows.specs.Rows.{appropriates, kept, nothing, on_line, origin}

-- ---- control lines

-- the items of the requisition that an order takes up
abbrev pub taken_rows : Plan → ℕ → Option ℕ → List Hold → List LedgerRow
taken_rows plan place requisition holds =
    item_rows plan place (or_zero requisition) 1 (releases requisition holds)

-- an order: the items of the requisition that it takes up, and its own
abbrev pub order_entry_rows : Plan → Documents → ℕ → ℕ → ℕ → NewOrder → List LedgerRow
order_entry_rows plan s place number year o =
    taken_rows plan place o.requisition s.holds
    ++ item_rows plan place number 1 (map (order_move year) o.items)

-- what an act does to the items of a document
abbrev pub moves_by : Plan → Documents → Day → Act → List Move
moves_by plan s on act = document_moves plan s (document_number s act) on act

-- a voucher: what each item spends, and what it liquidates of its order's item
abbrev pub voucher_rows : Plan → Documents → ℕ → ℕ → Day → NewVoucher → List LedgerRow
voucher_rows plan s place number on v =
    paired_rows plan place number 1 (map (spend_move (document_year plan on (Voucher v))) v.items)
    (map (charge_move (item_step plan (document_number s (Voucher v)) (Voucher v)) s.items
    (document_year plan on (Voucher v))) v.items)

abbrev pub void_rows : Plan → Documents → ℕ → ℕ → List LedgerRow
void_rows plan s place n =
    paired_rows plan place n 1 (map unspend_move (spent_by n s.expenditures))
    (map (reopen_move (item_step plan (document_number s (VoidVoucher n)) (VoidVoucher n)) s.items)
    (spent_by n s.expenditures))

-- what an act on documents moves, item by item
abbrev pub document_rows : Plan → Documents → ℕ → Drawn → Day → Act → List LedgerRow
document_rows plan s place drawn on (Requisition r) =
    item_rows plan place drawn.number 1 (moves_by plan s on (Requisition r))
document_rows plan s place drawn on (Withdraw n) =
    item_rows plan place n 1 (moves_by plan s on (Withdraw n))
document_rows plan s place drawn on (Order o) =
    order_entry_rows plan s place drawn.number (document_year plan on (Order o)) o
document_rows plan s place drawn on (ChangeOrder c) =
    same_rows plan (origin place c.order c.item) (moves_by plan s on (ChangeOrder c))
document_rows plan s place drawn on (CancelOrder n) =
    item_rows plan place n 1 (moves_by plan s on (CancelOrder n))
document_rows plan s place drawn on (Voucher v) = voucher_rows plan s place drawn.number on v
document_rows plan s place drawn on (VoidVoucher n) = void_rows plan s place n
document_rows plan s place drawn on _ = []

-- a debt payment, by its bond and its own number: its principal and its interest, in the year in
-- which it is due
abbrev pub payment_rows : Plan → List Bond → ℕ → ℕ → DebtPayment → List LedgerRow
payment_rows plan bonds place number d =
    same_rows plan (origin place d.bond number)
    (map spending_move (bonds_spendings plan d (filter (λ b. b.number == d.bond) bonds)))

-- leave that is paid out, in the year of its day
abbrev pub leave_rows : Plan → ℕ → ℕ → LeaveAct → List LedgerRow
leave_rows plan place year (Mature l) =
    same_rows plan (origin place 0 0) (map spending_move (paid_leave l year))
leave_rows plan place year _ = []

-- a lease, by its bond, in the year in which it begins
abbrev pub lease_rows : Plan → ℕ → ℕ → ℕ → NewLease → List LedgerRow
lease_rows plan place bond year l =
    same_rows plan (origin place bond 0) (map spending_move (leased l year))

-- what an act moves of control lines
abbrev pub act_rows : Plan → Registers → ℕ → Drawn → Day → Act → List LedgerRow
act_rows plan s place drawn on (Adopt a) = adopted_rows plan place a.year a.lines
act_rows plan s place drawn on (Amend a) =
    on_line plan (origin place 0 0) a.line a.year (appropriates a.by) ∷ []
act_rows plan s place drawn on (Transfer t) = transfer_rows plan place t
act_rows plan s place drawn on (PayDue d) = payment_rows plan s.bonds place drawn.number d
act_rows plan s place drawn on (Leave l) = leave_rows plan place (year_of_day plan on) l
act_rows plan s place drawn on (Lease l) =
    lease_rows plan place drawn.second (year_of_day plan on) l
act_rows plan s place drawn on (Close p) =
    roll_rows plan s.documents place (rolled_year plan (Close p))
act_rows plan s place drawn on act = document_rows plan s.documents place drawn on act

-- ---- revenue sources

-- the bill that an act enters, collects or writes off
abbrev pub bill_by : Drawn → Act → ℕ
bill_by drawn (Bill b) = drawn.number
bill_by drawn (Collect c) = c.bill
bill_by drawn (WriteOff w) = w.bill
bill_by drawn _ = 0

-- the accounts of sources are 400001 to 409999
abbrev pub is_revenue : Post → Bool
is_revenue p = nat_lt 400000 p.account && nat_lt p.account 410000

-- a post on a source's account is revenue of its year, where it is a credit
abbrev pub received_row : ℕ → ℕ → Post → LedgerRow
received_row place bill p = record {
  of = origin place bill 0;
  fund = p.fund;
  dept = 0;
  object = 0;
  line = None;
  source = Some (p.account - 400000);
  year = p.year;
  by = record nothing { received = pos 0 -ℤ p.amount };
}

abbrev pub post_rows : ℕ → ℕ → Post → List LedgerRow
post_rows place bill p = if is_revenue p then received_row place bill p ∷ [] else []

abbrev pub received_rows : ℕ → ℕ → List Post → List LedgerRow
received_rows place bill posts = flat_map (post_rows place bill) posts

-- ---- each entry

-- what an entry at a place moves of control lines and, by its posts on the fund basis, of revenue
-- sources
abbrev pub entry_rows : Plan → Registers → ℕ → Entry → List Post → List LedgerRow
entry_rows plan s place e fund =
    kept (act_rows plan s place e.drawn e.change.on e.change.act)
    ++ kept (received_rows place (bill_by e.drawn e.change.act) fund)
