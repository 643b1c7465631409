-- What `open` lists, as parts of rows, and what those of bills, vouchers and order items come to.
use Rattle.std.specs.Prelude.{◌≡◌, ℕ, ◌+◌, Bool, false, ◌==◌, ◌&&◌, if◌then◌else◌, List, [], ◌∷◌, ◌++◌, Option, Some, None, flat_map, ℤ, pos, ◌-ℤ◌}
use Rattle.std.specs.List.{filter, AllByRecursion}
use Rattle.cf_model.specs.Common.{Day, Entry, LineAmount, Read, ItemState, OrderItemShown, RequisitionState, Shown, VoucherState, fund_of, Expenditure, is_number, encumbered, posts_in, bill_at, Registers, registers_of, int_sum}
use Rattle.cf_calls.specs.declared.read.Basis.TheVariants.{Fund as FundBasis}
use Rattle.cf_calls.specs.declared.shown.ItemState.TheVariants as item
use Rattle.cf_calls.specs.declared.shown.RequisitionState.TheVariants as requisition
use Rattle.cf_calls.specs.declared.shown.Shown.TheVariants as shown
use Rattle.cf_calls.specs.declared.shown.VoucherState.TheVariants as voucher
use Rattle.cf_chart.specs.Common.{Plan}
use Rattle.cf_debt.specs.declared.debt.Due.{Due}
use Rattle.cf_ledger.specs.Posts.{is_of, sum_where}
use Rattle.cf_model.specs.Receivables.{Bill}
use Rattle.cf_registers.specs.RegistersState.{register_shown}
use Rattle.cf_books_lists.specs.declared.open.Part.{Part}
use Rattle.cf_books_lists.specs.declared.open.Section.{Section}
use Rattle.cf_books_lists.specs.declared.open.Section.TheVariants.{Orders, Bills, Vouchers}
use Rattle.cf_books_lists.specs.Open.{due_at, look_of, part_text, section_text, whole_part}

-- ---- the parts that are open of what a look shows: a row is printed for each

-- the items of a requisition, from this place on
abbrev pub held_parts : ℕ → ℕ → List LineAmount → List Part
held_parts year place [] = []
held_parts year place (i ∷ items) =
    record {
      item = place;
      line = Some i.line;
      year = Some year;
      amount = i.amount;
      next = None;
      due = None;
    }
    ∷ held_parts year (place + 1) items

abbrev pub requisition_parts : List LineAmount → ℕ → RequisitionState → List Part
requisition_parts items year requisition.Open = held_parts year 1 items
requisition_parts items year _ = []

-- an item of an order, where it is live
abbrev pub item_parts : ℕ → OrderItemShown → ItemState → List Part
item_parts place i item.Live =
    record {
      item = place;
      line = Some i.line;
      year = Some i.year;
      amount = i.open_cents;
      next = None;
      due = None;
    } ∷ []
item_parts place i _ = []

abbrev pub order_parts : ℕ → List OrderItemShown → List Part
order_parts place [] = []
order_parts place (i ∷ items) = item_parts place i i.state ++ order_parts (place + 1) items

abbrev pub voucher_parts : ℕ → ℕ → VoucherState → List Part
voucher_parts amount year voucher.Open = whole_part (Some year) amount None None ∷ []
voucher_parts amount year _ = []

abbrev pub bill_parts : ℕ → ℕ → List Part
bill_parts left year = if left == 0 then [] else whole_part (Some year) left None None ∷ []

abbrev pub debt_parts : Option Due → ℕ → Option Day → List Part
debt_parts due outstanding None = []
debt_parts due outstanding (Some next) = whole_part None outstanding (Some next) due ∷ []

abbrev pub parts_shown : Option Due → Option Shown → List Part
parts_shown due (Some (shown.Requisition items state year)) = requisition_parts items year state
parts_shown due (Some (shown.Order items vendor)) = order_parts 1 items
parts_shown due (Some (shown.Voucher amount state year)) = voucher_parts amount year state
parts_shown due (Some (shown.Bill left year source)) = bill_parts left year
parts_shown due (Some (shown.Bond accrued next outstanding)) = debt_parts due outstanding next
parts_shown due _ = []

abbrev pub parts_looked : Plan → Registers → Option Read → List Part
parts_looked plan s None = []
parts_looked plan s (Some look) = parts_shown (due_at plan s look) (register_shown plan s look)

-- the parts of what an entry entered in a section
abbrev pub parts_of : Plan → Registers → Section → Entry → List Part
parts_of plan s section e = parts_looked plan s (look_of section e)

-- the rows of a section, as text ..
abbrev pub rows_text : Bool → Plan → Registers → Section → List Entry → List ℕ
rows_text csv plan s section entries =
    flat_map (λ e. flat_map (part_text csv plan e) (parts_of plan s section e)) entries

-- .. and what they come to, where each counts for so much
abbrev pub rows_sum : Plan → Registers → Section → (Entry → Part → ℤ) → List Entry → ℤ
rows_sum plan s section counted entries =
    int_sum (λ e. int_sum (counted e) (parts_of plan s section e)) entries

-- ---- what a row counts for

-- whether a bill's source is of the fund
abbrev pub bill_is_of : Plan → ℕ → Option Bill → Bool
bill_is_of plan fund None = false
bill_is_of plan fund (Some b) = fund_of plan b.source == fund

-- the row of a bill, for its amount in the fund of the bill's source
abbrev pub of_bill : Plan → Registers → ℕ → Entry → Part → ℤ
of_bill plan s fund e p = if bill_is_of plan fund (bill_at e.drawn.number s.receivables.bills)
    then pos p.amount else pos 0

-- the items of the voucher that an entry entered
abbrev pub voucher_rows : Registers → Entry → List Expenditure
voucher_rows s e = filter (λ x. x.voucher == e.drawn.number) s.documents.expenditures

-- the row of a voucher, for its items on accounts of the fund
abbrev pub of_voucher : Registers → ℕ → Entry → Part → ℤ
of_voucher s fund e p =
    int_sum (λ x. if x.account.fund == fund then pos x.account.amount else pos 0) (voucher_rows s e)

-- the amount of a voucher's row is that of all its items
abbrev pub IsVoucherRow : Registers → Entry → Part → Type 0
IsVoucherRow s e p = pos p.amount ≡ int_sum (λ x. pos x.account.amount) (voucher_rows s e)

-- the row of an order's item, for its amount on its line and in its year
abbrev pub on_line : ℕ → ℕ → Entry → Part → ℤ
on_line line year e p = if is_number p.year year && is_number p.line line then pos p.amount
    else pos 0

-- ---- the law

pub record OpenAddsUp (plan : Plan) (history : List Entry) : Type 0 where
  -- the text of each section is a row for each part
  pub rows : (csv : Bool) (section : Section) →
      section_text csv plan (registers_of plan history) section history
      ≡ rows_text csv plan (registers_of plan history) section history
  -- the rows of bills come to each fund's receivables, over all years
  pub bills : (fund : ℕ) →
      rows_sum plan (registers_of plan history) Bills
      (of_bill plan (registers_of plan history) fund) history
      ≡ sum_where (is_of fund 110000) (posts_in FundBasis plan history)
  -- each row of a voucher is the sum of its items, and those of a fund come to its vouchers
  -- payable, a credit, over all years
  pub voucher_amounts : AllByRecursion
      (λ e. AllByRecursion (IsVoucherRow (registers_of plan history) e)
      (parts_of plan (registers_of plan history) Vouchers e)) history
  pub vouchers : (fund : ℕ) →
      pos 0 -ℤ rows_sum plan (registers_of plan history) Vouchers
      (of_voucher (registers_of plan history) fund) history
      ≡ sum_where (is_of fund 200000) (posts_in FundBasis plan history)
  -- the rows of order items of a line and fiscal year come to what is encumbered
  pub orders : (line year : ℕ) →
      rows_sum plan (registers_of plan history) Orders (on_line line year) history
      ≡ pos (encumbered plan line year history)
