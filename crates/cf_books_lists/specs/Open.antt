-- What is open of a history, by what looks at its documents, bills and debt show, what is due next
-- of debt, and which months and fiscal years are closed.
use Rattle.std.specs.Prelude.{ℕ, Bool, ◌+◌, ◌==◌, if◌then◌else◌, pos, List, [], ◌∷◌, ◌++◌, Option, Some, None, codes, decimal, flat_map}
use Rattle.cf_model.specs.Common.{Day, Act, Period, Entry, LineAmount, Read, ItemState, OrderItemShown, RequisitionState, Shown, VoucherState, Line, Registers, registers_of, bond_at}
use Rattle.cf_base.specs.Common.{money_of, day_text, month_text}
use Rattle.cf_json_calls.specs.CallText.{call_word}
use Rattle.cf_calls.specs.declared.acts.Act.TheVariants as act
use Rattle.cf_calls.specs.declared.acts.Period.TheVariants as period
use Rattle.cf_calls.specs.declared.read.Read.TheVariants as read
use Rattle.cf_calls.specs.declared.shown.ItemState.TheVariants as item
use Rattle.cf_calls.specs.declared.shown.RequisitionState.TheVariants as requisition
use Rattle.cf_calls.specs.declared.shown.Shown.TheVariants as shown
use Rattle.cf_calls.specs.declared.shown.VoucherState.TheVariants as voucher
use Rattle.cf_chart.specs.Common.{Plan, department_at, fund_at, line_at}
use Rattle.cf_debt.specs.declared.debt.Due.{Due}
use Rattle.cf_debt.specs.Register.{due_now}
use Rattle.cf_registers.specs.RegistersState.{register_shown}
use Rattle.cf_books_lists.specs.declared.open.Part.{Part}
use Rattle.cf_books_lists.specs.declared.open.Section.{Section}
use Rattle.cf_books_lists.specs.declared.open.Section.TheVariants.{Requisitions, Orders, Bills, Vouchers, Debts}
use Rattle.cf_books_lists.specs.Names.{department_name, fund_name}
use Rattle.cf_books_lists.specs.Records.{drawn_text, head_text, number_text, record_text}

-- ---- the fields of a row

-- the names of the columns
abbrev pub head : List (List ℕ)
head =
    codes "call" ∷ codes "number" ∷ codes "item" ∷ codes "day" ∷ codes "desk" ∷ codes "key"
    ∷ codes "party" ∷ codes "year" ∷ codes "line"
    ∷ codes "fund_name" ∷ codes "dept_name" ∷ codes "open" ∷ codes "next" ∷ codes "due"
    ∷ codes "interest" ∷ codes "closed" ∷ []

-- the vendor, or the payer
abbrev pub party_of : Act → ℕ
party_of (act.Order o) = o.vendor
party_of (act.Voucher v) = v.vendor
party_of (act.Bill l) = l.payer
party_of (act.Lease l) = l.vendor
party_of _ = 0

-- a lease is known by its bond
abbrev pub number_by : Act → Entry → ℕ
number_by (act.Lease l) e = e.drawn.second
number_by _ e = e.drawn.number

abbrev pub number_of : Entry → ℕ
number_of e = number_by e.change.act e

abbrev pub next_text : Option Day → List ℕ
next_text None = []
next_text (Some d) = day_text d

-- the principal and the interest of the payment that is due next, and the interest alone
abbrev pub due_text : Option Due → List ℕ
due_text None = []
due_text (Some d) = money_of (pos (d.principal + d.interest))

abbrev pub interest_text : Option Due → List ℕ
interest_text None = []
interest_text (Some d) = money_of (pos d.interest)

abbrev pub line_of : Plan → Option ℕ → Option Line
line_of plan None = None
line_of plan (Some n) = line_at plan n

abbrev pub line_fund : Plan → Option Line → List ℕ
line_fund plan None = []
line_fund plan (Some l) = fund_name (fund_at plan l.fund)

abbrev pub line_department : Plan → Option Line → List ℕ
line_department plan None = []
line_department plan (Some l) = department_name (department_at plan l.dept)

-- a part of what an entry entered that is open
abbrev pub part_row : Plan → Entry → Part → List (List ℕ)
part_row plan e p =
    call_word e.change.act ∷ decimal (number_of e) ∷ drawn_text p.item ∷ day_text e.change.on
    ∷ decimal e.change.desk ∷ e.change.key
    ∷ drawn_text (party_of e.change.act) ∷ number_text p.year ∷ number_text p.line
    ∷ line_fund plan (line_of plan p.line) ∷ line_department plan (line_of plan p.line)
    ∷ money_of (pos p.amount) ∷ next_text p.next ∷ due_text p.due ∷ interest_text p.due ∷ [] ∷ []

abbrev pub part_text : Bool → Plan → Entry → Part → List ℕ
part_text csv plan e p = record_text csv (part_row plan e p)

-- ---- what a look shows that is open

-- the items of a requisition, from this place on
abbrev pub held_text : Bool → Plan → Entry → ℕ → ℕ → List LineAmount → List ℕ
held_text csv plan e year place [] = []
held_text csv plan e year place (i ∷ items) =
    part_text csv plan e
    (record {
      item = place;
      line = Some i.line;
      year = Some year;
      amount = i.amount;
      next = None;
      due = None;
    }) ++ held_text csv plan e year (place + 1) items

-- an item of an order, where it is live
abbrev pub item_text : Bool → Plan → Entry → ℕ → OrderItemShown → ItemState → List ℕ
item_text csv plan e place i item.Live =
    part_text csv plan e
    (record {
      item = place;
      line = Some i.line;
      year = Some i.year;
      amount = i.open_cents;
      next = None;
      due = None;
    })
item_text csv plan e place i _ = []

abbrev pub items_text : Bool → Plan → Entry → ℕ → List OrderItemShown → List ℕ
items_text csv plan e place [] = []
items_text csv plan e place (i ∷ items) =
    item_text csv plan e place i i.state ++ items_text csv plan e (place + 1) items

-- an amount that is no item's
abbrev pub whole_part : Option ℕ → ℕ → Option Day → Option Due → Part
whole_part year amount next due =
    record { item = 0; line = None; year = year; amount = amount; next = next; due = due }

abbrev pub whole_text : Bool → Plan → Entry → Option ℕ → ℕ → Option Day → Option Due → List ℕ
whole_text csv plan e year amount next due = part_text csv plan e (whole_part year amount next due)

abbrev pub requisition_text : Bool → Plan → Entry → List LineAmount → ℕ → RequisitionState → List ℕ
requisition_text csv plan e items year requisition.Open = held_text csv plan e year 1 items
requisition_text csv plan e items year _ = []

-- a voucher that isn't paid, and not void
abbrev pub voucher_text : Bool → Plan → Entry → ℕ → ℕ → VoucherState → List ℕ
voucher_text csv plan e amount year voucher.Open =
    whole_text csv plan e (Some year) amount None None
voucher_text csv plan e amount year _ = []

-- a bill of which something is left
abbrev pub bill_text : Bool → Plan → Entry → ℕ → ℕ → List ℕ
bill_text csv plan e left year = if left == 0 then []
    else whole_text csv plan e (Some year) left None None

-- a bond or a lease with a payment to come
abbrev pub debt_text : Bool → Plan → Entry → Option Due → ℕ → Option Day → List ℕ
debt_text csv plan e due outstanding None = []
debt_text csv plan e due outstanding (Some next) =
    whole_text csv plan e None outstanding (Some next) due

abbrev pub shown_text : Bool → Plan → Entry → Option Due → Option Shown → List ℕ
shown_text csv plan e due (Some (shown.Requisition items state year)) =
    requisition_text csv plan e items year state
shown_text csv plan e due (Some (shown.Order items vendor)) = items_text csv plan e 1 items
shown_text csv plan e due (Some (shown.Voucher amount state year)) =
    voucher_text csv plan e amount year state
shown_text csv plan e due (Some (shown.Bill left year source)) = bill_text csv plan e left year
shown_text csv plan e due (Some (shown.Bond accrued next outstanding)) =
    debt_text csv plan e due outstanding next
shown_text csv plan e due _ = []

-- ---- the sections

-- the look at what an entry of a section entered
abbrev pub look_by : Section → Act → Entry → Option Read
look_by Requisitions (act.Requisition r) e = Some (read.Requisition e.drawn.number)
look_by Orders (act.Order o) e = Some (read.Order e.drawn.number)
look_by Bills (act.Bill l) e = Some (read.Bill e.drawn.number)
look_by Vouchers (act.Voucher v) e = Some (read.Voucher e.drawn.number)
look_by Debts (act.Issue i) e = Some (read.Bond e.drawn.number)
look_by Debts (act.Lease l) e = Some (read.Bond e.drawn.second)
look_by _ _ e = None

abbrev pub look_of : Section → Entry → Option Read
look_of section e = look_by section e.change.act e

-- what is due next of the bond or the lease that a look is at
abbrev pub due_at : Plan → Registers → Read → Option Due
due_at plan s (read.Bond n) = due_now plan (bond_at n s.bonds)
due_at plan s _ = None

abbrev pub looked_text : Bool → Plan → Registers → Entry → Option Read → List ℕ
looked_text csv plan s e None = []
looked_text csv plan s e (Some look) =
    shown_text csv plan e (due_at plan s look) (register_shown plan s look)

-- what these entries entered in a section that is open now, by the registers of the whole history
abbrev pub section_text : Bool → Plan → Registers → Section → List Entry → List ℕ
section_text csv plan s section entries =
    flat_map (λ e. looked_text csv plan s e (look_of section e)) entries

-- ---- closed months and fiscal years

abbrev pub period_text : Period → List ℕ
period_text (period.Month m) = month_text m
period_text (period.Year y) = decimal y

abbrev pub close_row : Entry → Period → List (List ℕ)
close_row e p =
    codes "close" ∷ [] ∷ [] ∷ day_text e.change.on ∷ decimal e.change.desk ∷ e.change.key ∷ [] ∷ []
    ∷ [] ∷ [] ∷ [] ∷ [] ∷ [] ∷ [] ∷ [] ∷ period_text p ∷ []

abbrev pub close_by : Bool → Act → Entry → List ℕ
close_by csv (act.Close p) e = record_text csv (close_row e p)
close_by csv _ e = []

abbrev pub closes_text : Bool → List Entry → List ℕ
closes_text csv entries = flat_map (λ e. close_by csv e.change.act e) entries

-- ---- all

abbrev pub open_text : Bool → Plan → List Entry → List ℕ
open_text csv plan history =
    head_text csv head
    ++ (section_text csv plan (registers_of plan history) Requisitions history
    ++ (section_text csv plan (registers_of plan history) Orders history
    ++ (section_text csv plan (registers_of plan history) Bills history
    ++ (section_text csv plan (registers_of plan history) Vouchers history
    ++ (section_text csv plan (registers_of plan history) Debts history
    ++ closes_text csv history)))))
