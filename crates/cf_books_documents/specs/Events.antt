-- What each entry of a history does to documents: one list of all that entries do, in the order of
-- the entries.
use Rattle.std.specs.Prelude.{ℕ, ◌+◌, ◌==◌, ◌&&◌, Bool, true, false, if◌then◌else◌, List, [], ◌∷◌, ◌++◌, Option, Some, None, codes, flat_map, fold, map}
use Rattle.cf_calls.specs.Common.{voucher_items}
use Rattle.cf_model.specs.Common.{Act, AssetAct, Donate, Dispose, FundMove, FundMoveKind, Drawn, Entry, Charge, Direct, OnOrder, VoucherItem, is_capital}
use Rattle.cf_calls.specs.declared.acts.Act.TheVariants as act
use Rattle.cf_calls.specs.declared.acts.FundMoveKind.TheVariants as move
use Rattle.cf_chart.specs.Common.{Plan, object_at}
use Rattle.cf_books_documents.specs.declared.event.Deed.{Deed}
use Rattle.cf_books_documents.specs.declared.event.Deed.TheVariants as deed
use Rattle.cf_books_documents.specs.declared.event.Event.{Event}
use Rattle.cf_books_documents.specs.declared.event.Subject.{Subject}
use Rattle.cf_books_documents.specs.declared.event.Subject.TheVariants as subject

abbrev pub is_same : Subject → Subject → Bool
is_same subject.Requisition subject.Requisition = true
is_same subject.Order subject.Order = true
is_same subject.Voucher subject.Voucher = true
is_same subject.Bill subject.Bill = true
is_same subject.Asset subject.Asset = true
is_same subject.Debt subject.Debt = true
is_same subject.Loan subject.Loan = true
is_same _ _ = false

abbrev pub deed_word : Deed → List ℕ
deed_word deed.Entered = codes "entered"
deed_word deed.Changed = codes "changed"
deed_word deed.Ordered = codes "ordered"
deed_word deed.Charged = codes "charged"
deed_word deed.Reopened = codes "reopened"
deed_word deed.Withdrawn = codes "withdrawn"
deed_word deed.Cancelled = codes "cancelled"
deed_word deed.Lapsed = codes "lapsed"
deed_word deed.Carried = codes "carried"
deed_word deed.Voided = codes "voided"
deed_word deed.Paid = codes "paid"
deed_word deed.Collected = codes "collected"
deed_word deed.WrittenOff = codes "written off"
deed_word deed.Disposed = codes "disposed"
deed_word deed.Repaid = codes "repaid"

abbrev pub is_payment : Deed → Bool
is_payment deed.Paid = true
is_payment deed.Collected = true
is_payment deed.Repaid = true
is_payment _ = false

-- ---- what an entry at a place does

-- of a whole document
abbrev pub whole : Subject → ℕ → Deed → ℕ → Event
whole subject number deed place =
    record { subject = subject; number = number; item = 0; deed = deed; place = place }

-- of an item of an order
abbrev pub of_item : ℕ → ℕ → Deed → ℕ → Event
of_item order item deed place =
    record { subject = subject.Order; number = order; item = item; deed = deed; place = place }

-- the requisition that an order names
abbrev pub ordered : ℕ → Option ℕ → List Event
ordered place None = []
ordered place (Some n) = whole subject.Requisition n deed.Ordered place ∷ []

-- the order item that a voucher's item is charged against
abbrev pub charged_by : Deed → ℕ → Charge → List Event
charged_by deed place Direct = []
charged_by deed place (OnOrder item order how) = of_item order item deed place ∷ []

abbrev pub charged : Deed → ℕ → List VoucherItem → List Event
charged deed place items = flat_map (λ i. charged_by deed place i.charge) items

-- the assets that a voucher's items buy, by rising number
abbrev pub bought : Plan → Deed → ℕ → ℕ → List VoucherItem → List Event
bought plan deed place number [] = []
bought plan deed place number (i ∷ items) =
    if is_capital (object_at plan i.account.object)
    then whole subject.Asset number deed place ∷ bought plan deed place (number + 1) items
    else bought plan deed place number items

-- the voucher of a number: the last entry that draws it
abbrev pub is_voucher : Act → Bool
is_voucher (act.Voucher v) = true
is_voucher _ = false

abbrev pub voucher_after : ℕ → Option Entry → Entry → Option Entry
voucher_after number before e = if is_voucher e.change.act && (e.drawn.number == number) then Some e
    else before

abbrev pub voucher_in : List Entry → ℕ → Option Entry
voucher_in history number = fold (voucher_after number) None history

-- what a void undoes: the charges of the voucher, and the assets that it bought
abbrev pub undone : Plan → ℕ → Option Entry → List Event
undone plan place None = []
undone plan place (Some e) =
    charged deed.Reopened place (voucher_items e.change.act)
    ++ bought plan deed.Voided place e.drawn.second (voucher_items e.change.act)

abbrev pub of_asset : ℕ → ℕ → AssetAct → List Event
of_asset place number (Donate d) = whole subject.Asset number deed.Entered place ∷ []
of_asset place number (Dispose d) = whole subject.Asset d.asset deed.Disposed place ∷ []

-- the place of the last loan of one fund to another, 0 where there is none
abbrev pub none_lent : ℕ → ℕ → ℕ
none_lent from to = 0

abbrev pub lent_by : FundMoveKind → FundMove → ℕ → (ℕ → ℕ → ℕ) → ℕ → ℕ → ℕ
lent_by move.Loan m place lent from to = if (m.from == from) && (m.to == to) then place
    else lent from to
lent_by _ m place lent from to = lent from to

abbrev pub lent_after : Act → ℕ → (ℕ → ℕ → ℕ) → ℕ → ℕ → ℕ
lent_after (act.Interfund m) place lent from to = lent_by m.what m place lent from to
lent_after _ place lent from to = lent from to

-- a repayment, which names two funds alone, stands at the last loan between them before it
abbrev pub repaid : ℕ → ℕ → List Event
repaid place loan = if loan == 0 then [] else whole subject.Loan loan deed.Repaid place ∷ []

abbrev pub of_cash : ℕ → (ℕ → ℕ → ℕ) → FundMove → FundMoveKind → List Event
of_cash place lent m move.Loan = whole subject.Loan place deed.Entered place ∷ []
of_cash place lent m move.Repay = repaid place (lent m.to m.from)
of_cash place lent m move.Transfer = []

-- what an act does that stands at a place and drew these numbers, by the vouchers of the history
-- and the loans before it
abbrev pub events_by : Plan → (ℕ → Option Entry) → (ℕ → ℕ → ℕ) → ℕ → Drawn → Act → List Event
events_by plan vouchers lent place drawn (act.Requisition r) =
    whole subject.Requisition drawn.number deed.Entered place ∷ []
events_by plan vouchers lent place drawn (act.Withdraw n) =
    whole subject.Requisition n deed.Withdrawn place ∷ []
events_by plan vouchers lent place drawn (act.Order o) =
    whole subject.Order drawn.number deed.Entered place ∷ ordered place o.requisition
events_by plan vouchers lent place drawn (act.ChangeOrder c) =
    of_item c.order c.item deed.Changed place ∷ []
events_by plan vouchers lent place drawn (act.CancelOrder n) =
    whole subject.Order n deed.Cancelled place ∷ []
events_by plan vouchers lent place drawn (act.Voucher v) =
    whole subject.Voucher drawn.number deed.Entered place
    ∷ (charged deed.Charged place v.items ++ bought plan deed.Entered place drawn.second v.items)
events_by plan vouchers lent place drawn (act.VoidVoucher n) =
    whole subject.Voucher n deed.Voided place ∷ undone plan place (vouchers n)
events_by plan vouchers lent place drawn (act.Pay p) =
    map (λ n. whole subject.Voucher n deed.Paid place) p.vouchers
events_by plan vouchers lent place drawn (act.Bill l) =
    whole subject.Bill drawn.number deed.Entered place ∷ []
events_by plan vouchers lent place drawn (act.Collect c) =
    whole subject.Bill c.bill deed.Collected place ∷ []
events_by plan vouchers lent place drawn (act.WriteOff w) =
    whole subject.Bill w.bill deed.WrittenOff place ∷ []
events_by plan vouchers lent place drawn (act.Asset a) = of_asset place drawn.number a
events_by plan vouchers lent place drawn (act.Issue i) =
    whole subject.Debt drawn.number deed.Entered place ∷ []
events_by plan vouchers lent place drawn (act.PayDue p) =
    whole subject.Debt p.bond deed.Paid place ∷ []
events_by plan vouchers lent place drawn (act.Lease l) =
    whole subject.Asset drawn.number deed.Entered place
    ∷ whole subject.Debt drawn.second deed.Entered place ∷ []
events_by plan vouchers lent place drawn (act.Interfund m) = of_cash place lent m m.what
events_by plan vouchers lent place drawn _ = []

-- what these entries do, the first of which stands at a place behind these loans
abbrev pub events_from : Plan → (ℕ → Option Entry) → (ℕ → ℕ → ℕ) → ℕ → List Entry → List Event
events_from plan vouchers lent place [] = []
events_from plan vouchers lent place (e ∷ later) =
    events_by plan vouchers lent place e.drawn e.change.act
    ++ events_from plan vouchers (lent_after e.change.act place lent) (place + 1) later

-- what the entries of a history do
abbrev pub events_of : Plan → List Entry → List Event
events_of plan history = events_from plan (voucher_in history) none_lent 1 history
