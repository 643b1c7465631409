-- The documents that entries entered, as they stand: by what looks at them show in the registers of
-- the whole history.
use Rattle.std.specs.Prelude.{ℕ, ◌+◌, nat_lt, if◌then◌else◌, List, [], ◌∷◌, Option, Some, None, sum_by, pos}
use Rattle.cf_model.specs.Common.{Act, AssetAct, Donate, Dispose, BondIssue, FundMove, FundMoveKind, NewBill, NewLease, NewOrder, NewRequisition, NewVoucher, Entry, AccountItem, VoucherItem, Shown, document_year, fund_of, is_capital, owed, Registers}
use Rattle.cf_calls.specs.declared.acts.Act.TheVariants as act
use Rattle.cf_calls.specs.declared.acts.FundMoveKind.TheVariants as move
use Rattle.cf_calls.specs.declared.read.Read.TheVariants as read
use Rattle.cf_chart.specs.Common.{Plan, object_at}
use Rattle.cf_registers.specs.RegistersState.{register_shown}
use Rattle.cf_books_documents.specs.Accounts.{alone, common, of_fund}
use Rattle.cf_books_documents.specs.Standing.{asset_now, bill_now, debt_now, item_now, item_shown, loan_now, requisition_now, unseen, voucher_now}
use Rattle.cf_books_documents.specs.declared.facts.Account.{Account}
use Rattle.cf_books_documents.specs.declared.facts.Facts.{Facts}
use Rattle.cf_books_documents.specs.declared.standing.Standing.{Standing}
use Rattle.cf_books_words.specs.declared.words.DocumentKind.{DocumentKind}
use Rattle.cf_books_words.specs.declared.words.DocumentKind.TheVariants as kind

-- a document of a number that stands so
abbrev pub facts_of : DocumentKind → ℕ → ℕ → Account → Option ℕ → Standing → Facts
facts_of kind number party account source now = record {
  kind = kind;
  number = number;
  item = 0;
  party = party;
  account = account;
  source = source;
  first = None;
  year = now.year;
  amount = now.amount;
  left = now.left;
  state = now.state;
}

abbrev pub year_of : Plan → Entry → ℕ
year_of plan e = document_year plan e.change.on e.change.act

abbrev pub requisition : Plan → Registers → Entry → NewRequisition → Facts
requisition plan s e r =
    facts_of kind.Requisition e.drawn.number 0 (common (λ i. i) r.items) None
    (requisition_now (register_shown plan s (read.Requisition e.drawn.number))
    (pos (sum_by (λ i. i.amount) r.items)))

-- an order's item at a place, from 0
abbrev pub item_with : Entry → ℕ → ℕ → ℕ → AccountItem → Standing → Facts
item_with e vendor first nth a now = record {
  kind = kind.Order;
  number = e.drawn.number;
  item = nth + 1;
  party = vendor;
  account = alone a;
  source = None;
  first = Some first;
  year = now.year;
  amount = now.amount;
  left = now.left;
  state = now.state;
}

abbrev pub item_of : Entry → ℕ → ℕ → ℕ → AccountItem → Option Shown → Facts
item_of e vendor first nth a shown =
    item_with e vendor first nth a (item_now (item_shown shown nth) a.amount)

abbrev pub items_from : Entry → ℕ → ℕ → Option Shown → ℕ → List AccountItem → List Facts
items_from e vendor first shown nth [] = []
items_from e vendor first shown nth (a ∷ items) =
    item_of e vendor first nth a shown ∷ items_from e vendor first shown (nth + 1) items

abbrev pub order : Plan → Registers → Entry → NewOrder → List Facts
order plan s e o = items_from e o.vendor (year_of plan e)
    (register_shown plan s (read.Order e.drawn.number)) 0 o.items

abbrev pub voucher : Plan → Registers → Entry → NewVoucher → Facts
voucher plan s e v =
    facts_of kind.Voucher e.drawn.number v.vendor (common (λ i. i.account) v.items) None
    (voucher_now (register_shown plan s (read.Voucher e.drawn.number)))

abbrev pub bill : Plan → Registers → Entry → NewBill → Facts
bill plan s e l =
    facts_of kind.Bill e.drawn.number l.payer (of_fund (fund_of plan l.source)) (Some l.source)
    (bill_now (register_shown plan s (read.Bill e.drawn.number)) l.amount)

-- an asset of a fiscal year and an amount (no number that a look can name is 2^32 or above)
abbrev pub asset_standing : Plan → Registers → ℕ → ℕ → ℕ → Standing
asset_standing plan s number year amount = if nat_lt number 4294967296
    then asset_now (register_shown plan s (read.Asset number)) year amount else unseen (pos amount)

abbrev pub asset : Plan → Registers → ℕ → ℕ → Account → ℕ → ℕ → Facts
asset plan s number year account amount party =
    facts_of kind.Asset number party account None (asset_standing plan s number year amount)

-- the assets that a voucher's items buy, by rising number
abbrev pub bought : Plan → Registers → ℕ → ℕ → ℕ → List VoucherItem → List Facts
bought plan s year vendor number [] = []
bought plan s year vendor number (i ∷ items) =
    if is_capital (object_at plan i.account.object)
    then asset plan s number year (alone i.account) i.account.amount vendor
    ∷ bought plan s year vendor (number + 1) items
    else bought plan s year vendor number items

-- a gift
abbrev pub gift : Plan → Registers → Entry → AssetAct → List Facts
gift plan s e (Donate d) =
    asset plan s e.drawn.number (year_of plan e)
    (record { fund = None; dept = Some d.dept; object = Some d.object }) d.amount 0 ∷ []
gift plan s e (Dispose d) = []

-- a bond or a lease
abbrev pub debt : Plan → Registers → DocumentKind → ℕ → ℕ → Account → ℕ → ℕ → Facts
debt plan s kind number year account amount party =
    facts_of kind number party account None
    (debt_now (register_shown plan s (read.Bond number)) year amount)

abbrev pub leased : Plan → Registers → ℕ → ℕ → NewLease → Facts
leased plan s number year l = asset plan s number year (alone l.account) l.account.amount l.vendor

abbrev pub bond : Plan → Registers → ℕ → ℕ → BondIssue → Facts
bond plan s number year i = debt plan s kind.Bond number year (of_fund i.fund) i.amount 0

abbrev pub lease : Plan → Registers → ℕ → ℕ → NewLease → Facts
lease plan s number year l =
    debt plan s kind.Lease number year (alone l.account) l.account.amount l.vendor

-- a loan, whose number is the place of its entry: the party is the fund that borrows
abbrev pub loan : Registers → ℕ → ℕ → FundMove → FundMoveKind → List Facts
loan s place year m move.Loan =
    facts_of kind.Loan place m.to (of_fund m.from) None
    (loan_now year m.amount (owed s.receivables m.to m.from)) ∷ []
loan s place year m _ = []

-- what an act entered of a kind that stands at a place
abbrev pub documents_by : Plan → Registers → DocumentKind → ℕ → Entry → Act → List Facts
documents_by plan s kind.Requisition place e (act.Requisition r) = requisition plan s e r ∷ []
documents_by plan s kind.Order place e (act.Order o) = order plan s e o
documents_by plan s kind.Voucher place e (act.Voucher v) = voucher plan s e v ∷ []
documents_by plan s kind.Bill place e (act.Bill l) = bill plan s e l ∷ []
documents_by plan s kind.Asset place e (act.Voucher v) =
    bought plan s (year_of plan e) v.vendor e.drawn.second v.items
documents_by plan s kind.Asset place e (act.Asset a) = gift plan s e a
documents_by plan s kind.Asset place e (act.Lease l) =
    leased plan s e.drawn.number (year_of plan e) l ∷ []
documents_by plan s kind.Bond place e (act.Issue i) =
    bond plan s e.drawn.number (year_of plan e) i ∷ []
documents_by plan s kind.Lease place e (act.Lease l) =
    lease plan s e.drawn.second (year_of plan e) l ∷ []
documents_by plan s kind.Loan place e (act.Interfund m) = loan s place (year_of plan e) m m.what
documents_by plan s kind place e act = []
