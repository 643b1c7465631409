-- That each number which entries drew stands exactly once among the documents.
use Rattle.std.specs.Prelude.{◌≡◌, ℕ, ◌+◌, if◌then◌else◌, List, [], ◌∷◌, ◌++◌, map}
use Rattle.cf_model.specs.Common.{Act, AssetAct, Donate, Dispose, FundMoveKind, Drawn, Entry, AccountItem, VoucherItem, is_capital, Registers, registers_of}
use Rattle.cf_calls.specs.declared.acts.Act.TheVariants as act
use Rattle.cf_calls.specs.declared.acts.FundMoveKind.TheVariants as move
use Rattle.cf_chart.specs.Common.{Plan, object_at}
use Rattle.cf_books_documents.specs.Documents.{documents_by}
use Rattle.cf_books_documents.specs.declared.facts.Facts.{Facts}
use Rattle.cf_books_words.specs.declared.words.DocumentKind.{DocumentKind}
use Rattle.cf_books_words.specs.declared.words.DocumentKind.TheVariants as kind

-- a number of a kind, with the item of an order, or 0
pub record Number : Type 0 where
  pub number : ℕ
  pub item : ℕ

abbrev pub alone : ℕ → List Number
alone n = record { number = n; item = 0 } ∷ []

-- each item of an order, from a place from 0 on
abbrev pub items_drawn : ℕ → ℕ → List AccountItem → List Number
items_drawn order nth [] = []
items_drawn order nth (a ∷ items) =
    record { number = order; item = nth + 1 } ∷ items_drawn order (nth + 1) items

-- a number for each item on a capital object
abbrev pub assets_drawn : Plan → ℕ → List VoucherItem → List Number
assets_drawn plan number [] = []
assets_drawn plan number (i ∷ items) =
    if is_capital (object_at plan i.account.object)
    then record { number = number; item = 0 } ∷ assets_drawn plan (number + 1) items
    else assets_drawn plan number items

abbrev pub gift_drawn : ℕ → AssetAct → List Number
gift_drawn number (Donate d) = alone number
gift_drawn number (Dispose d) = []

abbrev pub loan_drawn : ℕ → FundMoveKind → List Number
loan_drawn place move.Loan = alone place
loan_drawn place _ = []

-- the numbers of a kind that an act drew at a place; a loan has its place
abbrev pub drawn_by : Plan → DocumentKind → ℕ → Drawn → Act → List Number
drawn_by plan kind.Requisition place drawn (act.Requisition r) = alone drawn.number
drawn_by plan kind.Order place drawn (act.Order o) = items_drawn drawn.number 0 o.items
drawn_by plan kind.Voucher place drawn (act.Voucher v) = alone drawn.number
drawn_by plan kind.Bill place drawn (act.Bill l) = alone drawn.number
drawn_by plan kind.Asset place drawn (act.Voucher v) = assets_drawn plan drawn.second v.items
drawn_by plan kind.Asset place drawn (act.Asset a) = gift_drawn drawn.number a
drawn_by plan kind.Asset place drawn (act.Lease l) = alone drawn.number
drawn_by plan kind.Bond place drawn (act.Issue i) = alone drawn.number
drawn_by plan kind.Lease place drawn (act.Lease l) = alone drawn.second
drawn_by plan kind.Loan place drawn (act.Interfund m) = loan_drawn place m.what
drawn_by plan kind place drawn act = []

abbrev pub drawn_from : Plan → DocumentKind → ℕ → List Entry → List Number
drawn_from plan kind place [] = []
drawn_from plan kind place (e ∷ later) =
    drawn_by plan kind place e.drawn e.change.act ++ drawn_from plan kind (place + 1) later

-- the documents of a kind, which are the rows where each is wanted
abbrev pub documents_from : Plan → Registers → DocumentKind → ℕ → List Entry → List Facts
documents_from plan s kind place [] = []
documents_from plan s kind place (e ∷ later) =
    documents_by plan s kind place e e.change.act ++ documents_from plan s kind (place + 1) later

abbrev pub number_of : Facts → Number
number_of f = record { number = f.number; item = f.item }

-- the documents of each kind have the numbers that entries drew, each once and in their order
abbrev pub EachOnce : Plan → List Entry → Type 0
EachOnce plan history = (kind : DocumentKind)
    → map number_of (documents_from plan (registers_of plan history) kind 1 history)
    ≡ drawn_from plan kind 1 history
