-- Each number stands once among the documents.
use Rattle.std.proofs.Common.{◌≡◌, ◌∙◌, ◌+◌, ℕ, Bool, true, false, if◌then◌else◌, List, [], ◌∷◌, ◌++◌, Option, map, refl, ap, ap₂}
use Rattle.cf_base.proofs.Common.{map-append}
use Rattle.cf_model.specs.Common.{Act, AssetAct, Donate, Dispose, FundMove, FundMoveKind, Entry, AccountItem, VoucherItem, Shown, is_capital, Registers, registers_of}
use Rattle.cf_calls.specs.declared.acts.Act.TheVariants as act
use Rattle.cf_calls.specs.declared.acts.FundMoveKind.TheVariants as move
use Rattle.cf_chart.specs.Common.{Plan, object_at}
use Rattle.cf_books_documents.specs.Accounts as accounts
use Rattle.cf_books_documents.specs.Documents.{asset, bought, documents_by, gift, items_from, loan}
use Rattle.cf_books_documents.specs.Once.{EachOnce, Number, assets_drawn, documents_from, drawn_by, drawn_from, gift_drawn, items_drawn, loan_drawn, number_of}
use Rattle.cf_books_documents.specs.declared.facts.Facts.{Facts}
use Rattle.cf_books_words.specs.declared.words.DocumentKind.{DocumentKind}
use Rattle.cf_books_words.specs.declared.words.DocumentKind.TheVariants as kind

of_items : (e : Entry) (vendor first : ℕ) (shown : Option Shown) (nth : ℕ) (items : List AccountItem)
    → map number_of (items_from e vendor first shown nth items) ≡ items_drawn e.drawn.number nth items
of_items e vendor first shown nth [] = refl
of_items e vendor first shown nth (a ∷ items) =
    ap (λ (l : List Number). record { number = e.drawn.number; item = nth + 1 } ∷ l) (of_items e vendor first shown (nth + 1) items)

if_bought : (test : Bool) (f : Facts) (n : Number) (more less : List Facts) (more' less' : List Number) → number_of f ≡ n → map number_of more ≡ more' → map number_of less ≡ less'
    → map number_of (if test then f ∷ more else less) ≡ (if test then n ∷ more' else less')
if_bought true f n more less more' less' is all rest = ap₂ (λ (x : Number) (l : List Number). x ∷ l) is all
if_bought false f n more less more' less' is all rest = rest

of_bought : (plan : Plan) (s : Registers) (year vendor number : ℕ) (items : List VoucherItem) → map number_of (bought plan s year vendor number items) ≡ assets_drawn plan number items
of_bought plan s year vendor number [] = refl
of_bought plan s year vendor number (i ∷ items) =
    if_bought (is_capital (object_at plan i.account.object)) (asset plan s number year (accounts.alone i.account) i.account.amount vendor) _
    (bought plan s year vendor (number + 1) items) (bought plan s year vendor number items) (assets_drawn plan (number + 1) items) (assets_drawn plan number items)
    refl (of_bought plan s year vendor (number + 1) items) (of_bought plan s year vendor number items)

of_gift : (plan : Plan) (s : Registers) (e : Entry) (a : AssetAct) → map number_of (gift plan s e a) ≡ gift_drawn e.drawn.number a
of_gift plan s e (Donate d) = refl
of_gift plan s e (Dispose d) = refl

of_loan : (s : Registers) (place year : ℕ) (m : FundMove) (what : FundMoveKind) → map number_of (loan s place year m what) ≡ loan_drawn place what
of_loan s place year m move.Loan = refl
of_loan s place year m move.Transfer = refl
of_loan s place year m move.Repay = refl

of_entry : (plan : Plan) (s : Registers) (kind : DocumentKind) (place : ℕ) (e : Entry) (act : Act) → map number_of (documents_by plan s kind place e act) ≡ drawn_by plan kind place e.drawn act
of_entry plan s kind.Requisition place e (act.Requisition r) = refl
of_entry plan s kind.Order place e (act.Order o) = of_items e o.vendor _ _ 0 o.items
of_entry plan s kind.Voucher place e (act.Voucher v) = refl
of_entry plan s kind.Bill place e (act.Bill l) = refl
of_entry plan s kind.Asset place e (act.Voucher v) = of_bought plan s _ v.vendor e.drawn.second v.items
of_entry plan s kind.Asset place e (act.Asset a) = of_gift plan s e a
of_entry plan s kind.Asset place e (act.Lease l) = refl
of_entry plan s kind.Bond place e (act.Issue i) = refl
of_entry plan s kind.Lease place e (act.Lease l) = refl
of_entry plan s kind.Loan place e (act.Interfund m) = of_loan s place _ m m.what
of_entry plan s kind place e act = refl

of_entries : (plan : Plan) (s : Registers) (kind : DocumentKind) (place : ℕ) (entries : List Entry) → map number_of (documents_from plan s kind place entries) ≡ drawn_from plan kind place entries
of_entries plan s kind place [] = refl
of_entries plan s kind place (e ∷ later) =
    map-append number_of (documents_by plan s kind place e e.change.act) (documents_from plan s kind (place + 1) later)
    ∙ ap₂ (λ (x y : List Number). x ++ y) (of_entry plan s kind place e e.change.act) (of_entries plan s kind (place + 1) later)

pub each_once : (plan : Plan) (history : List Entry) → EachOnce plan history
each_once plan history kind = of_entries plan (registers_of plan history) kind 1 history
