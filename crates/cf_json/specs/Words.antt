-- The words of calls and of their fields.
use Rattle.std.specs.Prelude.{ℕ, List, [], ◌∷◌, map, codes, Option, option_and_then}
use Rattle.std.specs.Borrow.{Bor}
use Rattle.serde_json.specs.Data.{Data}
use Rattle.serde_json.specs.Find.{as_str}
use Rattle.cf_base.specs.declared.statement.Kind.{Kind}
use Rattle.cf_base.specs.Common.{statement_of}
use Rattle.cf_calls.specs.declared.read.Basis.{Basis}
use Rattle.cf_calls.specs.declared.read.Basis.TheVariants as basis
use Rattle.cf_calls.specs.declared.acts.FundMoveKind.{FundMoveKind}
use Rattle.cf_calls.specs.declared.acts.FundMoveKind.TheVariants as move
use Rattle.cf_json.specs.declared.words.AssetWord.{AssetWord}
use Rattle.cf_json.specs.declared.words.AssetWord.TheVariants as asset
use Rattle.cf_json.specs.declared.words.LeaveWord.{LeaveWord}
use Rattle.cf_json.specs.declared.words.LeaveWord.TheVariants as leave
use Rattle.cf_json.specs.declared.words.PeriodWord.{PeriodWord}
use Rattle.cf_json.specs.declared.words.PeriodWord.TheVariants as period
use Rattle.cf_calls.specs.declared.kind.ActKind.{ActKind}
use Rattle.cf_calls.specs.Common.{kind_named}
use Rattle.cf_json.specs.declared.words.LookWord.{LookWord}
use Rattle.cf_json.specs.declared.words.LookWord.TheVariants as look

-- the words of a table that borrows them
abbrev pub plain_words : {A : Type 0} → List (Bor (List ℕ) × A) → List (List ℕ × A)
plain_words words = map (λ w. ((w.0).now, w.1)) words

-- the changing call of a word
abbrev pub as_change : Data → Option ActKind
as_change d = option_and_then kind_named (as_str d)

-- the statement of a word
abbrev pub as_statement : Data → Option Kind
as_statement d = option_and_then statement_of (as_str d)

-- the words of the looks
abbrev pub look_words : List (List ℕ × LookWord)
look_words =
    (codes "line", look.Line) ∷ (codes "requisition", look.Requisition)
    ∷ (codes "order", look.Order) ∷ (codes "voucher", look.Voucher) ∷ (codes "bill", look.Bill)
    ∷ (codes "asset", look.Asset) ∷ (codes "bond", look.Bond) ∷ (codes "leave", look.Leave)
    ∷ (codes "account", look.Account) ∷ (codes "reconcile", look.Reconcile)
    ∷ (codes "report", look.Report) ∷ []

-- what is done with an asset
abbrev pub asset_words : List (List ℕ × AssetWord)
asset_words = (codes "donate", asset.Donate) ∷ (codes "dispose", asset.Dispose) ∷ []

-- what is done with leave
abbrev pub leave_words : List (List ℕ × LeaveWord)
leave_words = (codes "earn", leave.Earn) ∷ (codes "use", leave.Use) ∷ (codes "mature", leave.Mature)
    ∷ []

-- how cash moves between funds
abbrev pub move_words : List (List ℕ × FundMoveKind)
move_words = (codes "transfer", move.Transfer) ∷ (codes "loan", move.Loan)
    ∷ (codes "repay", move.Repay) ∷ []

-- what is closed
abbrev pub period_words : List (List ℕ × PeriodWord)
period_words = (codes "month", period.Month) ∷ (codes "year", period.Year) ∷ []

-- the bases of accounting
abbrev pub basis_words : List (List ℕ × Basis)
basis_words = (codes "fund", basis.Fund) ∷ (codes "gov", basis.Gov) ∷ []
