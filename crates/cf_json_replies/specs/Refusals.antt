-- A refusal in JSON: its number and name, and the values that it states.
use Rattle.std.specs.Prelude.{ℕ, List, [], ◌∷◌, codes}
use Rattle.serde_json.specs.Data.{Data, string}
use Rattle.cf_calls.specs.declared.role.Role.{Role}
use Rattle.cf_calls.specs.declared.role.Role.TheVariants as role
use Rattle.cf_calls.specs.declared.names.NameKind.{NameKind}
use Rattle.cf_calls.specs.declared.names.NameKind.TheVariants as name
use Rattle.cf_calls.specs.declared.names.DocumentKind.{DocumentKind}
use Rattle.cf_calls.specs.declared.names.DocumentKind.TheVariants as doc
use Rattle.cf_calls.specs.declared.refusal.DocumentState.{DocumentState}
use Rattle.cf_calls.specs.declared.refusal.DocumentState.TheVariants as state
use Rattle.cf_calls.specs.declared.refusal.AssetFault.{AssetFault}
use Rattle.cf_calls.specs.declared.refusal.AssetFault.TheVariants as asset
use Rattle.cf_calls.specs.Common.{name_of, number_of}
use Rattle.cf_calls.specs.declared.refusal.Refusal.{Refusal}
use Rattle.cf_calls.specs.declared.refusal.Refusal.TheVariants.{DeskUnknown, Ahead, KeyReused, NotThisDesk, HistoryFull, AmountRange, UnknownName, PeriodClosed, YearNotOpen, YearClosed, Adopted, NotAdopted, DocState, SameHand, NotOnOrder, OverOpen, OverReceivable, AssetState, NotDue, LeaveShort, MonthOrder, DebtDue, WindowOpen, Exceeds, CashShort}
use Rattle.cf_json_members.specs.Objects.{fields, count, cents, signed_cents, day, month}

abbrev pub role_word : Role → List ℕ
role_word role.Council = codes "council"
role_word role.Dept = codes "dept"
role_word role.Purchasing = codes "purchasing"
role_word role.Payables = codes "payables"
role_word role.Treasury = codes "treasury"
role_word role.Revenue = codes "revenue"
role_word role.Assets = codes "assets"
role_word role.Payroll = codes "payroll"
role_word role.Controller = codes "controller"

abbrev pub name_word : NameKind → List ℕ
name_word name.Fund = codes "fund"
name_word name.Dept = codes "dept"
name_word name.Object = codes "object"
name_word name.Line = codes "line"
name_word name.Source = codes "source"
name_word name.Requisition = codes "requisition"
name_word name.Order = codes "order"
name_word name.Voucher = codes "voucher"
name_word name.Bill = codes "bill"
name_word name.Asset = codes "asset"
name_word name.Bond = codes "bond"

abbrev pub document_word : DocumentKind → List ℕ
document_word doc.Requisition = codes "requisition"
document_word doc.Order = codes "order"
document_word doc.Item = codes "item"
document_word doc.Voucher = codes "voucher"
document_word doc.Bond = codes "bond"

abbrev pub state_word : DocumentState → List ℕ
state_word state.Withdrawn = codes "withdrawn"
state_word state.Ordered = codes "ordered"
state_word state.Lapsed = codes "lapsed"
state_word state.OtherYear = codes "other year"
state_word state.Ended = codes "ended"
state_word state.Finished = codes "finished"
state_word state.Cancelled = codes "cancelled"
state_word state.Paid = codes "paid"
state_word state.Void = codes "void"
state_word state.Later = codes "later"

abbrev pub fault_word : AssetFault → List ℕ
fault_word asset.Void = codes "void"
fault_word asset.Disposed = codes "disposed"
fault_word asset.Charged = codes "charged"
fault_word asset.Leased = codes "leased"
fault_word asset.Later = codes "later"

-- the fields of a refusal's number and name
abbrev pub numbered : Refusal → List ℕ × Data
numbered r = (codes "code", count (number_of r))

abbrev pub named : Refusal → List ℕ × Data
named r = (codes "name", string (name_of r))

-- the fields of a refusal, in the order of their names, with these two among them
abbrev pub fields_of : List ℕ × Data → List ℕ × Data → Refusal → List (List ℕ × Data)
fields_of code name (DeskUnknown desk) = code ∷ (codes "desk", count desk) ∷ name ∷ []
fields_of code name (Ahead after len) =
    (codes "after", count after) ∷ code ∷ (codes "length", count len) ∷ name ∷ []
fields_of code name (KeyReused was) = code ∷ name ∷ (codes "was", count was) ∷ []
fields_of code name (NotThisDesk r) = code ∷ name ∷ (codes "role", string (role_word r)) ∷ []
fields_of code name (HistoryFull limit) = code ∷ (codes "limit", count limit) ∷ name ∷ []
fields_of code name (AmountRange amount) = (codes "amount", cents amount) ∷ code ∷ name ∷ []
fields_of code name (UnknownName kind id) =
    code ∷ (codes "id", count id) ∷ (codes "kind", string (name_word kind)) ∷ name ∷ []
fields_of code name (PeriodClosed m) = code ∷ (codes "month", month m) ∷ name ∷ []
fields_of code name (YearNotOpen year) = code ∷ name ∷ (codes "year", count year) ∷ []
fields_of code name (YearClosed year) = code ∷ name ∷ (codes "year", count year) ∷ []
fields_of code name (Adopted was) = code ∷ name ∷ (codes "was", count was) ∷ []
fields_of code name (NotAdopted fund year) =
    code ∷ (codes "fund", count fund) ∷ name ∷ (codes "year", count year) ∷ []
fields_of code name (DocState kind number state) =
    code ∷ (codes "kind", string (document_word kind)) ∷ name ∷ (codes "number", count number)
    ∷ (codes "state", string (state_word state)) ∷ []
fields_of code name (SameHand desk) = code ∷ (codes "desk", count desk) ∷ name ∷ []
fields_of code name (NotOnOrder order place) =
    code ∷ (codes "item", count place) ∷ name ∷ (codes "order", count order) ∷ []
fields_of code name (OverOpen open_cents) = code ∷ name ∷ (codes "open", cents open_cents) ∷ []
fields_of code name (OverReceivable left) = code ∷ (codes "left", cents left) ∷ name ∷ []
fields_of code name (AssetState asset state) =
    (codes "asset", count asset) ∷ code ∷ name ∷ (codes "state", string (fault_word state)) ∷ []
fields_of code name (NotDue next) = code ∷ name ∷ (codes "next", day next) ∷ []
fields_of code name (LeaveShort left) = code ∷ (codes "left", cents left) ∷ name ∷ []
fields_of code name (MonthOrder next) = code ∷ name ∷ (codes "next", month next) ∷ []
fields_of code name (DebtDue bond d) =
    (codes "bond", count bond) ∷ code ∷ (codes "day", day d) ∷ name ∷ []
fields_of code name (WindowOpen m) = code ∷ (codes "month", month m) ∷ name ∷ []
fields_of code name (Exceeds line asked room) =
    (codes "asked", signed_cents asked) ∷ code ∷ (codes "line", count line) ∷ name
    ∷ (codes "room", signed_cents room) ∷ []
fields_of code name (CashShort fund cash asked) =
    (codes "asked", signed_cents asked) ∷ (codes "cash", signed_cents cash) ∷ code
    ∷ (codes "fund", count fund) ∷ name ∷ []

abbrev pub refusal_data : Refusal → Data
refusal_data r = fields (fields_of (numbered r) (named r) r)
