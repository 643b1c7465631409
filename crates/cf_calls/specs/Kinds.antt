-- The table of calls: what each of the 22 kinds has, once. What tells calls apart by their kind
-- alone reads it.
use Rattle.std.specs.Prelude.{ℕ, ◌==◌, List, [], ◌∷◌, codes, Option, find}
use Rattle.std.specs.Str.{bytes_eq}
use Rattle.cf_calls.specs.declared.acts.Act.{Act}
use Rattle.cf_calls.specs.declared.acts.Act.TheVariants as act
use Rattle.cf_calls.specs.declared.acts.AssetAct.TheVariants.{Dispose}
use Rattle.cf_calls.specs.declared.kind.ActKind.{ActKind}
use Rattle.cf_calls.specs.declared.kind.ActKind.TheVariants.{Adopt, Amend, Transfer, Requisition, Withdraw, Order, ChangeOrder, CancelOrder, Voucher, VoidVoucher, Pay, Bill, Collect, Receive, WriteOff, Asset, Issue, PayDue, Leave, Interfund, Close, Lease}
use Rattle.cf_calls.specs.declared.kind.Draws.{Draws}
use Rattle.cf_calls.specs.declared.kind.Draws.TheVariants.{Nothing, Number, Both, Payment}
use Rattle.cf_calls.specs.declared.role.Role.{Role}
use Rattle.cf_calls.specs.declared.role.Role.TheVariants.{Council, Dept, Purchasing, Payables, Treasury, Revenue, Assets, Payroll, Controller}

-- the call's word, the number of its kind in a journal, the role that its desk needs, which numbers
-- it draws
pub record Row : Type 0 where
  pub word : List ℕ
  pub code : ℕ
  pub role : Role
  pub draws : Draws

abbrev pub call : List ℕ → ℕ → Role → Draws → Row
call word code role draws = record { word = word; code = code; role = role; draws = draws }

abbrev pub row_of : ActKind → Row
row_of Adopt = call (codes "adopt") 1 Council Nothing
row_of Amend = call (codes "amend") 2 Council Nothing
row_of Transfer = call (codes "transfer") 3 Council Nothing
row_of Requisition = call (codes "requisition") 4 Dept Number
row_of Withdraw = call (codes "withdraw") 5 Dept Nothing
row_of Order = call (codes "order") 6 Purchasing Number
row_of ChangeOrder = call (codes "change_order") 7 Purchasing Nothing
row_of CancelOrder = call (codes "cancel_order") 8 Purchasing Nothing
row_of Voucher = call (codes "voucher") 9 Payables Both
row_of VoidVoucher = call (codes "void_voucher") 10 Payables Nothing
row_of Pay = call (codes "pay") 11 Treasury Nothing
row_of Bill = call (codes "bill") 12 Revenue Number
row_of Collect = call (codes "collect") 13 Treasury Nothing
row_of Receive = call (codes "receive") 14 Treasury Nothing
row_of WriteOff = call (codes "write_off") 15 Revenue Nothing
row_of Asset = call (codes "asset") 16 Assets Number
row_of Issue = call (codes "issue") 17 Treasury Number
row_of PayDue = call (codes "pay_due") 18 Treasury Payment
row_of Leave = call (codes "leave") 19 Payroll Nothing
row_of Interfund = call (codes "interfund") 20 Treasury Nothing
row_of Close = call (codes "close") 21 Controller Nothing
row_of Lease = call (codes "lease") 22 Treasury Both

abbrev pub kinds : List ActKind
kinds =
    Adopt ∷ Amend ∷ Transfer ∷ Requisition ∷ Withdraw ∷ Order ∷ ChangeOrder ∷ CancelOrder ∷ Voucher
    ∷ VoidVoucher ∷ Pay
    ∷ Bill ∷ Collect ∷ Receive ∷ WriteOff ∷ Asset ∷ Issue ∷ PayDue ∷ Leave ∷ Interfund ∷ Close
    ∷ Lease ∷ []

abbrev pub kind_of : Act → ActKind
kind_of (act.Adopt a) = Adopt
kind_of (act.Amend a) = Amend
kind_of (act.Transfer a) = Transfer
kind_of (act.Requisition a) = Requisition
kind_of (act.Withdraw a) = Withdraw
kind_of (act.Order a) = Order
kind_of (act.ChangeOrder a) = ChangeOrder
kind_of (act.CancelOrder a) = CancelOrder
kind_of (act.Voucher a) = Voucher
kind_of (act.VoidVoucher a) = VoidVoucher
kind_of (act.Pay a) = Pay
kind_of (act.Bill a) = Bill
kind_of (act.Collect a) = Collect
kind_of (act.Receive a) = Receive
kind_of (act.WriteOff a) = WriteOff
kind_of (act.Asset a) = Asset
kind_of (act.Issue a) = Issue
kind_of (act.PayDue a) = PayDue
kind_of (act.Leave a) = Leave
kind_of (act.Interfund a) = Interfund
kind_of (act.Close a) = Close
kind_of (act.Lease a) = Lease

-- ---- readings

abbrev pub word_of : ActKind → List ℕ
word_of kind = (row_of kind).word

abbrev pub kind_code : ActKind → ℕ
kind_code kind = (row_of kind).code

-- the kind of a number, and that of a word, if there is one
unfoldable pub kind_value : ℕ → Option ActKind
kind_value n = find (λ kind. n == kind_code kind) kinds

abbrev pub kind_named : List ℕ → Option ActKind
kind_named text = find (λ kind. bytes_eq text (word_of kind)) kinds

-- which numbers an act draws: of what is done with an asset, a donation alone draws one
abbrev pub draws_of : Act → Draws
draws_of (act.Asset (Dispose d)) = Nothing
draws_of a = (row_of (kind_of a)).draws
