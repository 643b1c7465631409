-- That the numbers of a change fit their types, as those of a `Change` do.
use Rattle.std.specs.Prelude.{ℕ, ◌<◌, ◌^◌, Option, Some, None, FitsSigned}
use Rattle.std.specs.Int.{w64}
use Rattle.std.specs.List.{All}
use Rattle.cf_calls.specs.declared.acts.Act.{Act}
use Rattle.cf_calls.specs.declared.acts.Act.TheVariants.{Adopt, Amend, Transfer, Requisition, Withdraw, Order, ChangeOrder, CancelOrder, Voucher, VoidVoucher, Pay, Bill, Collect, Receive, WriteOff, Asset, Issue, PayDue, Leave, Interfund, Close, Lease}
use Rattle.cf_calls.specs.declared.acts.AssetAct.{AssetAct}
use Rattle.cf_calls.specs.declared.acts.AssetAct.TheVariants.{Donate, Dispose}
use Rattle.cf_calls.specs.declared.acts.LeaveAct.{LeaveAct}
use Rattle.cf_calls.specs.declared.acts.LeaveAct.TheVariants.{Earn, Use, Mature}
use Rattle.cf_calls.specs.declared.acts.Terms.{Terms}
use Rattle.cf_calls.specs.declared.items.LineAmount.{LineAmount}
use Rattle.cf_calls.specs.declared.items.SourceAmount.{SourceAmount}
use Rattle.cf_calls.specs.declared.items.AccountItem.{AccountItem}
use Rattle.cf_calls.specs.declared.items.VoucherItem.{VoucherItem}
use Rattle.cf_calls.specs.declared.items.Charge.{Charge}
use Rattle.cf_calls.specs.declared.items.Charge.TheVariants.{Direct, OnOrder}
use Rattle.cf_calls.specs.declared.items.Liquidation.{Liquidation}
use Rattle.cf_calls.specs.declared.items.Liquidation.TheVariants.{Recorded}
use Rattle.cf_calls.specs.declared.call.Change.{Change}

abbrev pub IsN16 : ℕ → Type 0
IsN16 n = n < 2 ^ 16

abbrev pub IsN32 : ℕ → Type 0
IsN32 n = n < 2 ^ 32

abbrev pub IsN64 : ℕ → Type 0
IsN64 n = n < 2 ^ 64

abbrev pub HasFit : (ℕ → Type 0) → Option ℕ → Type 0
HasFit fits None = Unit {0}
HasFit fits (Some n) = fits n

-- ---- what stands in lists

abbrev pub LineAmountFits : LineAmount → Type 0
LineAmountFits i = IsN16 i.line × IsN64 i.amount

abbrev pub SourceAmountFits : SourceAmount → Type 0
SourceAmountFits i = IsN16 i.source × IsN64 i.amount

abbrev pub AccountFits : AccountItem → Type 0
AccountFits i = IsN16 i.fund × IsN16 i.dept × IsN16 i.object × IsN64 i.amount

abbrev pub LiquidationFits : Liquidation → Type 0
LiquidationFits (Recorded r) = IsN64 r
LiquidationFits _ = Unit {0}

abbrev pub ChargeFits : Charge → Type 0
ChargeFits Direct = Unit {0}
ChargeFits (OnOrder item order how) = IsN16 item × IsN32 order × LiquidationFits how

abbrev pub VoucherItemFits : VoucherItem → Type 0
VoucherItemFits i = AccountFits i.account × ChargeFits i.charge

-- ---- acts

abbrev pub AssetFits : AssetAct → Type 0
AssetFits (Donate d) = IsN16 d.dept × IsN16 d.object × IsN64 d.amount
AssetFits (Dispose d) = IsN32 d.asset × IsN16 d.fund × IsN64 d.proceeds

abbrev pub LeaveFits : LeaveAct → Type 0
LeaveFits (Earn a) = IsN16 a.fund × IsN16 a.dept × IsN64 a.amount
LeaveFits (Use a) = IsN16 a.fund × IsN16 a.dept × IsN64 a.amount
LeaveFits (Mature m) = IsN16 m.fund × IsN16 m.dept × IsN16 m.object × IsN64 m.amount

abbrev pub TermsFit : Terms → Type 0
TermsFit t = IsN16 t.rate_bp × IsN16 t.every × All IsN64 t.principals

abbrev pub ActFits : Act → Type 0
ActFits (Adopt a) = IsN16 a.fund × All LineAmountFits a.lines × All SourceAmountFits a.estimates
ActFits (Amend a) = IsN16 a.fund × IsN16 a.line × FitsSigned w64 a.by
ActFits (Transfer t) = IsN16 t.fund × IsN16 t.from × IsN16 t.to × IsN64 t.amount
ActFits (Requisition r) = All AccountFits r.items
ActFits (Withdraw n) = IsN32 n
ActFits (Order o) = IsN32 o.vendor × HasFit IsN32 o.requisition × All AccountFits o.items
ActFits (ChangeOrder c) = IsN32 c.order × IsN16 c.item × IsN16 c.fund × IsN16 c.dept
    × IsN16 c.object × FitsSigned w64 c.by
ActFits (CancelOrder n) = IsN32 n
ActFits (Voucher v) = IsN32 v.vendor × All VoucherItemFits v.items
ActFits (VoidVoucher n) = IsN32 n
ActFits (Pay p) = All IsN32 p.vouchers
ActFits (Bill b) = IsN16 b.source × IsN32 b.payer × IsN64 b.amount
ActFits (Collect a) = IsN32 a.bill × IsN64 a.amount
ActFits (Receive r) = SourceAmountFits r
ActFits (WriteOff a) = IsN32 a.bill × IsN64 a.amount
ActFits (Asset a) = AssetFits a
ActFits (Issue i) = IsN16 i.fund × IsN64 i.amount × TermsFit i.terms
ActFits (PayDue p) = IsN32 p.bond × IsN16 p.fund × IsN16 p.dept × IsN16 p.principal
    × IsN16 p.interest
ActFits (Leave l) = LeaveFits l
ActFits (Interfund m) = IsN16 m.from × IsN16 m.to × IsN64 m.amount
ActFits (Close p) = Unit {0}
ActFits (Lease l) = IsN32 l.vendor × AccountFits l.account × TermsFit l.terms

pub record ChangeFits (c : Change) : Type 0 where
  pub desk : IsN16 c.desk
  pub act : ActFits c.act
  pub after : HasFit IsN64 c.after
