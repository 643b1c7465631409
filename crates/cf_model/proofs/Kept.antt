-- What a requisition's hold and a voucher's item keep through each act.
use Rattle.std.proofs.Common.{◌≡◌, Bool, true, false, if◌then◌else◌, ◌==◌, Some, refl}
use Rattle.cf_base.proofs.Common.{list_any}
use Rattle.cf_calls.specs.declared.acts.Act.{Act}
use Rattle.cf_calls.specs.declared.acts.Act.TheVariants.{Adopt, Amend, Transfer, Requisition, Withdraw, Order, ChangeOrder, CancelOrder, Voucher, VoidVoucher, Pay, Receive, Interfund, Close}
use Rattle.cf_chart.specs.Common.{Plan}
use Rattle.cf_model.specs.Common.{rolls, Hold, Expenditure, hold_step, expenditure_step, is_number}

-- a hold of the same requisition, account and year
pub record IsSameHold (h k : Hold) : Type 0 where
  pub requisition : k.requisition ≡ h.requisition
  pub account : k.account ≡ h.account
  pub year : k.year ≡ h.year

hold_if : (b : Bool) (h k : Hold) → IsSameHold h k → IsSameHold h (if b then k else h)
hold_if true h k same = same
hold_if false h k same = record { requisition = refl; account = refl; year = refl }

pub hold_same : (plan : Plan) (act : Act) (h : Hold) → IsSameHold h (hold_step plan act h)
hold_same plan (Withdraw n) h = hold_if (is_number (Some n) h.requisition) h _ (record { requisition = refl; account = refl; year = refl })
hold_same plan (Order o) h = hold_if (is_number o.requisition h.requisition) h _ (record { requisition = refl; account = refl; year = refl })
hold_same plan (Adopt a) h = record { requisition = refl; account = refl; year = refl }
hold_same plan (Amend a) h = record { requisition = refl; account = refl; year = refl }
hold_same plan (Transfer t) h = record { requisition = refl; account = refl; year = refl }
hold_same plan (Requisition r) h = record { requisition = refl; account = refl; year = refl }
hold_same plan (ChangeOrder c) h = record { requisition = refl; account = refl; year = refl }
hold_same plan (CancelOrder n) h = record { requisition = refl; account = refl; year = refl }
hold_same plan (Voucher v) h = record { requisition = refl; account = refl; year = refl }
hold_same plan (VoidVoucher n) h = record { requisition = refl; account = refl; year = refl }
hold_same plan (Pay p) h = record { requisition = refl; account = refl; year = refl }
hold_same plan (Receive r) h = record { requisition = refl; account = refl; year = refl }
hold_same plan (Interfund m) h = record { requisition = refl; account = refl; year = refl }
hold_same plan (Close p) h = hold_if (rolls plan h.year (Close p)) h _ (record { requisition = refl; account = refl; year = refl })
hold_same plan _ h = record { requisition = refl; account = refl; year = refl }

-- a voucher's item of the same voucher, charge and year
pub record IsSameSpend (x y : Expenditure) : Type 0 where
  pub voucher : y.voucher ≡ x.voucher
  pub charge : y.charge ≡ x.charge
  pub year : y.year ≡ x.year

spend_if : (b : Bool) (x y : Expenditure) → IsSameSpend x y → IsSameSpend x (if b then y else x)
spend_if true x y same = same
spend_if false x y same = record { voucher = refl; charge = refl; year = refl }

pub spend_same : (plan : Plan) (act : Act) (x : Expenditure) → IsSameSpend x (expenditure_step act x)
spend_same plan (VoidVoucher n) x = spend_if (x.voucher == n) x _ (record { voucher = refl; charge = refl; year = refl })
spend_same plan (Adopt a) x = record { voucher = refl; charge = refl; year = refl }
spend_same plan (Amend a) x = record { voucher = refl; charge = refl; year = refl }
spend_same plan (Transfer t) x = record { voucher = refl; charge = refl; year = refl }
spend_same plan (Requisition r) x = record { voucher = refl; charge = refl; year = refl }
spend_same plan (Withdraw n) x = record { voucher = refl; charge = refl; year = refl }
spend_same plan (Order o) x = record { voucher = refl; charge = refl; year = refl }
spend_same plan (ChangeOrder c) x = record { voucher = refl; charge = refl; year = refl }
spend_same plan (CancelOrder n) x = record { voucher = refl; charge = refl; year = refl }
spend_same plan (Voucher v) x = record { voucher = refl; charge = refl; year = refl }
spend_same plan (Pay p) x = spend_if (list_any (λ n. n == x.voucher) p.vouchers) x _ (record { voucher = refl; charge = refl; year = refl })
spend_same plan (Receive r) x = record { voucher = refl; charge = refl; year = refl }
spend_same plan (Interfund m) x = record { voucher = refl; charge = refl; year = refl }
spend_same plan _ x = record { voucher = refl; charge = refl; year = refl }
