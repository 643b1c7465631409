-- The amount that an act states itself.
use Rattle.std.specs.Prelude.{ℕ, ℤ, pos, sum_by, Option, Some, None}
use Rattle.cf_model.specs.Common.{Act, Adopt, Amend, Transfer, Requisition, Order, ChangeOrder, Voucher, Collect, Receive, WriteOff, Issue, Leave, Interfund, Lease, AssetAct, Donate, Dispose, LeaveAct, Earn, Use, Mature}
use Rattle.cf_calls.specs.declared.acts.Act.TheVariants.{Bill, Asset}

abbrev pub asset_amount : AssetAct → ℕ
asset_amount (Donate d) = d.amount
asset_amount (Dispose d) = d.proceeds

abbrev pub leave_amount : LeaveAct → ℕ
leave_amount (Earn a) = a.amount
leave_amount (Use a) = a.amount
leave_amount (Mature m) = m.amount

-- the amount of an act in cents, where it states one: the sum of its items, for an adoption of its
-- lines
abbrev pub amount_of : Act → Option ℤ
amount_of (Adopt a) = Some (pos (sum_by (λ i. i.amount) a.lines))
amount_of (Amend a) = Some a.by
amount_of (Transfer t) = Some (pos t.amount)
amount_of (Requisition r) = Some (pos (sum_by (λ i. i.amount) r.items))
amount_of (Order o) = Some (pos (sum_by (λ i. i.amount) o.items))
amount_of (ChangeOrder c) = Some c.by
amount_of (Voucher v) = Some (pos (sum_by (λ i. i.account.amount) v.items))
amount_of (Bill b) = Some (pos b.amount)
amount_of (Collect a) = Some (pos a.amount)
amount_of (Receive r) = Some (pos r.amount)
amount_of (WriteOff a) = Some (pos a.amount)
amount_of (Asset a) = Some (pos (asset_amount a))
amount_of (Issue i) = Some (pos i.amount)
amount_of (Leave l) = Some (pos (leave_amount l))
amount_of (Interfund m) = Some (pos m.amount)
amount_of (Lease l) = Some (pos l.account.amount)
amount_of _ = None
