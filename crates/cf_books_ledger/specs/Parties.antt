-- The other parties of documents: the vendors of orders, vouchers and leases, and the payers of
-- bills.
use Rattle.std.specs.Prelude.{ℕ, ◌-◌, if◌then◌else◌, ◌==◌, List, [], ◌∷◌, ◌++◌, flat_map, slice_index_or, pos}
use Rattle.std.specs.Ordering.{int_eq}
use Rattle.cf_model.specs.Common.{Act, Order, ChangeOrder, CancelOrder, Voucher, VoidVoucher, Collect, WriteOff, Issue, PayDue, Close, Lease, Entry}
use Rattle.cf_calls.specs.declared.acts.Act.TheVariants.{Bill}
use Rattle.cf_office_rows.specs.declared.rows.LedgerRow.{LedgerRow}

-- documents of each kind have the numbers 1, 2, 3 .., and so stand in these lists: an order's
-- vendor, a voucher's, a bill's payer, and a lease's vendor, which is 0 of a bond that is no lease
pub record PartyLists : Type 0 where
  pub orders : List ℕ
  pub vouchers : List ℕ
  pub bills : List ℕ
  pub bonds : List ℕ

abbrev pub order_party : Act → List ℕ
order_party (Order o) = o.vendor ∷ []
order_party _ = []

abbrev pub voucher_party : Act → List ℕ
voucher_party (Voucher v) = v.vendor ∷ []
voucher_party _ = []

abbrev pub bill_party : Act → List ℕ
bill_party (Bill b) = b.payer ∷ []
bill_party _ = []

abbrev pub bond_party : Act → List ℕ
bond_party (Issue i) = 0 ∷ []
bond_party (Lease l) = l.vendor ∷ []
bond_party _ = []

abbrev pub parties_of : List Entry → PartyLists
parties_of history = record {
  orders = flat_map (λ e. order_party e.change.act) history;
  vouchers = flat_map (λ e. voucher_party e.change.act) history;
  bills = flat_map (λ e. bill_party e.change.act) history;
  bonds = flat_map (λ e. bond_party e.change.act) history;
}

-- the party of a document by its number, from 1
abbrev pub party_at : List ℕ → ℕ → ℕ
party_at parties number = if number == 0 then 0 else slice_index_or parties (number - 1) 0

-- the vendor of an order that a roll takes up; a requisition has none
abbrev pub rolled_party : PartyLists → LedgerRow → ℕ
rolled_party p r = if int_eq r.by.held (pos 0) then party_at p.orders r.of.document else 0

-- the party of what an act moves
abbrev pub party_by : PartyLists → Act → LedgerRow → ℕ
party_by p (Order o) r = o.vendor
party_by p (ChangeOrder c) r = party_at p.orders c.order
party_by p (CancelOrder n) r = party_at p.orders n
party_by p (Voucher v) r = v.vendor
party_by p (VoidVoucher n) r = party_at p.vouchers n
party_by p (Bill b) r = b.payer
party_by p (Collect c) r = party_at p.bills c.bill
party_by p (WriteOff w) r = party_at p.bills w.bill
party_by p (PayDue d) r = party_at p.bonds d.bond
party_by p (Close c) r = rolled_party p r
party_by p (Lease l) r = l.vendor
party_by p _ r = 0

-- the lists with what an act enters
abbrev pub with_act : PartyLists → Act → PartyLists
with_act p (Order o) = record p { orders = p.orders ++ o.vendor ∷ [] }
with_act p (Voucher v) = record p { vouchers = p.vouchers ++ v.vendor ∷ [] }
with_act p (Bill b) = record p { bills = p.bills ++ b.payer ∷ [] }
with_act p (Issue i) = record p { bonds = p.bonds ++ 0 ∷ [] }
with_act p (Lease l) = record p { bonds = p.bonds ++ l.vendor ∷ [] }
with_act p _ = p
