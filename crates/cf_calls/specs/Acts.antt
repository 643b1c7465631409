-- Readings of an act: what the rules and sums ask of it, without going through its kinds.
use Rattle.std.specs.Prelude.{ℕ, ◌*◌, Bool, false, ◌==◌, ◌&&◌, List, [], length, Option, Some, None}
use Rattle.cf_base.specs.declared.calendar.Month.{Month}
use Rattle.cf_calls.specs.declared.acts.Act.{Act}
use Rattle.cf_calls.specs.declared.acts.Act.TheVariants.{Adopt, Amend, Transfer, Requisition, Order, Voucher, Close}
use Rattle.cf_calls.specs.declared.acts.Adoption.{Adoption}
use Rattle.cf_calls.specs.declared.acts.Amendment.{Amendment}
use Rattle.cf_calls.specs.declared.acts.BondIssue.{BondIssue}
use Rattle.cf_calls.specs.declared.acts.LineTransfer.{LineTransfer}
use Rattle.cf_calls.specs.declared.acts.NewLease.{NewLease}
use Rattle.cf_calls.specs.declared.acts.Period.TheVariants as period
use Rattle.cf_calls.specs.declared.items.AccountItem.{AccountItem}
use Rattle.cf_calls.specs.declared.items.VoucherItem.{VoucherItem}
use Rattle.cf_calls.specs.declared.role.Role.{Role}
use Rattle.cf_calls.specs.Kinds.{kind_of, row_of}

-- the role that an act needs
abbrev pub role_of : Act → Role
role_of a = (row_of (kind_of a)).role

-- the adoption, the amendment or the transfer that an act is
abbrev pub adoption_of : Act → Option Adoption
adoption_of (Adopt a) = Some a
adoption_of _ = None

abbrev pub amendment_of : Act → Option Amendment
amendment_of (Amend a) = Some a
amendment_of _ = None

abbrev pub transfer_of : Act → Option LineTransfer
transfer_of (Transfer t) = Some t
transfer_of _ = None

-- the items of a requisition, of an order, of a voucher, and none of another act
abbrev pub requisition_items : Act → List AccountItem
requisition_items (Requisition r) = r.items
requisition_items _ = []

abbrev pub order_items : Act → List AccountItem
order_items (Order o) = o.items
order_items _ = []

abbrev pub voucher_items : Act → List VoucherItem
voucher_items (Voucher v) = v.items
voucher_items _ = []

-- whether an act is an adoption of this fund and year
abbrev pub adopts : ℕ → ℕ → Act → Bool
adopts fund year (Adopt a) = (a.fund == fund) && (a.year == year)
adopts fund year _ = false

-- whether an act is a voucher of the fiscal year before that of its day
abbrev pub is_back : Act → Bool
is_back (Voucher v) = v.back
is_back _ = false

-- whether an act closes this month, or this year
abbrev pub closes_month : Month → Act → Bool
closes_month m (Close (period.Month n)) = (m.year == n.year) && (m.month == n.month)
closes_month m _ = false

abbrev pub closes_year : ℕ → Act → Bool
closes_year y (Close (period.Year n)) = y == n
closes_year y _ = false

-- a lease's amount, rate and schedule, as those of a bond (GASB Statement 87: a lease is a
-- financing)
abbrev pub schedule_of : NewLease → BondIssue
schedule_of l = record { fund = l.account.fund; amount = l.account.amount; terms = l.terms }

-- the months that a lease is for
abbrev pub term_of : NewLease → ℕ
term_of l = l.terms.every * length l.terms.principals
