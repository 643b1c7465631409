-- The deeds of each act fit the posting table: only the close of a month makes deeds of sums, over
-- at most as many assets and bonds as entries allow.
use Rattle.std.proofs.Common.{ℕ, ◌≤◌, ◌<◌, ◌^◌, ◌==◌, Bool, not, List, [], ◌∷◌, map, length, All, Option, Some, None, arith, filter}
use Rattle.cf_base.proofs.Common.{AllByRecursion, All-from_recursion}
use Rattle.cf_base.specs.Common.{most_entries, most_cents}
use Rattle.cf_base.specs.declared.calendar.Day.{Day}
use Rattle.cf_calls.specs.declared.acts.Act.{Act}
use Rattle.cf_calls.specs.declared.acts.Act.TheVariants.{Voucher, VoidVoucher, Pay, Bill, Collect, Receive, WriteOff, Asset, Issue, PayDue, Leave, Interfund, Close, Lease}
use Rattle.cf_calls.specs.declared.acts.AssetAct.TheVariants.{Donate, Dispose}
use Rattle.cf_calls.specs.declared.acts.FundMoveKind.{FundMoveKind}
use Rattle.cf_calls.specs.declared.acts.FundMoveKind.TheVariants as move
use Rattle.cf_calls.specs.declared.acts.LeaveAct.TheVariants.{Earn, Use, Mature}
use Rattle.cf_calls.specs.declared.acts.Period.TheVariants as period
use Rattle.cf_calls.specs.declared.entry.Entry.{Entry}
use Rattle.cf_chart.specs.declared.rows.Function.{Function}
use Rattle.cf_chart.specs.Common.{Plan}
use Rattle.cf_model.specs.Common.{Asset as CapitalAsset, is_leased, leased, owned, Bond, Due, next_due, document_year, year_of_day, bonds_deeds, close_deeds, collect_deeds, deeds_of, dispose_deed, due_deeds, function_charge, fund_deed, pay_deed, pay_items, spent_item, write_off_deeds, Expenditure, spent_by, bill_at, year_at, Registers, registers_of, IsLegal}
use Rattle.cf_model.specs.Receivables as receivables
use Rattle.cf_model.proofs.CloseBounds.{IsSmallBond, bonds_most, function_most}
use Rattle.cf_model.proofs.Holdings.{AreHoldings, IsLowBond, IsLowCost, are_held}
use Rattle.cf_model.proofs.Posted.{all_filter}
use Rattle.cf_model.proofs.Sized.{filter_le}
use Rattle.cf_model.proofs.Tidy.{all_append, all_new}
use Rattle.cf_model.proofs.Totals.{all_so}
use Rattle.cf_post.specs.declared.deed.Deed.{Deed}
use Rattle.cf_post.specs.declared.deed.Deed.TheVariants as deed
use Rattle.cf_post.specs.declared.deed.FundsAmount.{FundsAmount}
use Rattle.cf_post.specs.Sizes.{IsPostable}

abbrev ArePostable : List Deed → Type 0
ArePostable deeds = AllByRecursion IsPostable deeds

payments : (year : ℕ) (xs : List Expenditure) (vouchers : List ℕ) → ArePostable (pay_items year xs vouchers)
payments year xs [] = tt
payments year xs (n ∷ vouchers) =
    all_append IsPostable (map (pay_deed year) (spent_by n xs)) (pay_items year xs vouchers) (all_new IsPostable (pay_deed year) (λ x. tt) (spent_by n xs)) (payments year xs vouchers)

between : (what : FundMoveKind) (a : FundsAmount) → IsPostable (fund_deed what a)
between move.Transfer a = tt
between move.Loan a = tt
between move.Repay a = tt

dues_paid : (plan : Plan) (on : Day) (fund : ℕ) (bonds : List Bond) → ArePostable (bonds_deeds plan on fund bonds)
dues_paid plan on fund [] = tt
dues_paid plan on fund (b ∷ bonds) = all_append IsPostable (due_deeds plan on fund b (next_due b)) (bonds_deeds plan on fund bonds) (by_due (next_due b)) (dues_paid plan on fund bonds)
  where
    by_due : (o : Option Due) → ArePostable (due_deeds plan on fund b o)
    by_due None = tt
    by_due (Some p) = (tt, tt)

abbrev depreciated_to : Plan → Registers → Function → Deed
depreciated_to plan s f = deed.Depreciate (record { year = year_at plan s.closed; function = f.id; amount = function_charge s.closed (owned s.assets) f.id })

abbrev amortized_to : Plan → Registers → Function → Deed
amortized_to plan s f = deed.Amortize (record { year = year_at plan s.closed; function = f.id; amount = function_charge s.closed (leased s.assets) f.id })

-- what is charged to a function for some of the assets
charge_most : (s : Registers) (k function : ℕ) (p : CapitalAsset → Bool) → AreHoldings s k → k ≤ most_entries → function_charge s.closed (filter p s.assets) function < 2 ^ 127
charge_most s k function p are few =
    omega (arith, function_most s.closed function most_cents (filter p s.assets) (all_filter IsLowCost p s.assets are.costs), filter_le p s.assets, are.few_assets, few)

charges : (plan : Plan) (s : Registers) (k : ℕ) → AreHoldings s k → k ≤ most_entries → ArePostable (close_deeds plan s)
charges plan s k are few =
    all_append IsPostable (map (depreciated_to plan s) plan.functions) _
    (all_new IsPostable (depreciated_to plan s) (λ f. charge_most s k f.id (λ a. not (is_leased a.origin)) are few) plan.functions)
    (all_append IsPostable (map (amortized_to plan s) plan.functions) _ (all_new IsPostable (amortized_to plan s) (λ f. charge_most s k f.id (λ a. is_leased a.origin) are few) plan.functions)
    (omega (arith, bonds_most s.closed s.bonds (all_so IsLowBond IsSmallBond (λ b low. low.terms) s.bonds are.bonds), are.few_bonds, few), tt))

each : (plan : Plan) (s : Registers) (k : ℕ) (on : Day) (act : Act) → AreHoldings s k → k ≤ most_entries → ArePostable (deeds_of plan s on act)
each plan s k on (Voucher v) are few = all_new IsPostable (λ i. deed.Voucher (spent_item plan (document_year plan on (Voucher v)) i.account)) (λ i. tt) v.items
each plan s k on (VoidVoucher n) are few = all_new IsPostable (λ x. deed.VoidVoucher (spent_item plan x.year x.account)) (λ x. tt) (spent_by n s.documents.expenditures)
each plan s k on (Pay p) are few = payments (year_of_day plan on) s.documents.expenditures p.vouchers
each plan s k on (Bill b) are few = (tt, tt)
each plan s k on (Collect c) are few = by_bill (bill_at c.bill s.receivables.bills)
  where
    by_bill : (o : Option receivables.Bill) → ArePostable (collect_deeds plan on c o)
    by_bill None = tt
    by_bill (Some b) = (tt, tt)
each plan s k on (Receive r) are few = (tt, tt)
each plan s k on (WriteOff w) are few = by_bill (bill_at w.bill s.receivables.bills)
  where
    by_bill : (o : Option receivables.Bill) → ArePostable (write_off_deeds plan on w o)
    by_bill None = tt
    by_bill (Some b) = (tt, tt)
each plan s k on (Interfund m) are few = (between m.what _, tt)
each plan s k on (Asset (Donate d)) are few = (tt, tt)
each plan s k on (Asset (Dispose d)) are few = all_new IsPostable (dispose_deed plan s.closed on d) (λ a. tt) (filter (λ a. a.number == d.asset) s.assets)
each plan s k on (Issue i) are few = (tt, tt)
each plan s k on (Lease l) are few = (tt, tt)
each plan s k on (PayDue p) are few = dues_paid plan on p.fund (filter (λ b. b.number == p.bond) s.bonds)
each plan s k on (Leave (Earn l)) are few = (tt, tt)
each plan s k on (Leave (Use l)) are few = (tt, tt)
each plan s k on (Leave (Mature l)) are few = (tt, tt)
each plan s k on (Close (period.Month m)) are few = charges plan s k are few
each plan s k on (Close (period.Year y)) are few = tt
each plan s k on _ are few = tt

-- the deeds of any act over a legal history fit
pub postable : (plan : Plan) (h : List Entry) (on : Day) (act : Act) → IsLegal plan h → length h ≤ most_entries → All IsPostable (deeds_of plan (registers_of plan h) on act)
postable plan h on act legal few =
    All-from_recursion IsPostable (deeds_of plan (registers_of plan h) on act) (each plan (registers_of plan h) (length h) on act (are_held plan h legal) few)
