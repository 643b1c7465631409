-- The deeds of a legal history are of funds, sources and functions of the chart.
use Rattle.std.proofs.Common.{◌≡◌, ℕ, Bool, true, false, if◌then◌else◌, ◌==◌, ◌||◌, List, [], ◌∷◌, map, Option, Some, None, is_some, refl, ap, filter}
use Rattle.cf_base.proofs.Common.{list_any, AllByRecursion}
use Rattle.cf_model.specs.Common.{Day, Act, Donate, Dispose, FundMoveKind, Earn, Use, Mature, AccountItem, VoucherItem, Function, Asset, leased, owned, Bond, Due, next_due, document_year, year_of_day, fund_of, function_of, is_capital, is_current, is_interest, is_principal, bonds_deeds, collect_deeds, deeds_of, dispose_deed, due_deeds, function_charge, fund_deed, pay_deed, pay_items, spent_item, spent_on, write_off_deeds, Documents, Expenditure, year_at, spent_by, bill_at, payment_year, register_name_refusal, unknown_asset, unknown_bond, unknown_dept, unknown_fund, unknown_payment, Registers, bond_at, fund_name, name_refusal, unknown, unknown_account}
use Rattle.cf_calls.specs.declared.acts.Act.TheVariants as act
use Rattle.cf_calls.specs.declared.acts.FundMoveKind.TheVariants as move
use Rattle.cf_calls.specs.declared.acts.Period.TheVariants as period
use Rattle.cf_calls.specs.declared.names.NameKind.TheVariants as kind
use Rattle.cf_calls.specs.declared.refusal.Refusal.TheVariants as refusal
use Rattle.cf_chart.specs.Common.{Plan, department_at, fund_at, object_at}
use Rattle.cf_model.specs.Receivables.{Bill}
use Rattle.cf_model.proofs.Common.{or_else_none, IsFund, all_filter, all_append, all_map, all_so}
use Rattle.cf_post.specs.declared.deed.Deed.{Deed}
use Rattle.cf_post.specs.declared.deed.Deed.TheVariants as deed
use Rattle.cf_post.specs.declared.deed.FundsAmount.{FundsAmount}
use Rattle.cf_post.specs.declared.deed.Spent.{Spent}
use Rattle.cf_post.specs.declared.deed.Spent.TheVariants as spent
use Rattle.cf_model_articulation.specs.OwnAccounts.{HasOwnAccounts}
use Rattle.cf_model_articulation.proofs.Counts.{found_has, same_numbers}
use Rattle.cf_model_articulation.proofs.Named.{AreNamed, IsAccount, IsFunction, IsSource, dept_function, items_named, known_account, known_if, source_named}

-- a source, and its fund
pub record IsSourceOf (plan : Plan) (fund source : ℕ) : Type 0 where
  pub known : IsSource plan source
  pub of_fund : fund ≡ fund_of plan source

abbrev pub IsSpent : Plan → Spent → Type 0
IsSpent plan (spent.Current function) = IsFunction plan function
IsSpent plan spent.Capital = Unit {0}

abbrev pub IsNamed : Plan → Deed → Type 0
IsNamed plan (deed.Voucher i) = IsFund plan i.fund × IsSpent plan i.spent
IsNamed plan (deed.VoidVoucher i) = IsFund plan i.fund × IsSpent plan i.spent
IsNamed plan (deed.Pay a) = IsFund plan a.fund
IsNamed plan (deed.Bill l) = IsSourceOf plan l.fund l.source
IsNamed plan (deed.Collect c) = IsSourceOf plan c.fund c.source
IsNamed plan (deed.Receive s) = IsSourceOf plan s.fund s.source
IsNamed plan (deed.WriteOff s) = IsSourceOf plan s.fund s.source
IsNamed plan (deed.Donate a) = IsFunction plan a.function
IsNamed plan (deed.Dispose d) = IsFund plan d.fund × IsFunction plan d.function
IsNamed plan (deed.Issue a) = IsFund plan a.fund
IsNamed plan (deed.PayDue p) = IsFund plan p.fund
IsNamed plan (deed.EarnLeave a) = IsFunction plan a.function
IsNamed plan (deed.UseLeave a) = IsFunction plan a.function
IsNamed plan (deed.MatureLeave m) = IsFund plan m.fund × IsFunction plan m.function
IsNamed plan (deed.Transfer t) = IsFund plan t.from × IsFund plan t.to
IsNamed plan (deed.Loan t) = IsFund plan t.from × IsFund plan t.to
IsNamed plan (deed.Repay t) = IsFund plan t.from × IsFund plan t.to
IsNamed plan (deed.Depreciate a) = IsFunction plan a.function
IsNamed plan (deed.AccrueInterest a) = Unit {0}
IsNamed plan (deed.Lease a) = IsFund plan a.fund
IsNamed plan (deed.Amortize a) = IsFunction plan a.function

-- ---- vouchers

item_spent : (plan : Plan) (a : AccountItem) → HasOwnAccounts plan → IsAccount plan a → IsFund plan a.fund × IsSpent plan (spent_on plan a)
item_spent plan a own known = (known.fund, by_kind (is_capital (object_at plan a.object)))
  where
    by_kind : (b : Bool) → IsSpent plan (if b then spent.Capital else spent.Current (function_of plan a.dept))
    by_kind true = tt
    by_kind false = dept_function plan a.dept own known.dept

items_paid : (plan : Plan) (year : ℕ) (xs : List Expenditure) (vouchers : List ℕ) → AllByRecursion (λ (x : Expenditure). IsAccount plan x.account) xs → AllByRecursion (IsNamed plan) (pay_items year xs vouchers)
items_paid plan year xs [] known = tt
items_paid plan year xs (n ∷ vouchers) known =
    all_append (IsNamed plan) (map (pay_deed year) (spent_by n xs)) (pay_items year xs vouchers)
    (all_map (λ (x : Expenditure). IsAccount plan x.account) (IsNamed plan) (pay_deed year) (λ x k. k.fund) (spent_by n xs) (all_filter (λ (x : Expenditure). IsAccount plan x.account) _ xs known))
    (items_paid plan year xs vouchers known)

-- ---- debt, moves between funds and the functions of the chart

dues_named : (plan : Plan) (on : Day) (fund : ℕ) (bonds : List Bond) → IsFund plan fund → AllByRecursion (IsNamed plan) (bonds_deeds plan on fund bonds)
dues_named plan on fund [] known = tt
dues_named plan on fund (b ∷ bonds) known = all_append (IsNamed plan) (due_deeds plan on fund b (next_due b)) (bonds_deeds plan on fund bonds) (by_next (next_due b)) (dues_named plan on fund bonds known)
  where
    by_next : (o : Option Due) → AllByRecursion (IsNamed plan) (due_deeds plan on fund b o)
    by_next None = tt
    by_next (Some p) = (known, tt)

between : (plan : Plan) (what : FundMoveKind) (a : FundsAmount) → IsFund plan a.from × IsFund plan a.to → IsNamed plan (fund_deed what a)
between plan move.Transfer a known = known
between plan move.Loan a known = known
between plan move.Repay a known = known

each_there : (fs : List Function) → AllByRecursion (λ (f : Function). list_any (λ (g : Function). g.id == f.id) fs ≡ true) fs
each_there [] = tt
each_there (f ∷ fs) = (
  ap (λ b. b || list_any (λ (g : Function). g.id == f.id) fs) (same_numbers f.id f.id refl),
  all_so (λ (x : Function). list_any (λ (g : Function). g.id == x.id) fs ≡ true) (λ (x : Function). list_any (λ (g : Function). g.id == x.id) (f ∷ fs) ≡ true) (λ x e. or_last (f.id == x.id) e) fs (each_there fs),
)
  where
    or_last : (b : Bool) {c : Bool} → c ≡ true → (b || c) ≡ true
    or_last true e = refl
    or_last false e = e

-- ---- each act

pub deeds_named : (plan : Plan) (s : Registers) (d : Documents) (on : Day) (a : Act) → HasOwnAccounts plan → AreNamed plan s → name_refusal plan d on a ≡ None → register_name_refusal plan s on a ≡ None →
    AllByRecursion (IsNamed plan) (deeds_of plan s on a)
deeds_named plan s d on (act.Voucher v) own named names others =
    all_map (λ (i : VoucherItem). IsAccount plan i.account) (IsNamed plan) (λ i. deed.Voucher (spent_item plan (document_year plan on (act.Voucher v)) i.account)) (λ i k. item_spent plan i.account own k)
    v.items (items_named plan d (document_year plan on (act.Voucher v)) v.items names)
deeds_named plan s d on (act.VoidVoucher n) own named names others =
    all_map (λ (x : Expenditure). IsAccount plan x.account) (IsNamed plan) (λ x. deed.VoidVoucher (spent_item plan x.year x.account)) (λ x k. item_spent plan x.account own k)
    (spent_by n s.documents.expenditures) (all_filter (λ (x : Expenditure). IsAccount plan x.account) _ s.documents.expenditures named.expenditures)
deeds_named plan s d on (act.Pay p) own named names others = items_paid plan (year_of_day plan on) s.documents.expenditures p.vouchers named.expenditures
deeds_named plan s d on (act.Bill l) own named names others = (record { known = source_named plan d l.source names; of_fund = refl }, tt)
deeds_named plan s d on (act.Collect c) own named names others = by_bill (bill_at c.bill s.receivables.bills) refl
  where
    by_bill : (o : Option Bill) → bill_at c.bill s.receivables.bills ≡ o → AllByRecursion (IsNamed plan) (collect_deeds plan on c o)
    by_bill None found = tt
    by_bill (Some b) found = (record { known = found_has (λ (x : Bill). IsSource plan x.source) (λ x. x.number == c.bill) b s.receivables.bills found named.bills; of_fund = refl }, tt)
deeds_named plan s d on (act.Receive r) own named names others = (record { known = source_named plan d r.source names; of_fund = refl }, tt)
deeds_named plan s d on (act.WriteOff w) own named names others = by_bill (bill_at w.bill s.receivables.bills) refl
  where
    by_bill : (o : Option Bill) → bill_at w.bill s.receivables.bills ≡ o → AllByRecursion (IsNamed plan) (write_off_deeds plan on w o)
    by_bill None found = tt
    by_bill (Some b) found = (record { known = found_has (λ (x : Bill). IsSource plan x.source) (λ x. x.number == w.bill) b s.receivables.bills found named.bills; of_fund = refl }, tt)
deeds_named plan s d on (act.Asset (Donate g)) own named names others =
    (dept_function plan g.dept own (known_if (is_some (department_at plan g.dept)) (refusal.UnknownName kind.Dept g.dept) (or_else_none (unknown_dept plan g.dept) _ others).0), tt)
deeds_named plan s d on (act.Asset (Dispose g)) own named names others =
    let fund = known_if (is_some (fund_at plan g.fund)) (refusal.UnknownName kind.Fund g.fund) (or_else_none (unknown_asset s.assets g.asset) (unknown_fund plan g.fund) others).1 in
    all_map (λ (x : Asset). IsFunction plan x.function) (IsNamed plan) (dispose_deed plan s.closed on g) (λ x k. (fund, k)) (filter (λ x. x.number == g.asset) s.assets)
    (all_filter (λ (x : Asset). IsFunction plan x.function) _ s.assets named.assets)
deeds_named plan s d on (act.Issue i) own named names others = (known_if (is_some (fund_at plan i.fund)) (refusal.UnknownName kind.Fund i.fund) others, tt)
deeds_named plan s d on (act.PayDue p) own named names others =
    let year = payment_year plan (year_of_day plan on) (bond_at p.bond s.bonds) in
    let accounts = or_else_none (unknown_bond s.bonds p.bond) (unknown_payment plan year p) others in
    let first = or_else_none (unknown_account plan is_principal year p.fund p.dept p.principal) (unknown_account plan is_interest year p.fund p.dept p.interest) accounts.1 in
    dues_named plan on p.fund (filter (λ b. b.number == p.bond) s.bonds) (known_account plan is_principal year p.fund p.dept p.principal first.0).0
deeds_named plan s d on (act.Leave (Earn l)) own named names others =
    (dept_function plan l.dept own (known_if (is_some (department_at plan l.dept)) (refusal.UnknownName kind.Dept l.dept) (or_else_none (unknown_fund plan l.fund) (unknown_dept plan l.dept) others).1), tt)
deeds_named plan s d on (act.Leave (Use l)) own named names others =
    (dept_function plan l.dept own (known_if (is_some (department_at plan l.dept)) (refusal.UnknownName kind.Dept l.dept) (or_else_none (unknown_fund plan l.fund) (unknown_dept plan l.dept) others).1), tt)
deeds_named plan s d on (act.Leave (Mature l)) own named names others =
    let both = known_account plan is_current (year_of_day plan on) l.fund l.dept l.object others in ((both.0, dept_function plan l.dept own both.1), tt)
deeds_named plan s d on (act.Interfund m) own named names others =
    let first = or_else_none (unknown plan d (fund_name m.from)) _ names in
    let second = or_else_none (unknown plan d (fund_name m.to)) None first.1 in
    (between plan m.what _ (known_if (is_some (fund_at plan m.from)) (refusal.UnknownName kind.Fund m.from) first.0, known_if (is_some (fund_at plan m.to)) (refusal.UnknownName kind.Fund m.to) second.0), tt)
deeds_named plan s d on (act.Close (period.Month m)) own named names others =
    let depreciate = λ (f : Function). deed.Depreciate (record { year = year_at plan s.closed; function = f.id; amount = function_charge s.closed (owned s.assets) f.id }) in
    let amortize = λ (f : Function). deed.Amortize (record { year = year_at plan s.closed; function = f.id; amount = function_charge s.closed (leased s.assets) f.id }) in
    all_append (IsNamed plan) (map depreciate plan.functions) _
    (all_map (λ (f : Function). IsFunction plan f.id) (IsNamed plan) depreciate (λ f k. k) plan.functions (each_there plan.functions))
    (all_append (IsNamed plan) (map amortize plan.functions) _
    (all_map (λ (f : Function). IsFunction plan f.id) (IsNamed plan) amortize (λ f k. k) plan.functions (each_there plan.functions)) (tt, tt))
deeds_named plan s d on (act.Lease l) own named names others = ((known_account plan is_capital (year_of_day plan on) l.account.fund l.account.dept l.account.object others).0, tt)
deeds_named plan s d on (act.Close (period.Year y)) own named names others = tt
deeds_named plan s d on _ own named names others = tt
