-- What the registers of a legal history name is of the chart: the accounts of vouchers, the sources
-- of bills, the functions of assets.
use Rattle.std.proofs.Common.{◌≡◌, ℕ, ◌+◌, Bool, true, false, not, if◌then◌else◌, ◌==◌, List, [], ◌∷◌, ◌++◌, map, Option, None, is_some, refl, sym, ap, subst, ◌∙◌}
use Rattle.cf_base.proofs.Common.{list_any, AllByRecursion}
use Rattle.cf_model.specs.Common.{Day, Act, Donate, Dispose, Drawn, Entry, AccountItem, VoucherItem, Refusal, Department, Function, Object, Asset, asset_step, assets_by, bought, disposed, life_of, new_asset, purchase, void, voucher_of, document_year, year_of_day, function_if, function_of, is_capital, Documents, Expenditure, documents_of, expenditure_of, expenditure_step, is_number, bills_by, register_name_refusal, unknown_dept, Registers, no_registers, registers_of, account_name, any_source_name, charge_names, first_refusal, is_spending, name_refusal, refuse_if, unknown, unknown_account, unknown_if, voucher_names, Adds, IsLegal}
use Rattle.cf_calls.specs.declared.acts.Act.TheVariants as act
use Rattle.cf_calls.specs.declared.names.NameKind.TheVariants as kind
use Rattle.cf_calls.specs.declared.refusal.Refusal.TheVariants as refusal
use Rattle.cf_calls.specs.Common.{voucher_items}
use Rattle.cf_chart.specs.Common.{has_function, Plan, department_at, fund_at, object_at, source_at}
use Rattle.cf_model.specs.Receivables.{Bill}
use Rattle.cf_model.proofs.Common.{accepted, first_refusal-append, or_else_none, refuse_none, IsFund, legal_induction, registers_push, all_append, all_map}
use Rattle.cf_model_articulation.specs.OwnAccounts.{HasOwnAccounts}
use Rattle.cf_model_articulation.proofs.Counts.{all_of, found_has, some_is}

abbrev pub IsDept : Plan → ℕ → Type 0
IsDept plan dept = is_some (department_at plan dept) ≡ true

abbrev pub IsSource : Plan → ℕ → Type 0
IsSource plan source = is_some (source_at plan source) ≡ true

abbrev pub IsFunction : Plan → ℕ → Type 0
IsFunction plan function = list_any (λ (f : Function). f.id == function) plan.functions ≡ true

pub record IsAccount (plan : Plan) (a : AccountItem) : Type 0 where
  pub fund : IsFund plan a.fund
  pub dept : IsDept plan a.dept

pub record AreNamed (plan : Plan) (s : Registers) : Type 0 where
  pub expenditures : AllByRecursion (λ (x : Expenditure). IsAccount plan x.account) s.documents.expenditures
  pub bills : AllByRecursion (λ (b : Bill). IsSource plan b.source) s.receivables.bills
  pub assets : AllByRecursion (λ (a : Asset). IsFunction plan a.function) s.assets

-- ---- what the rules on names say

turned : (b : Bool) → not b ≡ false → b ≡ true
turned true e = refl
turned false e = cc

pub known_if : (b : Bool) (r : Refusal) → refuse_if (not b) r ≡ None → b ≡ true
known_if b r none = turned b (refuse_none (not b) r none)

pub known_account : (plan : Plan) (is_fit : Option Object → Bool) (year fund dept object : ℕ) → unknown_account plan is_fit year fund dept object ≡ None → IsFund plan fund × IsDept plan dept
known_account plan is_fit year fund dept object none =
    let first = or_else_none (unknown_if (not (is_some (fund_at plan fund))) kind.Fund fund) _ none in
    let second = or_else_none (unknown_if (not (is_some (department_at plan dept))) kind.Dept dept) _ first.1 in
    (known_if (is_some (fund_at plan fund)) (refusal.UnknownName kind.Fund fund) first.0, known_if (is_some (department_at plan dept)) (refusal.UnknownName kind.Dept dept) second.0)

item_account : (plan : Plan) (s : Documents) (year : ℕ) (a : AccountItem) → unknown plan s (account_name year a) ≡ None → IsAccount plan a
item_account plan s year a none = let both = known_account plan is_spending year a.fund a.dept a.object none in record { fund = both.0; dept = both.1 }

pub items_named : (plan : Plan) (s : Documents) (year : ℕ) (items : List VoucherItem) → first_refusal (unknown plan s) (voucher_names year items) ≡ None → AllByRecursion (λ (i : VoucherItem). IsAccount plan i.account) items
items_named plan s year [] none = tt
items_named plan s year (i ∷ items) none =
    let here = or_else_none (unknown plan s (account_name year i.account)) (first_refusal (unknown plan s) (charge_names i.charge ++ voucher_names year items)) none in
    let rest = or_else_none (first_refusal (unknown plan s) (charge_names i.charge)) (first_refusal (unknown plan s) (voucher_names year items))
    (sym (first_refusal-append (unknown plan s) (charge_names i.charge) (voucher_names year items)) ∙ here.1) in
    (item_account plan s year i.account here.0, items_named plan s year items rest.1)

pub source_named : (plan : Plan) (s : Documents) (source : ℕ) → first_refusal (unknown plan s) (any_source_name source ∷ []) ≡ None → IsSource plan source
source_named plan s source none =
    known_if (is_some (source_at plan source)) (refusal.UnknownName kind.Source source) (or_else_none (unknown plan s (any_source_name source)) None none).0

-- a department works for a function of the chart
pub dept_function : (plan : Plan) (dept : ℕ) → HasOwnAccounts plan → IsDept plan dept → IsFunction plan (function_of plan dept)
dept_function plan dept own known =
    let row = some_is (department_at plan dept) known in
    ap (λ (o : Option Department). list_any (λ (f : Function). f.id == function_if o) plan.functions) row.1
    ∙ found_has (λ (d : Department). has_function plan.functions d ≡ true) (λ d. d.id == dept) row.0 plan.departments row.1
    (all_of (λ (d : Department). has_function plan.functions d ≡ true) (has_function plan.functions) (λ d e. e) plan.departments own.departments)

-- ---- vouchers

still_if : (b : Bool) (plan : Plan) (x y : Expenditure) → y.account ≡ x.account → IsAccount plan x.account → IsAccount plan (if b then y else x).account
still_if true plan x y same known = subst (IsAccount plan) (sym same) known
still_if false plan x y same known = known

-- no act changes an item's account
still : (plan : Plan) (a : Act) (x : Expenditure) → IsAccount plan x.account → IsAccount plan (expenditure_step a x).account
still plan (act.VoidVoucher n) x known = still_if (x.voucher == n) plan x _ refl known
still plan (act.Pay p) x known = still_if (list_any (λ n. n == x.voucher) p.vouchers) plan x _ refl known
still plan _ x known = known

new_items : (plan : Plan) (s : Documents) (number desk : ℕ) (on : Day) (a : Act) → name_refusal plan s on a ≡ None →
    AllByRecursion (λ (x : Expenditure). IsAccount plan x.account) (map (expenditure_of number desk on (document_year plan on a)) (voucher_items a))
new_items plan s number desk on (act.Voucher v) none =
    all_map (λ (i : VoucherItem). IsAccount plan i.account) (λ (x : Expenditure). IsAccount plan x.account) (expenditure_of number desk on (document_year plan on (act.Voucher v))) (λ i known. known) v.items (items_named plan s (document_year plan on (act.Voucher v)) v.items none)
new_items plan s number desk on _ none = tt

-- ---- bills

new_bills : (plan : Plan) (s : Documents) (number : ℕ) (on : Day) (a : Act) → name_refusal plan s on a ≡ None → AllByRecursion (λ (b : Bill). IsSource plan b.source) (bills_by number a)
new_bills plan s number on (act.Bill l) none = (source_named plan s l.source none, tt)
new_bills plan s number on _ none = tt

-- ---- assets

same_function : (plan : Plan) (closed : ℕ) (on : Day) (a : Act) (x : Asset) → IsFunction plan x.function → IsFunction plan (asset_step plan closed on a x).function
same_function plan closed on (act.VoidVoucher n) x known = by_test (is_number (voucher_of x.origin) n)
  where
    by_test : (b : Bool) → IsFunction plan (if b then record x { stage = void } else x).function
    by_test true = known
    by_test false = known
same_function plan closed on (act.Asset (Dispose d)) x known = by_test (x.number == d.asset)
  where
    by_test : (b : Bool) → IsFunction plan (if b then record x { stage = disposed (year_of_day plan on) closed } else x).function
    by_test true = known
    by_test false = known
same_function plan closed on _ x known = known

bought_functions : (plan : Plan) (voucher : ℕ) (on : Day) (year number : ℕ) (items : List VoucherItem) → HasOwnAccounts plan → AllByRecursion (λ (i : VoucherItem). IsAccount plan i.account) items →
    AllByRecursion (λ (a : Asset). IsFunction plan a.function) (bought plan voucher on year number items)
bought_functions plan voucher on year number [] own known = tt
bought_functions plan voucher on year number (i ∷ items) own known =
    by_test (is_capital (object_at plan i.account.object)) (bought_functions plan voucher on year (number + 1) items own known.1) (bought_functions plan voucher on year number items own known.1)
  where
    by_test : (b : Bool) → AllByRecursion (λ (a : Asset). IsFunction plan a.function) (bought plan voucher on year (number + 1) items) →
        AllByRecursion (λ (a : Asset). IsFunction plan a.function) (bought plan voucher on year number items) →
        AllByRecursion (λ (a : Asset). IsFunction plan a.function)
        (if b then new_asset plan (purchase voucher) on year number i.account.dept (life_of plan i.account.object) i.account.amount ∷ bought plan voucher on year (number + 1) items else bought plan voucher on year number items)
    by_test true next stay = (dept_function plan i.account.dept own known.0.dept, next)
    by_test false next stay = stay

new_assets : (plan : Plan) (s : Documents) (r : Registers) (on : Day) (drawn : Drawn) (a : Act) → HasOwnAccounts plan → name_refusal plan s on a ≡ None → register_name_refusal plan r on a ≡ None →
    AllByRecursion (λ (x : Asset). IsFunction plan x.function) (assets_by plan on a drawn)
new_assets plan s r on drawn (act.Voucher v) own names others =
    bought_functions plan drawn.number on (document_year plan on (act.Voucher v)) drawn.second v.items own (items_named plan s (document_year plan on (act.Voucher v)) v.items names)
new_assets plan s r on drawn (act.Asset (Donate d)) own names others =
    (dept_function plan d.dept own (known_if (is_some (department_at plan d.dept)) (refusal.UnknownName kind.Dept d.dept) (or_else_none (unknown_dept plan d.dept) _ others).0), tt)
new_assets plan s r on drawn (act.Asset (Dispose d)) own names others = tt
new_assets plan s r on drawn (act.Lease l) own names others =
    (dept_function plan l.account.dept own (known_account plan is_capital (year_of_day plan on) l.account.fund l.account.dept l.account.object others).1, tt)
new_assets plan s r on drawn _ own names others = tt

-- ---- legal histories

named_step : (plan : Plan) → HasOwnAccounts plan → (h : List Entry) (e : Entry) → AreNamed plan (registers_of plan h) → Adds plan h e → AreNamed plan (registers_of plan (h ++ e ∷ []))
named_step plan own h e named adds =
    let a = accepted plan h e adds in
    let s = registers_of plan h in
    let d = documents_of plan h in
    let act = e.change.act in
    subst (AreNamed plan) (sym (registers_push plan no_registers h e)) (record {
      expenditures =
          all_append (λ (x : Expenditure). IsAccount plan x.account) (map (expenditure_step act) s.documents.expenditures) _
          (all_map (λ (x : Expenditure). IsAccount plan x.account) (λ (x : Expenditure). IsAccount plan x.account) (expenditure_step act) (still plan act) s.documents.expenditures named.expenditures)
          (new_items plan d e.drawn.number e.change.desk e.change.on act a.names);
      bills = all_append (λ (b : Bill). IsSource plan b.source) s.receivables.bills (bills_by e.drawn.number act) named.bills (new_bills plan d e.drawn.number e.change.on act a.names);
      assets =
          all_append (λ (x : Asset). IsFunction plan x.function) (map (asset_step plan s.closed e.change.on act) s.assets) (assets_by plan e.change.on act e.drawn)
          (all_map (λ (x : Asset). IsFunction plan x.function) (λ (x : Asset). IsFunction plan x.function) (asset_step plan s.closed e.change.on act) (same_function plan s.closed e.change.on act)
          s.assets named.assets)
          (new_assets plan d s e.change.on e.drawn act own a.names a.register_names);
    })

pub are_named : (plan : Plan) (history : List Entry) → HasOwnAccounts plan → IsLegal plan history → AreNamed plan (registers_of plan history)
are_named plan history own legal = legal_induction plan (λ h. AreNamed plan (registers_of plan h)) (record { expenditures = tt; bills = tt; assets = tt }) (named_step plan own) history legal
