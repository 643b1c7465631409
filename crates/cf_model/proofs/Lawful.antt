-- What the rules give of an entry that none of them refuses, and what each such entry keeps.
use Rattle.std.proofs.Common.{◌≡◌, ◌⊎◌, inl, inr, ℕ, suc, ◌+◌, ◌-◌, ◌<◌, ◌≤◌, Bool, true, false, not, if◌then◌else◌, ◌==◌, ◌||◌, ◌&&◌, nat_lt, List, [], ◌∷◌, ◌++◌, map, length, Option, Some, None, is_some, refl, sym, subst, ◌∙◌, arith, filter}
use Rattle.cf_base.proofs.Common.{AllByRecursion, leb_tells, eqb_tells, common_steps, parts}
use Rattle.cf_base.specs.declared.calendar.Day.{Day}
use Rattle.cf_base.specs.Common.{is_day, is_in_window, year_end}
use Rattle.cf_calls.specs.declared.acts.Act.{Act}
use Rattle.cf_calls.specs.declared.acts.Act.TheVariants as act
use Rattle.cf_calls.specs.declared.acts.AssetAct.TheVariants.{Donate, Dispose}
use Rattle.cf_calls.specs.declared.acts.Period.TheVariants as period
use Rattle.cf_calls.specs.declared.entry.Drawn.{Drawn}
use Rattle.cf_calls.specs.declared.entry.Entry.{Entry}
use Rattle.cf_calls.specs.declared.items.AccountItem.{AccountItem}
use Rattle.cf_calls.specs.declared.items.VoucherItem.{VoucherItem}
use Rattle.cf_calls.specs.declared.names.NameKind.TheVariants as kind
use Rattle.cf_calls.specs.declared.refusal.AssetFault.TheVariants as fault
use Rattle.cf_calls.specs.declared.refusal.Refusal.{Refusal}
use Rattle.cf_calls.specs.declared.refusal.Refusal.TheVariants as refusal
use Rattle.cf_calls.specs.declared.shown.VoucherState.{VoucherState}
use Rattle.cf_calls.specs.declared.shown.VoucherState.TheVariants as voucher
use Rattle.cf_calls.specs.Common.{is_back}
use Rattle.cf_chart.specs.declared.rows.Function.{Function}
use Rattle.cf_chart.specs.Common.{Plan, department_at, fund_at, object_at, source_at}
use Rattle.cf_model.specs.Common.{year_of_day, document_year, is_before, state_refusal, voided_state, not_open_voucher, Documents, Expenditure, is_number, voucher_at, is_capital, function_of, first_refusal, refuse_if, period_refusal, name_refusal, unknown, unknown_if, account_name, voucher_names, charge_names, Asset, Stage, void, disposed, depreciation, asset_step, assets_by, new_asset, bought, voucher_of, Origin, purchase, gift, lease, is_leased, life_of, leased_life, number_of_day, year_at, months_to, bill_at, window_if, collected_year, year_in, month_at, same_month, order_refusal, later_levy, levy_refusal, register_name_refusal, unknown_dept, unknown_fund, is_gone, voided_asset, not_held, disposed_asset, asset_refusal, Registers, no_registers, registers_of, closed_after}
use Rattle.cf_model.proofs.First.{or_else_none, refuse_none, first_refusal-append}
use Rattle.cf_model.proofs.Tidy.{all_append, all_map}
use Rattle.cf_model.specs.Assets.{held}
use Rattle.cf_model.specs.Receivables.{Bill}
use Rattle.cf_model.proofs.Allowed.{Allows}
use Rattle.cf_model.proofs.Backed.{IsBacked, is_backed_by, agrees, is_void_state, backed_step}
use Rattle.cf_model.proofs.Capital.{IsFresh, AreFresh, IsHeldBy, HasFunction}
use Rattle.cf_model.proofs.Depreciated.{IsSoundAsset, among}
use Rattle.cf_model.proofs.MonthNumbers.{HasCalendar, ClosedAre, ClosesNext, closed_first, closed_push, early, day_year_is}
use Rattle.cf_model.proofs.Pushes.{registers_push}
use Rattle.cf_model.proofs.Reconciled.{IsReconciled, reconciled_first, reconciled_push}
use Rattle.cf_model.proofs.Totals.{passing, all_so}

-- ---- days

abbrev Less : Bool → ℕ → ℕ → Type 0
Less b m n = ((b ≡ true) × (suc m ≤ n)) ⊎ ((b ≡ false) × (n < suc m))

abbrev Equal : Bool → ℕ → ℕ → Type 0
Equal b m n = ((b ≡ true) × (m ≡ n)) ⊎ ((b ≡ false) × (m ≡ n → ⊥))

-- a day that isn't before another is of an earlier year, or of the same year and a month up to its
not_before : (a b : Day) → is_before b a ≡ false → (a.year < b.year) ⊎ ((a.year ≡ b.year) × (a.month ≤ b.month))
not_before a b e = by_tests (nat_lt b.year a.year) (b.year == a.year) (nat_lt b.month a.month) _ (leb_tells (suc b.year) a.year) (eqb_tells b.year a.year) (leb_tells (suc b.month) a.month) e
  where
    by_tests : (p q r s : Bool) → Less p b.year a.year → Equal q b.year a.year → Less r b.month a.month → (p || (q && (r || s))) ≡ false → (a.year < b.year) ⊎ ((a.year ≡ b.year) × (a.month ≤ b.month))
    by_tests true q r s h k l e = cc
    by_tests false q r s (inl h) k l e = cc
    by_tests false true true s (inr h) k l e = cc
    by_tests false true false s (inr h) (inl k) (inl l) e = cc
    by_tests false true false s (inr h) (inl k) (inr l) e = inr (sym k.1, omega (arith, l.1))
    by_tests false true false s (inr h) (inr k) l e = cc
    by_tests false false r s (inr h) (inl k) l e = cc
    by_tests false false r s (inr h) (inr k) l e = inl (by_order (a.year) (b.year) (omega (arith, h.1)) (λ x. k.1 (sym x)))
      where
        by_order : (m n : ℕ) → m ≤ n → (m ≡ n → ⊥) → m < n
        by_order m n l d = by_test (m == n) (eqb_tells m n)
          where
            by_test : (b : Bool) → Equal b m n → m < n
            by_test b (inl h) = absurd (d h.1)
            by_test b (inr h) = grind (arith, common_steps)

-- .. and so isn't of a later fiscal year
year_le : (plan : Plan) (a b : Day) → is_before b a ≡ false → year_of_day plan a ≤ year_of_day plan b
year_le plan a b e = by_order (not_before a b e)
  where
    at_most : (t : Bool) (y : ℕ) → (if t then y else y + 1) ≤ y + 1
    at_most true y = omega arith
    at_most false y = omega arith

    at_least : (t : Bool) (y : ℕ) → y ≤ (if t then y else y + 1)
    at_least true y = omega arith
    at_least false y = omega arith

    same_year : (f x y : Bool) (n m : ℕ) → n ≡ m → Less x a.month plan.first_month → Less y b.month plan.first_month → a.month ≤ b.month → (if f || x then n else n + 1) ≤ (if f || y then m else m + 1)
    same_year true x y n m h k l le = omega (arith, h)
    same_year false true y n m h k l le = omega (arith, h, at_least y m)
    same_year false false true n m h (inl k) l le = cc
    same_year false false true n m h (inr k) (inl l) le = absurd (omega (arith, k.1, l.1, le))
    same_year false false true n m h (inr k) (inr l) le = cc
    same_year false false false n m h k l le = omega (arith, h)

    by_order : (a.year < b.year) ⊎ ((a.year ≡ b.year) × (a.month ≤ b.month)) → year_of_day plan a ≤ year_of_day plan b
    by_order (inl l) = omega (arith, l, at_most ((plan.first_month == 1) || nat_lt a.month plan.first_month) a.year, at_least ((plan.first_month == 1) || nat_lt b.month plan.first_month) b.year)
    by_order (inr h) =
        same_year (plan.first_month == 1) (nat_lt a.month plan.first_month) (nat_lt b.month plan.first_month) a.year b.year h.0 (leb_tells (suc a.month) plan.first_month) (leb_tells (suc b.month) plan.first_month) h.1

-- ---- assets of a void, and of a disposal

-- what is said of each element that passes
pub passed : {A : Type 0} (f : A → Option Refusal) (p : A → Bool) (xs : List A) → first_refusal f (filter p xs) ≡ None → AllByRecursion (λ x. p x ≡ true → f x ≡ None) xs
passed f p [] e = tt
passed f p (x ∷ xs) e = by_test (p x) refl e (passed f p xs)
  where
    by_test : (b : Bool) → p x ≡ b → first_refusal f (if b then x ∷ filter p xs else filter p xs) ≡ None → (first_refusal f (filter p xs) ≡ None → AllByRecursion (λ x. p x ≡ true → f x ≡ None) xs) →
        (p x ≡ true → f x ≡ None) × AllByRecursion (λ x. p x ≡ true → f x ≡ None) xs
    by_test true is e more = let both : (f x ≡ None) × (first_refusal f (filter p xs) ≡ None) = or_else_none (f x) (first_refusal f (filter p xs)) e in ((λ h. both.0), more both.1)
    by_test false is e more = ((λ h. cc), more e)

both_all : {A : Type 0} (P Q R : A → Type 0) → ((x : A) → P x → Q x → R x) → (xs : List A) → AllByRecursion P xs → AllByRecursion Q xs → AllByRecursion R xs
both_all P Q R so [] a b = tt
both_all P Q R so (x ∷ xs) a b = (so x a.0 b.0, both_all P Q R so xs a.1 b.1)

-- an asset of an open voucher isn't void
not_void : (xs : List Expenditure) (n : ℕ) (o : Option ℕ) → is_number o n ≡ true → voided_state n (voucher_at n xs) ≡ None → is_backed_by void xs o ≡ true → ⊥
not_void xs n None is ok e = cc
not_void xs n (Some m) is ok e = by_found (voucher_at n xs) ok (subst (λ k. agrees void (voucher_at k xs) ≡ true) (number m n is) e)
  where
    number : (a b : ℕ) → (a == b) ≡ true → a ≡ b
    number a b e = grind (arith, common_steps)

    by_state : (s : VoucherState) → not_open_voucher n s ≡ None → is_void_state s ≡ true → ⊥
    by_state voucher.Open ok e = cc
    by_state voucher.Paid ok e = cc
    by_state voucher.Void ok e = cc

    by_found : (f : Option Expenditure) → voided_state n f ≡ None → agrees void f ≡ true → ⊥
    by_found None ok e = cc
    by_found (Some x) ok e = by_state x.state ok e

fresh : (xs : List Expenditure) (closed n : ℕ) → voided_state n (voucher_at n xs) ≡ None → (a : Asset) → IsBacked xs a → (is_number (voucher_of a.origin) n ≡ true → voided_asset closed a ≡ None) → is_number (voucher_of a.origin) n ≡ true → IsFresh closed a
fresh xs closed n ok a backed rules is =
    let both : (refuse_if (nat_lt 0 (depreciation closed a)) (refusal.AssetState a.number fault.Charged) ≡ None) × (refuse_if (is_gone a.stage) (refusal.AssetState a.number fault.Disposed) ≡ None) =
    or_else_none _ _ (rules is) in
    record {
      held = by_stage a.stage backed (refuse_none (is_gone a.stage) (refusal.AssetState a.number fault.Disposed) both.1);
      none = nothing (depreciation closed a) (refuse_none _ (refusal.AssetState a.number fault.Charged) both.0);
    }
  where
    nothing : (m : ℕ) → nat_lt 0 m ≡ false → m ≡ 0
    nothing m e = grind (arith, common_steps)

    by_stage : (s : Stage) → is_backed_by s xs (voucher_of a.origin) ≡ true → is_gone s ≡ false → s ≡ held
    by_stage held b e = refl
    by_stage void b e = absurd (not_void xs n (voucher_of a.origin) is ok b)
    by_stage (disposed y m) b e = cc

are_fresh : (xs : List Expenditure) (closed n : ℕ) (assets : List Asset) → voided_state n (voucher_at n xs) ≡ None → AllByRecursion (IsBacked xs) assets →
    first_refusal (voided_asset closed) (filter (λ a. is_number (voucher_of a.origin) n) assets) ≡ None → AreFresh closed n assets
are_fresh xs closed n assets ok backed rule =
    both_all (IsBacked xs) (λ a. is_number (voucher_of a.origin) n ≡ true → voided_asset closed a ≡ None) (λ a. is_number (voucher_of a.origin) n ≡ true → IsFresh closed a) (fresh xs closed n ok) assets backed
    (passed (voided_asset closed) (λ a. is_number (voucher_of a.origin) n) assets rule)

-- an asset isn't acquired in a later year than that of its day
abbrev pub IsDated : Plan → Asset → Type 0
IsDated plan a = a.year ≤ year_of_day plan a.on

held_by : (plan : Plan) (on : Day) (n : ℕ) (a : Asset) → IsDated plan a → ((a.number == n) ≡ true → disposed_asset on a ≡ None) → (a.number == n) ≡ true → IsHeldBy (year_of_day plan on) a
held_by plan on n a dated rules is =
    let both = or_else_none (not_held a.number a.stage) _ (rules is) in
    let rest : (refuse_if (is_leased a.origin) (refusal.AssetState a.number fault.Leased) ≡ None) × (refuse_if (is_before on a.on) (refusal.AssetState a.number fault.Later) ≡ None) =
    or_else_none _ _ both.1 in
    record {
      held = by_stage a.stage both.0;
      owned = refuse_none (is_leased a.origin) (refusal.AssetState a.number fault.Leased) rest.0;
      acquired = omega (arith, dated, year_le plan a.on on (refuse_none (is_before on a.on) (refusal.AssetState a.number fault.Later) rest.1));
    }
  where
    by_stage : (s : Stage) → not_held a.number s ≡ None → s ≡ held
    by_stage held e = refl
    by_stage void e = cc
    by_stage (disposed y m) e = cc

-- ---- bills

some_if : {A : Type 0} (o : Option A) (r : Refusal) → refuse_if (not (is_some o)) r ≡ None → (x : A) × (o ≡ Some x)
some_if None r e = cc
some_if (Some x) r e = (x, refl)

levied_by : (year : ℕ) (b : Bill) → refuse_if (nat_lt year b.levy_year) (refusal.YearNotOpen b.levy_year) ≡ None → b.levy_year ≤ year
levied_by year b e = not_less (nat_lt year b.levy_year) (leb_tells (suc year) b.levy_year) (refuse_none _ (refusal.YearNotOpen b.levy_year) e)
  where
    not_less : (t : Bool) → Less t year b.levy_year → t ≡ false → b.levy_year ≤ year
    not_less t (inl h) e = cc
    not_less t (inr h) e = omega (arith, h.1)

-- a collection is revenue of the levy year or of a later one
collected_from : (plan : Plan) (on : Day) (b : Bill) → b.levy_year ≤ year_of_day plan on → b.levy_year ≤ collected_year plan on b
collected_from plan on b l = by_test ((year_in plan.first_month on == b.levy_year) || is_in_window (year_end plan.first_month b.levy_year) (window_if (source_at plan b.source)) on)
  where
    by_test : (t : Bool) → b.levy_year ≤ (if t then b.levy_year else year_in plan.first_month on)
    by_test true = omega arith
    by_test false = l

-- ---- new assets

-- each department works for one function of the chart
abbrev pub HasFunctions : Plan → Type 0
HasFunctions plan = (dept : ℕ) → is_some (department_at plan dept) ≡ true → passing (λ (f : Function). function_of plan dept == f.id) plan.functions ≡ 1

abbrev Known : Plan → VoucherItem → Type 0
Known plan i = is_some (department_at plan i.account.dept) ≡ true

known_item : (plan : Plan) (s : Documents) (year : ℕ) (a : AccountItem) → unknown plan s (account_name year a) ≡ None → is_some (department_at plan a.dept) ≡ true
known_item plan s year a e =
    let first = or_else_none (unknown_if (not (is_some (fund_at plan a.fund))) kind.Fund a.fund) _ e in
    let second = or_else_none (unknown_if (not (is_some (department_at plan a.dept))) kind.Dept a.dept) _ first.1 in
    turned (is_some (department_at plan a.dept)) (refuse_none (not (is_some (department_at plan a.dept))) (refusal.UnknownName kind.Dept a.dept) second.0)
  where
    turned : (b : Bool) → not b ≡ false → b ≡ true
    turned true e = refl
    turned false e = cc

known_items : (plan : Plan) (s : Documents) (year : ℕ) (items : List VoucherItem) → first_refusal (unknown plan s) (voucher_names year items) ≡ None → AllByRecursion (Known plan) items
known_items plan s year [] e = tt
known_items plan s year (i ∷ items) e =
    let here = or_else_none (unknown plan s (account_name year i.account)) (first_refusal (unknown plan s) (charge_names i.charge ++ voucher_names year items)) e in
    let rest = or_else_none (first_refusal (unknown plan s) (charge_names i.charge)) (first_refusal (unknown plan s) (voucher_names year items))
    (sym (first_refusal-append (unknown plan s) (charge_names i.charge) (voucher_names year items)) ∙ here.1) in
    (known_item plan s year i.account here.0, known_items plan s year items rest.1)

-- what holds of an asset that is acquired: of its service, its function and its day
abbrev IsNew : Plan → ℕ → Asset → Type 0
IsNew plan closed a = IsSoundAsset plan closed a × (HasFunction plan a × IsDated plan a)

new_one : (plan : Plan) (closed : ℕ) (o : Origin) (on : Day) (year number dept life cost : ℕ) → HasFunctions plan → is_some (department_at plan dept) ≡ true → year ≤ year_of_day plan on →
    year_at plan (number_of_day plan on) ≡ year_of_day plan on → IsNew plan closed (new_asset plan o on year number dept life cost)
new_one plan closed o on year number dept life cost functions known le same = (record { served = omega (arith, le, same); stage = tt; kept = λ leased. refl }, (functions dept known, le))

all_new : (plan : Plan) (closed n : ℕ) (on : Day) (year first : ℕ) (items : List VoucherItem) → HasFunctions plan → AllByRecursion (Known plan) items → year ≤ year_of_day plan on →
    year_at plan (number_of_day plan on) ≡ year_of_day plan on → AllByRecursion (IsNew plan closed) (bought plan n on year first items)
all_new plan closed n on year first [] functions known le same = tt
all_new plan closed n on year first (i ∷ items) functions known le same =
    by_test (is_capital (object_at plan i.account.object)) (all_new plan closed n on year (first + 1) items functions known.1 le same) (all_new plan closed n on year first items functions known.1 le same)
  where
    by_test : (b : Bool) → AllByRecursion (IsNew plan closed) (bought plan n on year (first + 1) items) → AllByRecursion (IsNew plan closed) (bought plan n on year first items) →
        AllByRecursion (IsNew plan closed) (if b then new_asset plan (purchase n) on year first i.account.dept (life_of plan i.account.object) i.account.amount ∷ bought plan n on year (first + 1) items else bought plan n on year first items)
    by_test true next stay = (new_one plan closed (purchase n) on year first i.account.dept (life_of plan i.account.object) i.account.amount functions known.0 le same, next)
    by_test false next stay = stay

-- ---- legal histories

-- the number that a bill draws is the next
abbrev pub DrawsNext : Registers → Drawn → Act → Type 0
DrawsNext s drawn (act.Bill l) = drawn.number ≡ length s.receivables.bills + 1
DrawsNext s drawn _ = Unit {0}

-- no rule that the reconciliation needs refuses an entry
pub record IsUnbroken (plan : Plan) (h : List Entry) (e : Entry) : Type 0 where
  pub day : is_day e.change.on ≡ true
  pub drawn : DrawsNext (registers_of plan h) e.drawn e.change.act
  pub names : name_refusal plan (registers_of plan h).documents e.change.on e.change.act ≡ None
  pub register_names : register_name_refusal plan (registers_of plan h) e.change.on e.change.act ≡ None
  pub period : period_refusal plan h e.change.on ≡ None
  pub levy : levy_refusal plan (registers_of plan h) e.change.on e.change.act ≡ None
  pub states : state_refusal plan (registers_of plan h).documents e.change.on e.change.act ≡ None
  pub assets : asset_refusal (registers_of plan h) e.change.on e.change.act ≡ None
  pub order : order_refusal plan (registers_of plan h) e.change.act ≡ None

-- what holds of a legal history
pub record IsLawful (plan : Plan) (h : List Entry) : Type 0 where
  pub reconciled : IsReconciled plan h
  pub closed : ClosedAre plan h
  pub backed : AllByRecursion (IsBacked (registers_of plan h).documents.expenditures) (registers_of plan h).assets
  pub dated : AllByRecursion (IsDated plan) (registers_of plan h).assets

-- what is known of each chart
pub record IsWhole (plan : Plan) : Type 0 where
  pub from : 1971 ≤ plan.first_year
  pub calendar : HasCalendar plan
  pub functions : HasFunctions plan
  pub few_functions : length plan.functions ≤ 64

document_le : (plan : Plan) (on : Day) (a : Act) → document_year plan on a ≤ year_of_day plan on
document_le plan on a = by_test (is_back a)
  where
    by_test : (b : Bool) → (if b then year_of_day plan on - 1 else year_of_day plan on) ≤ year_of_day plan on
    by_test true = omega arith
    by_test false = omega arith

allowed : (plan : Plan) (h : List Entry) (on : Day) (drawn : Drawn) → IsWhole plan → IsLawful plan h → is_day on ≡ true → period_refusal plan h on ≡ None → (a : Act) → DrawsNext (registers_of plan h) drawn a →
    register_name_refusal plan (registers_of plan h) on a ≡ None → levy_refusal plan (registers_of plan h) on a ≡ None → state_refusal plan (registers_of plan h).documents on a ≡ None →
    asset_refusal (registers_of plan h) on a ≡ None → Allows plan (registers_of plan h) on drawn a
allowed plan h on drawn whole is day period (act.Voucher v) next names levy states assets = early plan h on is.closed day period
allowed plan h on drawn whole is day period (act.VoidVoucher n) next names levy states assets =
    are_fresh (registers_of plan h).documents.expenditures (registers_of plan h).closed n (registers_of plan h).assets states is.backed assets
allowed plan h on drawn whole is day period (act.Bill l) next names levy states assets = next
allowed plan h on drawn whole is day period (act.Collect c) next names levy states assets =
    let b = some_if (bill_at c.bill (registers_of plan h).receivables.bills) (refusal.UnknownName kind.Bill c.bill) names in
    record { bill = b.0; found = b.1; levied = collected_from plan on b.0 (levied_by (year_of_day plan on) b.0 (subst (λ o. later_levy (year_of_day plan on) o ≡ None) b.1 levy)) }
allowed plan h on drawn whole is day period (act.WriteOff w) next names levy states assets =
    let b = some_if (bill_at w.bill (registers_of plan h).receivables.bills) (refusal.UnknownName kind.Bill w.bill) names in
    record { bill = b.0; found = b.1; levied = levied_by (year_of_day plan on) b.0 (subst (λ o. later_levy (year_of_day plan on) o ≡ None) b.1 levy) }
allowed plan h on drawn whole is day period (act.Asset (Donate d)) next names levy states assets = early plan h on is.closed day period
allowed plan h on drawn whole is day period (act.Asset (Dispose d)) next names levy states assets =
    let before : number_of_day plan on < months_to plan (year_of_day plan on) = among plan (number_of_day plan on) (year_of_day plan on) (omega (arith, day_year_is plan h on whole.calendar is.closed day period)) in (
      omega (arith, before, early plan h on is.closed day period),
      both_all (IsDated plan) (λ a. (a.number == d.asset) ≡ true → disposed_asset on a ≡ None) (λ a. (a.number == d.asset) ≡ true → IsHeldBy (year_of_day plan on) a) (held_by plan on d.asset)
          (registers_of plan h).assets is.dated (passed (disposed_asset on) (λ a. a.number == d.asset) (registers_of plan h).assets assets),
    )
allowed plan h on drawn whole is day period (act.Issue i) next names levy states assets = (early plan h on is.closed day period, (parts on day).first_day)
allowed plan h on drawn whole is day period (act.Lease l) next names levy states assets = (early plan h on is.closed day period, (parts on day).first_day)
allowed plan h on drawn whole is day period _ next names levy states assets = tt

acquired : (plan : Plan) (h : List Entry) (closed : ℕ) (on : Day) (drawn : Drawn) → IsWhole plan → year_at plan (number_of_day plan on) ≡ year_of_day plan on → (a : Act) →
    name_refusal plan (registers_of plan h).documents on a ≡ None → register_name_refusal plan (registers_of plan h) on a ≡ None → AllByRecursion (IsNew plan closed) (assets_by plan on a drawn)
acquired plan h closed on drawn whole same (act.Voucher v) names others =
    all_new plan closed drawn.number on (document_year plan on (act.Voucher v)) drawn.second v.items whole.functions (known_items plan (registers_of plan h).documents (document_year plan on (act.Voucher v)) v.items names)
    (document_le plan on (act.Voucher v)) same
acquired plan h closed on drawn whole same (act.Asset (Donate d)) names others =
    (new_one plan closed gift on (year_of_day plan on) drawn.number d.dept (life_of plan d.object) d.amount whole.functions (known (or_else_none (unknown_dept plan d.dept) _ others).0) (omega arith) same, tt)
  where
    turned : (b : Bool) → not b ≡ false → b ≡ true
    turned true e = refl
    turned false e = cc

    known : unknown_dept plan d.dept ≡ None → is_some (department_at plan d.dept) ≡ true
    known e = turned (is_some (department_at plan d.dept)) (refuse_none (not (is_some (department_at plan d.dept))) (refusal.UnknownName kind.Dept d.dept) e)
acquired plan h closed on drawn whole same (act.Asset (Dispose d)) names others = tt
acquired plan h closed on drawn whole same (act.Lease l) names others =
    let fund = or_else_none (unknown_fund plan l.account.fund) _ others in
    (new_one plan closed lease on (year_of_day plan on) drawn.number l.account.dept (leased_life plan l) l.account.amount whole.functions (known (or_else_none (unknown_dept plan l.account.dept) _ fund.1).0) (omega arith) same, tt)
  where
    turned : (b : Bool) → not b ≡ false → b ≡ true
    turned true e = refl
    turned false e = cc

    known : unknown_dept plan l.account.dept ≡ None → is_some (department_at plan l.account.dept) ≡ true
    known e = turned (is_some (department_at plan l.account.dept)) (refuse_none (not (is_some (department_at plan l.account.dept))) (refusal.UnknownName kind.Dept l.account.dept) e)
acquired plan h closed on drawn whole same _ names others = tt

-- the months that are closed are named in order
pub closes_next : (plan : Plan) (s : Registers) → HasCalendar plan → (a : Act) → order_refusal plan s a ≡ None → ClosesNext plan s a
closes_next plan s c (act.Close (period.Month m)) e =
    by_parts (m.year == (month_at plan s.closed).year) (m.month == (month_at plan s.closed).month) (eqb_tells m.year (month_at plan s.closed).year) (eqb_tells m.month (month_at plan s.closed).month)
    (turned _ (refuse_none (not (same_month m (month_at plan s.closed))) (refusal.MonthOrder (month_at plan s.closed)) e))
  where
    turned : (b : Bool) → not b ≡ false → b ≡ true
    turned true e = refl
    turned false e = cc

    by_parts : (p q : Bool) → Equal p m.year (month_at plan s.closed).year → Equal q m.month (month_at plan s.closed).month → (p && q) ≡ true → ClosesNext plan s (act.Close (period.Month m))
    by_parts p q (inl h) (inl k) e = (record { first = omega (arith, k.1); last = omega (arith, k.1) }, omega (arith, h.1, k.1, c.first))
    by_parts p q (inl h) (inr k) e = cc
    by_parts p q (inr h) k e = cc
closes_next plan s c (act.Close (period.Year y)) e = tt
closes_next plan s c _ e = tt

on_kept : (plan : Plan) (closed : ℕ) (on : Day) (act : Act) (a : Asset) → IsDated plan a → IsDated plan (asset_step plan closed on act a)
on_kept plan closed on (act.VoidVoucher n) a dated = by_test (is_number (voucher_of a.origin) n)
  where
    by_test : (b : Bool) → IsDated plan (if b then record a { stage = void } else a)
    by_test true = dated
    by_test false = dated
on_kept plan closed on (act.Asset (Dispose d)) a dated = by_test (a.number == d.asset)
  where
    by_test : (b : Bool) → IsDated plan (if b then record a { stage = disposed (year_of_day plan on) closed } else a)
    by_test true = dated
    by_test false = dated
on_kept plan closed on _ a dated = dated

-- an entry that no rule refuses keeps all that holds of a legal history: the reconciliation is
-- among it
pub lawful_push : (plan : Plan) (h : List Entry) (e : Entry) → IsWhole plan → IsLawful plan h → IsUnbroken plan h e → IsLawful plan (h ++ e ∷ [])
lawful_push plan h e whole is ok =
    let s = registers_of plan h in
    let same = day_year_is plan h e.change.on whole.calendar is.closed ok.day ok.period in
    let new = acquired plan h (closed_after e.change.act s.closed) e.change.on e.drawn whole same e.change.act ok.names ok.register_names in
    let assets = assets_by plan e.change.on e.change.act e.drawn in
    record {
      reconciled = reconciled_push plan h e is.reconciled (record {
        allowed = allowed plan h e.change.on e.drawn whole is ok.day ok.period e.change.act ok.drawn ok.register_names ok.levy ok.states ok.assets;
        served = all_so (IsNew plan (closed_after e.change.act s.closed)) (IsSoundAsset plan (closed_after e.change.act s.closed)) (λ a n. n.0) assets new;
        functions = all_so (IsNew plan (closed_after e.change.act s.closed)) (HasFunction plan) (λ a n. n.1.0) assets new;
      });
      closed = closed_push plan h e is.closed (closes_next plan s whole.calendar e.change.act ok.order);
      backed = subst (λ (r : Registers). AllByRecursion (IsBacked r.documents.expenditures) r.assets) (sym (registers_push plan no_registers h e)) (backed_step plan s e is.backed);
      dated =
          subst (λ (r : Registers). AllByRecursion (IsDated plan) r.assets) (sym (registers_push plan no_registers h e))
          (all_append (IsDated plan) (map (asset_step plan s.closed e.change.on e.change.act) s.assets) assets
          (all_map (IsDated plan) (IsDated plan) (asset_step plan s.closed e.change.on e.change.act) (on_kept plan s.closed e.change.on e.change.act) s.assets is.dated)
          (all_so (IsNew plan (closed_after e.change.act s.closed)) (IsDated plan) (λ a n. n.1.1) assets new));
    }

pub lawful_first : (plan : Plan) → IsWhole plan → IsLawful plan []
lawful_first plan whole = record { reconciled = reconciled_first plan; closed = closed_first plan whole.calendar; backed = tt; dated = tt }

-- each entry is one that no rule refuses at its place
abbrev pub AreUnbroken : Plan → List Entry → List Entry → Type 0
AreUnbroken plan seen [] = Unit {0}
AreUnbroken plan seen (e ∷ later) = IsUnbroken plan seen e × AreUnbroken plan (seen ++ e ∷ []) later
