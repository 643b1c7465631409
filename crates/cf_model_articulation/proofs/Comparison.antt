-- The budgetary comparison of each legal history articulates with its operating statement: what a
-- fund's lines have expended in a year
-- is the expenditures of the year.
use Rattle.std.proofs.Common.{◌≡◌, ℕ, Bool, true, false, not, if◌then◌else◌, ◌==◌, ◌&&◌, List, [], ◌∷◌, ◌++◌, map, Option, Some, None, is_some, ℤ, pos, ◌+ℤ◌, ◌-ℤ◌, refl, sym, ap, subst, ◌∙◌, arith, option_to_list, filter}
use Rattle.cf_base.proofs.Common.{list_any, AllByRecursion, ints}
use Rattle.cf_model.specs.Common.{Day, Act, Donate, Dispose, DebtPayment, Earn, Use, Mature, Entry, VoucherItem, VoucherState, Object, Bond, Due, coupon, next_due, document_year, year_of_day, is_capital, is_current, is_interest, is_principal, bonds_deeds, deeds_of, due_deeds, spent_item, state_refusal, Documents, Expenditure, documents_of, expenditure_of, expenditure_step, paid_after, expended_amount, year_at, spent_by, bill_at, due_year, payment_year, register_name_refusal, unknown_bond, unknown_payment, Registers, no_registers, registers_of, bond_at, draws, sums_of, account_name, charge_names, first_refusal, is_spending, name_refusal, unknown, unknown_account, unknown_if, voucher_names, Spending, bonds_spendings, due_spendings, spendings_by, spendings_in, Adds, IsLegal, int_sum}
use Rattle.cf_calls.specs.Common.{voucher_items}
use Rattle.cf_calls.specs.declared.acts.Act.TheVariants as act
use Rattle.cf_calls.specs.declared.acts.Period.TheVariants as period
use Rattle.cf_calls.specs.declared.names.NameKind.TheVariants as kind
use Rattle.cf_calls.specs.declared.refusal.Refusal.TheVariants as refusal
use Rattle.cf_calls.specs.declared.shown.VoucherState.TheVariants as voucher
use Rattle.cf_chart.specs.Common.{Plan, department_at, fund_at, line_of, object_at}
use Rattle.cf_model.proofs.Common.{accepted, bonds_named, first_refusal-append, or_else_none, legal_induction, legal_push, documents_are, registers_push, spendings_push, all_append, all_map, all_so, none_last, stepped_all, stepped_sum, sum_append, sum_filter, sum_map, sum_none}
use Rattle.cf_post.specs.declared.deed.Deed.TheVariants as deed
use Rattle.cf_model_articulation.specs.Comparison.{Compares}
use Rattle.cf_model_articulation.specs.OwnAccounts.{HasOwnAccounts}
use Rattle.cf_model_articulation.proofs.ComparisonDeeds.{expenditures_are, of_fund, to_spent}
use Rattle.cf_model_articulation.proofs.ComparisonLines.{HasLine, earned, other_part, spent_is, spent_part}
use Rattle.cf_model_articulation.proofs.DeedSums.{between_none, close_none, collect_none, deeds_in, deeds_push, dispose_none, pay_none, write_off_none}
use Rattle.cf_model_articulation.proofs.Named.{known_if}
use Rattle.cf_model_articulation.proofs.VoucherStates.{AreStates, DrawsVoucher, IsOpenOf, open_items, states_step}

-- ---- each account that is spent on has its line

known_line : (plan : Plan) (is_fit : Option Object → Bool) (year fund dept object : ℕ) → unknown_account plan is_fit year fund dept object ≡ None → is_some (line_of plan fund dept object year) ≡ true
known_line plan is_fit year fund dept object none =
    let first = or_else_none (unknown_if (not (is_some (fund_at plan fund))) kind.Fund fund) _ none in
    let second = or_else_none (unknown_if (not (is_some (department_at plan dept))) kind.Dept dept) _ first.1 in
    let third = or_else_none (unknown_if (not (is_fit (object_at plan object))) kind.Object object) _ second.1 in
    known_if (is_some (line_of plan fund dept object year)) (refusal.UnknownName kind.Line object) third.1

items_lined : (plan : Plan) (s : Documents) (year : ℕ) (items : List VoucherItem) → first_refusal (unknown plan s) (voucher_names year items) ≡ None →
    AllByRecursion (λ (i : VoucherItem). HasLine plan i.account year) items
items_lined plan s year [] none = tt
items_lined plan s year (i ∷ items) none =
    let here = or_else_none (unknown plan s (account_name year i.account)) (first_refusal (unknown plan s) (charge_names i.charge ++ voucher_names year items)) none in
    let rest = or_else_none (first_refusal (unknown plan s) (charge_names i.charge)) (first_refusal (unknown plan s) (voucher_names year items))
    (sym (first_refusal-append (unknown plan s) (charge_names i.charge) (voucher_names year items)) ∙ here.1) in
    (known_line plan is_spending year i.account.fund i.account.dept i.account.object here.0, items_lined plan s year items rest.1)

abbrev IsLined : Plan → Expenditure → Type 0
IsLined plan x = HasLine plan x.account x.year

abbrev IsLinedOther : Plan → Spending → Type 0
IsLinedOther plan x = HasLine plan x.account x.year

still_lined : (plan : Plan) (a : Act) (x : Expenditure) → IsLined plan x → IsLined plan (expenditure_step a x)
still_lined plan (act.VoidVoucher n) x known = by (x.voucher == n)
  where
    by : (b : Bool) → IsLined plan (if b then record x { state = voucher.Void } else x)
    by true = known
    by false = known
still_lined plan (act.Pay p) x known = by (list_any (λ n. n == x.voucher) p.vouchers)
  where
    by : (b : Bool) → IsLined plan (if b then record x { state = paid_after x.state } else x)
    by true = known
    by false = known
still_lined plan _ x known = known

new_lined : (plan : Plan) (s : Documents) (number desk : ℕ) (on : Day) (a : Act) → name_refusal plan s on a ≡ None →
    AllByRecursion (IsLined plan) (map (expenditure_of number desk on (document_year plan on a)) (voucher_items a))
new_lined plan s number desk on (act.Voucher v) none =
    let year = document_year plan on (act.Voucher v) in
    all_map (λ (i : VoucherItem). HasLine plan i.account year) (IsLined plan) (expenditure_of number desk on year) (λ i known. known) v.items (items_lined plan s year v.items none)
new_lined plan s number desk on _ none = tt

due_lined : (plan : Plan) (d : DebtPayment) (b : Bond) (o : Option Due) (year : ℕ) → unknown_payment plan (due_year plan year o) d ≡ None → AllByRecursion (IsLinedOther plan) (due_spendings plan d b o)
due_lined plan d b None year none = tt
due_lined plan d b (Some p) year none =
    let both = or_else_none (unknown_account plan is_principal (year_at plan p.month) d.fund d.dept d.principal) (unknown_account plan is_interest (year_at plan p.month) d.fund d.dept d.interest) none in
    (known_line plan is_principal (year_at plan p.month) d.fund d.dept d.principal both.0, (known_line plan is_interest (year_at plan p.month) d.fund d.dept d.interest both.1, tt))

payment_lined : (plan : Plan) (d : DebtPayment) (o : Option Bond) (year : ℕ) → unknown_payment plan (payment_year plan year o) d ≡ None → AllByRecursion (IsLinedOther plan) (bonds_spendings plan d (option_to_list o))
payment_lined plan d None year none = tt
payment_lined plan d (Some b) year none = all_append (IsLinedOther plan) (due_spendings plan d b (next_due b)) [] (due_lined plan d b (next_due b) year none) tt

others_lined : (plan : Plan) (h : List Entry) (on : Day) (a : Act) → IsLegal plan h → register_name_refusal plan (registers_of plan h) on a ≡ None →
    AllByRecursion (IsLinedOther plan) (spendings_by plan (registers_of plan h) on a)
others_lined plan h on (act.PayDue d) legal names =
    let s = registers_of plan h in
    subst (λ bonds. AllByRecursion (IsLinedOther plan) (bonds_spendings plan d bonds)) (sym (bonds_named plan h legal d.bond))
    (payment_lined plan d (bond_at d.bond s.bonds) (year_of_day plan on) (or_else_none (unknown_bond s.bonds d.bond) (unknown_payment plan (payment_year plan (year_of_day plan on) (bond_at d.bond s.bonds)) d) names).1)
others_lined plan h on (act.Leave (Mature l)) legal names = (known_line plan is_current (year_of_day plan on) l.fund l.dept l.object names, tt)
others_lined plan h on (act.Leave (Earn l)) legal names = tt
others_lined plan h on (act.Leave (Use l)) legal names = tt
others_lined plan h on (act.Lease l) legal names = (known_line plan is_capital (year_of_day plan on) l.account.fund l.account.dept l.account.object names, tt)
others_lined plan h on _ legal names = tt

-- ---- what an entry spends

-- what is taken back of an item by the void of a voucher
abbrev taken : ℕ → ℕ → ℕ → Expenditure → ℤ
taken year fund n x = if x.voucher == n then of_fund year fund x.year x.account.fund (pos 0 -ℤ pos x.account.amount) else pos 0

void_item : (year fund n : ℕ) (x : Expenditure) → IsOpenOf n x → spent_part year fund (expenditure_step (act.VoidVoucher n) x) ≡ spent_part year fund x +ℤ taken year fund n x
void_item year fund n x is = by (x.voucher == n) is
  where
    less : (t : Bool) (m k : ℕ) → m ≡ k → (if t then pos 0 else pos 0) ≡ (if t then pos m else pos 0) +ℤ (if t then pos 0 -ℤ pos k else pos 0)
    less true m k e = omega (arith, ints, e)
    less false m k e = refl

    by : (b : Bool) → (b ≡ true → x.state ≡ voucher.Open) →
        spent_part year fund (if b then record x { state = voucher.Void } else x) ≡ spent_part year fund x +ℤ (if b then of_fund year fund x.year x.account.fund (pos 0 -ℤ pos x.account.amount) else pos 0)
    by true is =
        less ((x.year == year) && (x.account.fund == fund)) (expended_amount x.state x.account.amount) x.account.amount (ap (λ s. expended_amount s x.account.amount) (is refl))
    by false is = sym (none_last (spent_part year fund x))

pay_item : (year fund : ℕ) (ns : List ℕ) (x : Expenditure) →
    spent_part year fund (if list_any (λ n. n == x.voucher) ns then record x { state = paid_after x.state } else x) ≡ spent_part year fund x +ℤ pos 0
pay_item year fund ns x = by (list_any (λ n. n == x.voucher) ns) ∙ sym (none_last (spent_part year fund x))
  where
    same : (s : VoucherState) (n : ℕ) → expended_amount (paid_after s) n ≡ expended_amount s n
    same voucher.Open n = refl
    same voucher.Paid n = refl
    same voucher.Void n = refl

    by : (b : Bool) → spent_part year fund (if b then record x { state = paid_after x.state } else x) ≡ spent_part year fund x
    by true = ap (λ m. if (x.year == year) && (x.account.fund == fund) then pos m else pos 0) (same x.state x.account.amount)
    by false = refl

due_same : (plan : Plan) (on : Day) (year fund : ℕ) (d : DebtPayment) (bonds : List Bond) →
    int_sum (other_part year fund) (bonds_spendings plan d bonds) ≡ int_sum (to_spent year fund) (bonds_deeds plan on d.fund bonds)
due_same plan on year fund d [] = refl
due_same plan on year fund d (b ∷ bonds) =
    sum_append (other_part year fund) (due_spendings plan d b (next_due b)) (bonds_spendings plan d bonds)
    ∙ (λ i. one (next_due b) i +ℤ due_same plan on year fund d bonds i)
    ∙ sym (sum_append (to_spent year fund) (due_deeds plan on d.fund b (next_due b)) (bonds_deeds plan on d.fund bonds))
  where
    grouped : (x y : ℤ) → x +ℤ (y +ℤ pos 0) ≡ (x +ℤ y) +ℤ pos 0
    grouped x y = omega (arith, ints)

    one : (o : Option Due) → int_sum (other_part year fund) (due_spendings plan d b o) ≡ int_sum (to_spent year fund) (due_deeds plan on d.fund b o)
    one None = refl
    one (Some p) = grouped (of_fund year fund (year_at plan p.month) d.fund (pos p.principal)) (of_fund year fund (year_at plan p.month) d.fund (pos (coupon b p)))

abbrev OpensVoid : Registers → Act → Type 0
OpensVoid s (act.VoidVoucher n) = AllByRecursion (IsOpenOf n) s.documents.expenditures
OpensVoid s _ = Unit {0}

-- no item changes, and what is spent beside them is what the deeds spend
kept_items : (w : Expenditure → ℤ) (xs : List Expenditure) (o t : ℤ) → o ≡ t → int_sum w (map (λ x. x) xs ++ []) +ℤ o ≡ int_sum w xs +ℤ t
kept_items w xs o t e =
    (λ i. (sum_append w (map (λ x. x) xs) [] ∙ ap (λ z. z +ℤ pos 0) (sum_map w (λ x. x) xs) ∙ none_last (int_sum w xs)) i +ℤ e i)

spent_step : (plan : Plan) (year fund : ℕ) (s : Registers) (number desk : ℕ) (on : Day) (a : Act) → OpensVoid s a →
    int_sum (spent_part year fund) (map (expenditure_step a) s.documents.expenditures ++ map (expenditure_of number desk on (document_year plan on a)) (voucher_items a))
    +ℤ int_sum (other_part year fund) (spendings_by plan s on a)
    ≡ int_sum (spent_part year fund) s.documents.expenditures +ℤ int_sum (to_spent year fund) (deeds_of plan s on a)
spent_step plan year fund s number desk on (act.Voucher v) ok =
    let from = document_year plan on (act.Voucher v) in
    let w = spent_part year fund in
    let xs = s.documents.expenditures in
    none_last _
    ∙ sum_append w (map (λ x. x) xs) (map (expenditure_of number desk on from) v.items)
    ∙ (λ i. sum_map w (λ x. x) xs i
    +ℤ (sum_map w (expenditure_of number desk on from) v.items ∙ sym (sum_map (to_spent year fund) (λ (i : VoucherItem). deed.Voucher (spent_item plan from i.account)) v.items)) i)
spent_step plan year fund s number desk on (act.VoidVoucher n) ok =
    let w = spent_part year fund in
    let xs = s.documents.expenditures in
    none_last _
    ∙ stepped_all w w (expenditure_step (act.VoidVoucher n)) (taken year fund n) xs []
    (all_so (IsOpenOf n) (λ x. w (expenditure_step (act.VoidVoucher n) x) ≡ w x +ℤ taken year fund n x) (void_item year fund n) xs ok)
    ∙ ap (λ z. int_sum w xs +ℤ z)
    (none_last _
    ∙ sym
    (sum_map (to_spent year fund) (λ (x : Expenditure). deed.VoidVoucher (spent_item plan x.year x.account)) (spent_by n xs)
    ∙ sum_filter (λ (x : Expenditure). to_spent year fund (deed.VoidVoucher (spent_item plan x.year x.account))) (λ x. x.voucher == n) xs))
spent_step plan year fund s number desk on (act.Pay p) ok =
    let w = spent_part year fund in
    let xs = s.documents.expenditures in
    none_last _
    ∙ stepped_sum w w (expenditure_step (act.Pay p)) (λ x. pos 0) (pay_item year fund p.vouchers) xs []
    ∙ ap (λ z. int_sum w xs +ℤ z) (none_last _ ∙ sum_none (λ (x : Expenditure). pos 0) (λ x. refl) xs ∙ sym (pay_none (to_spent year fund) (λ x. refl) (year_of_day plan on) xs p.vouchers))
spent_step plan year fund s number desk on (act.Collect c) ok =
    kept_items (spent_part year fund) s.documents.expenditures (pos 0) _ (sym (collect_none (to_spent year fund) (λ x. refl) plan on c (bill_at c.bill s.receivables.bills)))
spent_step plan year fund s number desk on (act.WriteOff w) ok =
    kept_items (spent_part year fund) s.documents.expenditures (pos 0) _ (sym (write_off_none (to_spent year fund) (λ x. refl) plan on w (bill_at w.bill s.receivables.bills)))
spent_step plan year fund s number desk on (act.Asset (Donate d)) ok = kept_items (spent_part year fund) s.documents.expenditures (pos 0) (pos 0) refl
spent_step plan year fund s number desk on (act.Asset (Dispose d)) ok =
    kept_items (spent_part year fund) s.documents.expenditures (pos 0) _ (sym (dispose_none (to_spent year fund) (λ x. refl) plan s.closed on d s.assets))
spent_step plan year fund s number desk on (act.PayDue p) ok =
    kept_items (spent_part year fund) s.documents.expenditures _ _ (due_same plan on year fund p (filter (λ b. b.number == p.bond) s.bonds))
spent_step plan year fund s number desk on (act.Leave (Earn l)) ok = kept_items (spent_part year fund) s.documents.expenditures (pos 0) (pos 0) refl
spent_step plan year fund s number desk on (act.Leave (Use l)) ok = kept_items (spent_part year fund) s.documents.expenditures (pos 0) (pos 0) refl
spent_step plan year fund s number desk on (act.Leave (Mature l)) ok = kept_items (spent_part year fund) s.documents.expenditures _ _ refl
spent_step plan year fund s number desk on (act.Interfund m) ok =
    kept_items (spent_part year fund) s.documents.expenditures (pos 0) _ (sym (between_none (to_spent year fund) (λ x. refl) (λ x. refl) (λ x. refl) m.what _))
spent_step plan year fund s number desk on (act.Close (period.Month m)) ok =
    kept_items (spent_part year fund) s.documents.expenditures (pos 0) _ (sym (close_none (to_spent year fund) plan s (λ x. refl) (λ x. refl)))
spent_step plan year fund s number desk on (act.Close (period.Year y)) ok = kept_items (spent_part year fund) s.documents.expenditures (pos 0) (pos 0) refl
spent_step plan year fund s number desk on (act.Lease l) ok = kept_items (spent_part year fund) s.documents.expenditures _ _ refl
spent_step plan year fund s number desk on _ ok = kept_items (spent_part year fund) s.documents.expenditures (pos 0) (pos 0) refl

-- ---- legal histories

record AreSpent (plan : Plan) (h : List Entry) : Type 0 where
  legal : IsLegal plan h
  vouchers : AllByRecursion (IsLined plan) (registers_of plan h).documents.expenditures
  others : AllByRecursion (IsLinedOther plan) (spendings_in plan h)
  states : AreStates (registers_of plan h).documents.expenditures (registers_of plan h).documents.vouchers
  spent : (year fund : ℕ) →
      int_sum (to_spent year fund) (deeds_in plan h)
      ≡ int_sum (spent_part year fund) (registers_of plan h).documents.expenditures +ℤ int_sum (other_part year fund) (spendings_in plan h)

pub draws_voucher_next : (s : Registers) (a : Act) (number : ℕ) → number ≡ (draws s a).number → DrawsVoucher s.documents.vouchers number a
draws_voucher_next s (act.Voucher v) number e = e
draws_voucher_next s _ number e = tt

opens_void : (plan : Plan) (s : Registers) (on : Day) → AreStates s.documents.expenditures s.documents.vouchers → (a : Act) → state_refusal plan s.documents on a ≡ None → OpensVoid s a
opens_void plan s on is (act.VoidVoucher n) rule = open_items s.documents.expenditures s.documents.vouchers n is rule
opens_void plan s on is _ rule = tt

spent_push : (plan : Plan) (h : List Entry) (e : Entry) → AreSpent plan h → Adds plan h e → AreSpent plan (h ++ e ∷ [])
spent_push plan h e is adds =
    let a = accepted plan h e adds in
    let s = registers_of plan h in
    let d = documents_of plan h in
    let act = e.change.act in
    let on = e.change.on in
    let same = sym (registers_push plan no_registers h e) in
    let rule : state_refusal plan s.documents on act ≡ None = subst (λ x. state_refusal plan x on act ≡ None) (sym (documents_are plan h)) a.states in
    record {
      legal = legal_push plan h e is.legal adds;
      vouchers =
          subst (λ (r : Registers). AllByRecursion (IsLined plan) r.documents.expenditures) same
          (all_append (IsLined plan) (map (expenditure_step act) s.documents.expenditures) _
          (all_map (IsLined plan) (IsLined plan) (expenditure_step act) (still_lined plan act) s.documents.expenditures is.vouchers)
          (new_lined plan d e.drawn.number e.change.desk on act a.names));
      others =
          subst (AllByRecursion (IsLinedOther plan)) (sym (spendings_push plan h e))
          (all_append (IsLinedOther plan) (spendings_in plan h) (spendings_by plan s on act) is.others (others_lined plan h on act is.legal a.register_names));
      states =
          subst (λ (r : Registers). AreStates r.documents.expenditures r.documents.vouchers) same
          (states_step s.documents.expenditures s.documents.vouchers e.drawn.number e.change.desk on (document_year plan on act) is.states act
          (draws_voucher_next s act e.drawn.number (ap (λ (x : Entry). x.drawn.number) a.entry)));
      spent = λ year fund.
          deeds_push (to_spent year fund) plan h e
          ∙ ap (λ z. z +ℤ int_sum (to_spent year fund) (deeds_of plan s on act)) (is.spent year fund)
          ∙ joined (int_sum (spent_part year fund) s.documents.expenditures) (int_sum (other_part year fund) (spendings_in plan h)) (int_sum (to_spent year fund) (deeds_of plan s on act)) _ _
          (spent_step plan year fund s e.drawn.number e.change.desk on act (opens_void plan s on is.states act rule))
          ∙ (λ i. int_sum (spent_part year fund) (same i).documents.expenditures
          +ℤ sym (ap (int_sum (other_part year fund)) (spendings_push plan h e) ∙ sum_append (other_part year fund) (spendings_in plan h) (spendings_by plan s on act)) i);
    }
  where
    joined : (x o t x2 o2 : ℤ) → x2 +ℤ o2 ≡ x +ℤ t → (x +ℤ o) +ℤ t ≡ x2 +ℤ (o +ℤ o2)
    joined x o t x2 o2 e = omega (arith, ints, e)

are_spent : (plan : Plan) (h : List Entry) → IsLegal plan h → AreSpent plan h
are_spent plan h legal =
    legal_induction plan (AreSpent plan) (record { legal = tt; vouchers = tt; others = tt; states = record { of = λ n. voucher.Open; each = tt }; spent = λ year fund. refl }) (spent_push plan) h legal

pub compares : (plan : Plan) (h : List Entry) (year : ℕ) → HasOwnAccounts plan → IsLegal plan h → Compares plan h year
compares plan h year own legal =
    let is = are_spent plan h legal in
    record {
      earned = λ fund. earned (sums_of plan h) year fund.id plan.sources;
      spent = λ first fund.
          spent_is plan h year fund.id (subst (λ (d : Documents). AllByRecursion (IsLined plan) d.expenditures) (documents_are plan h) is.vouchers) is.others
          ∙ ap (λ (d : Documents). int_sum (spent_part year fund.id) d.expenditures +ℤ int_sum (other_part year fund.id) (spendings_in plan h)) (sym (documents_are plan h))
          ∙ sym (is.spent year fund.id)
          ∙ sym (expenditures_are plan year fund.id h own legal first);
    }
