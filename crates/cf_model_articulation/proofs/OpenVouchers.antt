-- What is open of vouchers is what their funds' vouchers payable have.
use Rattle.std.proofs.Common.{◌≡◌, ℕ, ◌+◌, ◌≤◌, Bool, true, false, not, if◌then◌else◌, ◌==◌, ◌&&◌, ◌||◌, List, [], ◌∷◌, ◌++◌, map, Option, Some, None, ℤ, pos, ◌+ℤ◌, ◌-ℤ◌, refl, sym, ap, subst, ◌∙◌, arith, filter}
use Rattle.cf_base.proofs.Common.{list_any, AllByRecursion, common_steps, ints}
use Rattle.cf_model.specs.Common.{Day, Act, Donate, Dispose, Earn, Use, Mature, Entry, VoucherItem, VoucherState, document_year, year_of_day, deeds_of, pay_deed, pay_items, spent_item, not_open_voucher, paid_state, state_refusal, voided_state, Documents, Expenditure, expenditure_of, expenditure_step, paid_after, voucher_at, spent_by, posts_in, bill_at, Registers, no_registers, registers_of, first_refusal, Adds, IsLegal, int_sum}
use Rattle.cf_calls.specs.Common.{voucher_items, IsActInForm, is_distinct, same_number}
use Rattle.cf_calls.specs.declared.acts.Act.TheVariants as act
use Rattle.cf_calls.specs.declared.acts.Period.TheVariants as period
use Rattle.cf_calls.specs.declared.read.Basis.TheVariants.{Fund as FundBasis}
use Rattle.cf_calls.specs.declared.shown.VoucherState.TheVariants as voucher
use Rattle.cf_chart.specs.Common.{Plan}
use Rattle.cf_ledger.specs.declared.post.Post.{Post}
use Rattle.cf_ledger.specs.Posts.{is_of, sum_where}
use Rattle.cf_model.proofs.Common.{accepted, or_else_none, legal_induction, documents_are, registers_push, both, not_true, all_so, none_first, none_last, stepped_all, sum_append, sum_filter, sum_map, sum_negated, sum_none, sum_plus, sum_same}
use Rattle.cf_post.specs.declared.deed.Deed.{Deed}
use Rattle.cf_post.specs.declared.deed.Deed.TheVariants as deed
use Rattle.cf_post.specs.declared.deed.Spent.{Spent}
use Rattle.cf_post.specs.declared.deed.Spent.TheVariants as spent
use Rattle.cf_post.specs.Table.{expenditure, fund_rows}
use Rattle.cf_model_articulation.specs.OpenVouchers.{VouchersAreOwed, open_amount, open_part}
use Rattle.cf_model_articulation.proofs.Closing.{same_sum}
use Rattle.cf_model_articulation.proofs.Comparison.{draws_voucher_next}
use Rattle.cf_model_articulation.proofs.Counts.{number_is}
use Rattle.cf_model_articulation.proofs.DeedSums.{between_none, close_none, collect_none, deeds_in, deeds_push, dispose_none, dues_none, posted, write_off_none}
use Rattle.cf_model_articulation.proofs.ItemDeeds.{owes, pays, skip}
use Rattle.cf_model_articulation.proofs.VoucherStates.{AreStates, IsOpenOf, open_items, states_step}

-- ---- what a deed adds to what a fund owes on vouchers, and posts there

abbrev of_fund : ℕ → ℕ → ℤ → ℤ
of_fund fund by amount = if by == fund then amount else pos 0

abbrev to_owed : ℕ → Deed → ℤ
to_owed fund (deed.Voucher i) = of_fund fund i.fund (pos i.amount)
to_owed fund (deed.VoidVoucher i) = of_fund fund i.fund (pos 0 -ℤ pos i.amount)
to_owed fund (deed.Pay a) = of_fund fund a.fund (pos 0 -ℤ pos a.amount)
to_owed fund _ = pos 0

abbrev owed_at : ℕ → Post → Bool
owed_at fund p = (p.account == 200000) && (p.fund == fund)

high : (a : ℕ) → 300000 ≤ a → a ≡ 200000 → ⊥
high a l e = omega (arith, l, e)

spends : (s : Spent) → 300000 ≤ expenditure s
spends (spent.Current function) = omega arith
spends spent.Capital = omega arith

owed_on : (fund : ℕ) (d : Deed) → sum_where (owed_at fund) (fund_rows d) ≡ pos 0 -ℤ to_owed fund d
owed_on fund (deed.Voucher i) =
    skip (expenditure i.spent) 200000 (i.fund == fund) (pos i.amount) _ (high (expenditure i.spent) (spends i.spent)) ∙ owes (i.fund == fund) i.amount
owed_on fund (deed.VoidVoucher i) =
    skip (expenditure i.spent) 200000 (i.fund == fund) (pos 0 -ℤ pos i.amount) _ (high (expenditure i.spent) (spends i.spent)) ∙ pays (i.fund == fund) i.amount
owed_on fund (deed.Pay a) = pays (a.fund == fund) a.amount
owed_on fund (deed.Collect c) =
    ap (λ z. pos 0 +ℤ (pos 0 +ℤ (pos 0 +ℤ z))) (skip (400000 + c.source) 200000 (c.fund == fund) (pos 0 -ℤ pos c.amount) (pos 0) (high (400000 + c.source) (omega arith)))
owed_on fund (deed.Receive s) = ap (λ z. pos 0 +ℤ z) (skip (400000 + s.source) 200000 (s.fund == fund) (pos 0 -ℤ pos s.amount) (pos 0) (high (400000 + s.source) (omega arith)))
owed_on fund (deed.MatureLeave m) = skip (500000 + m.function) 200000 (m.fund == fund) (pos m.amount) (pos 0) (high (500000 + m.function) (omega arith))
owed_on fund _ = refl

-- ---- a void, and a payment

abbrev voided : ℕ → ℕ → Expenditure → ℤ
voided fund n x = if x.voucher == n then of_fund fund x.account.fund (pos 0 -ℤ pos x.account.amount) else pos 0

-- what is open of an item that was, and is no more
less : (t : Bool) (m k : ℕ) → m ≡ k → (if t then pos 0 else pos 0) ≡ (if t then pos m else pos 0) +ℤ (if t then pos 0 -ℤ pos k else pos 0)
less true m k e = omega (arith, ints, e)
less false m k e = refl

all_open : (s : VoucherState) (m : ℕ) → s ≡ voucher.Open → open_amount s m ≡ m
all_open voucher.Open m e = refl
all_open voucher.Paid m e = cc
all_open voucher.Void m e = cc

void_item : (fund n : ℕ) (x : Expenditure) → IsOpenOf n x → open_part fund (expenditure_step (act.VoidVoucher n) x) ≡ open_part fund x +ℤ voided fund n x
void_item fund n x is = by (x.voucher == n) is
  where
    by : (b : Bool) → (b ≡ true → x.state ≡ voucher.Open) →
        open_part fund (if b then record x { state = voucher.Void } else x) ≡ open_part fund x +ℤ (if b then of_fund fund x.account.fund (pos 0 -ℤ pos x.account.amount) else pos 0)
    by true is = less (x.account.fund == fund) (open_amount x.state x.account.amount) x.account.amount (all_open x.state x.account.amount (is refl))
    by false is = sym (none_last (open_part fund x))

abbrev among : List ℕ → Expenditure → Bool
among ns x = list_any (λ n. n == x.voucher) ns

abbrev paid_part : ℕ → List ℕ → Expenditure → ℤ
paid_part fund ns x = if among ns x then of_fund fund x.account.fund (pos 0 -ℤ pos x.account.amount) else pos 0

abbrev IsPayable : List ℕ → Expenditure → Type 0
IsPayable ns x = among ns x ≡ true → x.state ≡ voucher.Open

pay_item : (fund : ℕ) (ns : List ℕ) (x : Expenditure) → IsPayable ns x →
    open_part fund (if among ns x then record x { state = paid_after x.state } else x) ≡ open_part fund x +ℤ paid_part fund ns x
pay_item fund ns x is = by (among ns x) is
  where
    none : (s : VoucherState) (m : ℕ) → open_amount (paid_after s) m ≡ 0
    none voucher.Open m = refl
    none voucher.Paid m = refl
    none voucher.Void m = refl

    by : (b : Bool) → (b ≡ true → x.state ≡ voucher.Open) →
        open_part fund (if b then record x { state = paid_after x.state } else x) ≡ open_part fund x +ℤ (if b then of_fund fund x.account.fund (pos 0 -ℤ pos x.account.amount) else pos 0)
    by true is =
        ap (λ m. if x.account.fund == fund then pos m else pos 0) (none x.state x.account.amount)
        ∙ less (x.account.fund == fund) (open_amount x.state x.account.amount) x.account.amount (all_open x.state x.account.amount (is refl))
    by false is = sym (none_last (open_part fund x))

-- each voucher is paid once
turned : (m n : ℕ) → (m == n) ≡ (n == m)
turned m n = grind (arith, common_steps)

one_of : (n : ℕ) (ns : List ℕ) → list_any (same_number n) ns ≡ false → (v : ℕ) → (v == n) ≡ true → list_any (λ m. m == v) ns ≡ false
one_of n [] e v is = refl
one_of n (m ∷ ns) e v is = by (n == m) (list_any (same_number n) ns) refl e (one_of n ns)
  where
    by : (a b : Bool) → (n == m) ≡ a → (a || b) ≡ false → (b ≡ false → (v : ℕ) → (v == n) ≡ true → list_any (λ m. m == v) ns ≡ false) → ((m == v) || list_any (λ m. m == v) ns) ≡ false
    by true b at e more = cc
    by false b at e more = λ i. (ap (λ k. m == k) (number_is v n is) ∙ turned m n ∙ at) i || more e v is i

paid_sum : (fund year : ℕ) (xs : List Expenditure) (ns : List ℕ) → is_distinct same_number ns ≡ true → int_sum (to_owed fund) (pay_items year xs ns) ≡ int_sum (paid_part fund ns) xs
paid_sum fund year xs [] distinct = sym (sum_none (λ (x : Expenditure). pos 0) (λ x. refl) xs)
paid_sum fund year xs (n ∷ ns) distinct =
    let first = both (not (list_any (same_number n) ns)) (is_distinct same_number ns) distinct in
    sum_append (to_owed fund) (map (pay_deed year) (spent_by n xs)) (pay_items year xs ns)
    ∙ (λ i. (sum_map (to_owed fund) (pay_deed year) (spent_by n xs) ∙ sum_filter (λ x. to_owed fund (pay_deed year x)) (λ x. x.voucher == n) xs) i +ℤ paid_sum fund year xs ns first.1 i)
    ∙ sym (sum_plus (voided fund n) (paid_part fund ns) xs)
    ∙ sum_same (λ x. voided fund n x +ℤ paid_part fund ns x) (paid_part fund (n ∷ ns)) (one (not_true (list_any (same_number n) ns) first.0)) xs
  where
    one : list_any (same_number n) ns ≡ false → (x : Expenditure) → voided fund n x +ℤ paid_part fund ns x ≡ paid_part fund (n ∷ ns) x
    one none x =
        by (x.voucher == n) (among ns x) (of_fund fund x.account.fund (pos 0 -ℤ pos x.account.amount)) (one_of n ns none x.voucher)
        ∙ ap (λ t. if t || among ns x then of_fund fund x.account.fund (pos 0 -ℤ pos x.account.amount) else pos 0) (turned x.voucher n)
      where
        by : (p q : Bool) (z : ℤ) → (p ≡ true → q ≡ false) → (if p then z else pos 0) +ℤ (if q then z else pos 0) ≡ (if p || q then z else pos 0)
        by true true z e = absurd (differ (e refl))
          where
            differ : true ≡ false → ⊥
            differ e = cc
        by true false z e = none_last z
        by false q z e = none_first _

-- ---- each act

abbrev Pays : Registers → Act → Type 0
Pays s (act.VoidVoucher n) = AllByRecursion (IsOpenOf n) s.documents.expenditures
Pays s (act.Pay p) = AllByRecursion (IsPayable p.vouchers) s.documents.expenditures × (is_distinct same_number p.vouchers ≡ true)
Pays s _ = Unit {0}

kept_items : (f : Expenditure → ℤ) (xs : List Expenditure) (t : ℤ) → t ≡ pos 0 → int_sum f (map (λ x. x) xs ++ []) ≡ int_sum f xs +ℤ t
kept_items f xs t e = sum_append f (map (λ x. x) xs) [] ∙ (λ i. sum_map f (λ x. x) xs i +ℤ sym e i)

owed_step : (plan : Plan) (fund : ℕ) (s : Registers) (number desk : ℕ) (on : Day) (a : Act) → Pays s a →
    int_sum (open_part fund) (map (expenditure_step a) s.documents.expenditures ++ map (expenditure_of number desk on (document_year plan on a)) (voucher_items a))
    ≡ int_sum (open_part fund) s.documents.expenditures +ℤ int_sum (to_owed fund) (deeds_of plan s on a)
owed_step plan fund s number desk on (act.Voucher v) ok =
    let from = document_year plan on (act.Voucher v) in
    let f = open_part fund in
    let xs = s.documents.expenditures in
    sum_append f (map (λ x. x) xs) (map (expenditure_of number desk on from) v.items)
    ∙ (λ i. sum_map f (λ x. x) xs i
    +ℤ (sum_map f (expenditure_of number desk on from) v.items ∙ sym (sum_map (to_owed fund) (λ (i : VoucherItem). deed.Voucher (spent_item plan from i.account)) v.items)) i)
owed_step plan fund s number desk on (act.VoidVoucher n) ok =
    let f = open_part fund in
    let xs = s.documents.expenditures in
    stepped_all f f (expenditure_step (act.VoidVoucher n)) (voided fund n) xs []
    (all_so (IsOpenOf n) (λ x. f (expenditure_step (act.VoidVoucher n) x) ≡ f x +ℤ voided fund n x) (void_item fund n) xs ok)
    ∙ ap (λ z. int_sum f xs +ℤ z)
    (none_last _
    ∙ sym
    (sum_map (to_owed fund) (λ (x : Expenditure). deed.VoidVoucher (spent_item plan x.year x.account)) (spent_by n xs)
    ∙ sum_filter (λ (x : Expenditure). to_owed fund (deed.VoidVoucher (spent_item plan x.year x.account))) (λ x. x.voucher == n) xs))
owed_step plan fund s number desk on (act.Pay p) ok =
    let f = open_part fund in
    let xs = s.documents.expenditures in
    stepped_all f f (expenditure_step (act.Pay p)) (paid_part fund p.vouchers) xs []
    (all_so (IsPayable p.vouchers) (λ x. f (expenditure_step (act.Pay p) x) ≡ f x +ℤ paid_part fund p.vouchers x) (pay_item fund p.vouchers) xs ok.0)
    ∙ ap (λ z. int_sum f xs +ℤ z) (none_last _ ∙ sym (paid_sum fund (year_of_day plan on) xs p.vouchers ok.1))
owed_step plan fund s number desk on (act.Collect c) ok = kept_items (open_part fund) s.documents.expenditures _ (collect_none (to_owed fund) (λ x. refl) plan on c (bill_at c.bill s.receivables.bills))
owed_step plan fund s number desk on (act.WriteOff w) ok = kept_items (open_part fund) s.documents.expenditures _ (write_off_none (to_owed fund) (λ x. refl) plan on w (bill_at w.bill s.receivables.bills))
owed_step plan fund s number desk on (act.Asset (Donate d)) ok = kept_items (open_part fund) s.documents.expenditures (pos 0) refl
owed_step plan fund s number desk on (act.Asset (Dispose d)) ok = kept_items (open_part fund) s.documents.expenditures _ (dispose_none (to_owed fund) (λ x. refl) plan s.closed on d s.assets)
owed_step plan fund s number desk on (act.PayDue p) ok =
    kept_items (open_part fund) s.documents.expenditures _ (dues_none (to_owed fund) (λ x. refl) plan on p.fund (filter (λ b. b.number == p.bond) s.bonds))
owed_step plan fund s number desk on (act.Leave (Earn l)) ok = kept_items (open_part fund) s.documents.expenditures (pos 0) refl
owed_step plan fund s number desk on (act.Leave (Use l)) ok = kept_items (open_part fund) s.documents.expenditures (pos 0) refl
owed_step plan fund s number desk on (act.Leave (Mature l)) ok = kept_items (open_part fund) s.documents.expenditures (pos 0) refl
owed_step plan fund s number desk on (act.Interfund m) ok =
    kept_items (open_part fund) s.documents.expenditures _ (between_none (to_owed fund) (λ x. refl) (λ x. refl) (λ x. refl) m.what _)
owed_step plan fund s number desk on (act.Close (period.Month m)) ok =
    kept_items (open_part fund) s.documents.expenditures _ (close_none (to_owed fund) plan s (λ x. refl) (λ x. refl))
owed_step plan fund s number desk on (act.Close (period.Year y)) ok = kept_items (open_part fund) s.documents.expenditures (pos 0) refl
owed_step plan fund s number desk on _ ok = kept_items (open_part fund) s.documents.expenditures (pos 0) refl

-- ---- legal histories

record AreOwed (plan : Plan) (h : List Entry) : Type 0 where
  states : AreStates (registers_of plan h).documents.expenditures (registers_of plan h).documents.vouchers
  owed : (fund : ℕ) → int_sum (to_owed fund) (deeds_in plan h) ≡ int_sum (open_part fund) (registers_of plan h).documents.expenditures

-- a voucher that is paid may be voided, too: it is open
as_voided : (on : Day) (n : ℕ) (o : Option Expenditure) → paid_state on n o ≡ None → voided_state n o ≡ None
as_voided on n None e = refl
as_voided on n (Some x) e = (or_else_none (not_open_voucher n x.state) _ e).0

payable : (on : Day) (xs : List Expenditure) (count : ℕ) → AreStates xs count → (ns : List ℕ) → first_refusal (λ n. paid_state on n (voucher_at n xs)) ns ≡ None → AllByRecursion (IsPayable ns) xs
payable on xs count is [] rule = none xs
  where
    none : (xs : List Expenditure) → AllByRecursion (IsPayable []) xs
    none [] = tt
    none (x ∷ xs) = ((λ e. cc), none xs)
payable on xs count is (n ∷ ns) rule =
    let rules = or_else_none (paid_state on n (voucher_at n xs)) (first_refusal (λ n. paid_state on n (voucher_at n xs)) ns) rule in
    joined xs (open_items xs count n is (as_voided on n (voucher_at n xs) rules.0)) (payable on xs count is ns rules.1)
  where
    joined : (ys : List Expenditure) → AllByRecursion (IsOpenOf n) ys → AllByRecursion (IsPayable ns) ys → AllByRecursion (IsPayable (n ∷ ns)) ys
    joined [] a b = tt
    joined (x ∷ ys) a b = (by (n == x.voucher) refl, joined ys a.1 b.1)
      where
        by : (t : Bool) → (n == x.voucher) ≡ t → (t || among ns x) ≡ true → x.state ≡ voucher.Open
        by true at e = a.0 (turned x.voucher n ∙ at)
        by false at e = b.0 e

pays_now : (plan : Plan) (s : Registers) (on : Day) → AreStates s.documents.expenditures s.documents.vouchers → (a : Act) → IsActInForm on a → state_refusal plan s.documents on a ≡ None → Pays s a
pays_now plan s on is (act.VoidVoucher n) form rule = open_items s.documents.expenditures s.documents.vouchers n is rule
pays_now plan s on is (act.Pay p) form rule = (payable on s.documents.expenditures s.documents.vouchers is p.vouchers rule, form.1)
pays_now plan s on is _ form rule = tt

owed_push : (plan : Plan) (h : List Entry) (e : Entry) → AreOwed plan h → Adds plan h e → AreOwed plan (h ++ e ∷ [])
owed_push plan h e is adds =
    let a = accepted plan h e adds in
    let s = registers_of plan h in
    let act = e.change.act in
    let on = e.change.on in
    let same = sym (registers_push plan no_registers h e) in
    let rule : state_refusal plan s.documents on act ≡ None = subst (λ x. state_refusal plan x on act ≡ None) (sym (documents_are plan h)) a.states in
    record {
      states =
          subst (λ (r : Registers). AreStates r.documents.expenditures r.documents.vouchers) same
          (states_step s.documents.expenditures s.documents.vouchers e.drawn.number e.change.desk on (document_year plan on act) is.states act
          (draws_voucher_next s act e.drawn.number (ap (λ (x : Entry). x.drawn.number) a.entry)));
      owed = λ fund.
          deeds_push (to_owed fund) plan h e
          ∙ ap (λ z. z +ℤ int_sum (to_owed fund) (deeds_of plan s on act)) (is.owed fund)
          ∙ sym (owed_step plan fund s e.drawn.number e.change.desk on act (pays_now plan s on is.states act adds.form.act rule))
          ∙ ap (λ (r : Registers). int_sum (open_part fund) r.documents.expenditures) same;
    }

pub vouchers_are : (plan : Plan) (h : List Entry) → IsLegal plan h → VouchersAreOwed plan h
vouchers_are plan h legal fund =
    let is = legal_induction plan (AreOwed plan) (record { states = record { of = λ n. voucher.Open; each = tt }; owed = λ fund. refl }) (owed_push plan) h legal in
    same_sum (λ p. is_of fund 200000 p) (owed_at fund) (λ p. swapped (p.fund == fund) (p.account == 200000)) (posts_in FundBasis plan h)
    ∙ posted FundBasis (owed_at fund) plan h
    ∙ sum_same (λ d. sum_where (owed_at fund) (fund_rows d)) (λ d. pos 0 -ℤ to_owed fund d) (owed_on fund) (deeds_in plan h)
    ∙ sum_negated (to_owed fund) (deeds_in plan h)
    ∙ ap (λ z. pos 0 -ℤ z) (is.owed fund ∙ ap (λ (d : Documents). int_sum (open_part fund) d.expenditures) (documents_are plan h))
  where
    swapped : (a b : Bool) → (a && b) ≡ (b && a)
    swapped true true = refl
    swapped true false = refl
    swapped false true = refl
    swapped false false = refl
