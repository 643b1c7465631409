-- The numbers of bills, orders and vouchers: each is drawn by one entry. The items of a voucher
-- have one state, and those of an order have lines.
use Rattle.std.proofs.Common.{◌≡◌, ℕ, zero, ◌+◌, ◌≤◌, Bool, true, false, eq-eqb, ne_eqb, not, if◌then◌else◌, ◌==◌, ◌&&◌, ◌||◌, List, [], ◌∷◌, ◌++◌, map, length, None, is_some, refl, sym, ap, subst, ◌∙◌, arith}
use Rattle.cf_base.proofs.Common.{list_any, AllByRecursion, common_steps, length-append, sum_by_push}
use Rattle.cf_model.specs.Common.{Day, Act, Entry, AccountItem, VoucherState, document_year, rolls, Documents, Expenditure, draws_order, draws_voucher, expenditure_of, expenditure_step, is_drawn, paid_after, OrderItem, has_line, is_live, item_step, items_by, items_from, lapsed, lapses, may_carry, carries_fund, open_of, rolled, bills_by, Registers, no_registers, registers_of, registers_step, draws, account_name, first_refusal, is_spending, name_refusal, requisition_names, unknown, unknown_if, Adds, IsLegal}
use Rattle.cf_calls.specs.Common.{voucher_items}
use Rattle.cf_calls.specs.declared.acts.Act.TheVariants as act
use Rattle.cf_calls.specs.declared.names.NameKind.TheVariants as kind
use Rattle.cf_calls.specs.declared.shown.VoucherState.TheVariants as voucher
use Rattle.cf_chart.specs.Common.{Plan, department_at, fund_at, line_of, object_at}
use Rattle.cf_model.specs.Receivables.{Bill}
use Rattle.cf_model.proofs.Common.{accepted, first_refusal-append, or_else_none, legal_induction, documents_are, registers_push, all_append, all_map, all_new, IsSameItem, step_place, step_same, passing}

-- ---- each number is drawn by one entry

abbrev pub is_order : Act → Bool
is_order (act.Order o) = true
is_order _ = false

abbrev pub is_voucher : Act → Bool
is_voucher (act.Voucher v) = true
is_voucher _ = false

abbrev pub is_bill : Act → Bool
is_bill (act.Bill l) = true
is_bill _ = false

-- whether an entry drew this number of a kind
abbrev pub drew : (Act → Bool) → ℕ → Entry → Bool
drew kind n e = kind e.change.act && (n == e.drawn.number)

abbrev pub AreDrawn : (Act → Bool) → ℕ → List Entry → Type 0
AreDrawn kind count h = (n : ℕ) → passing (drew kind n) h ≡ (if is_drawn count n then 1 else 0)

no_more : (n : ℕ) → n + 0 ≡ n
no_more n = omega arith

none_drawn : (n : ℕ) → (if is_drawn 0 n then 1 else 0) ≡ zero
none_drawn n = grind (arith, common_steps)

one_more : (number count n : ℕ) → number ≡ count + 1 → (if is_drawn count n then 1 else 0) + (if n == number then 1 else 0) ≡ (if is_drawn (count + 1) n then 1 else 0)
one_more number count n e = grind (arith, common_steps)

drawn_push : (kind : Act → Bool) (count : ℕ) (h : List Entry) (e : Entry) → AreDrawn kind count h → (kind e.change.act ≡ true → e.drawn.number ≡ count + 1) →
    AreDrawn kind (count + (if kind e.change.act then 1 else 0)) (h ++ e ∷ [])
drawn_push kind count h e is next n =
    sum_by_push (λ (x : Entry). if drew kind n x then 1 else 0) h e ∙ ap (λ m. m + (if drew kind n e then 1 else 0)) (is n) ∙ by (kind e.change.act) next
  where
    by : (b : Bool) → (b ≡ true → e.drawn.number ≡ count + 1) →
        (if is_drawn count n then 1 else 0) + (if b && (n == e.drawn.number) then 1 else 0) ≡ (if is_drawn (count + (if b then 1 else 0)) n then 1 else 0)
    by true next = one_more e.drawn.number count n (next refl)
    by false next = no_more (if is_drawn count n then 1 else 0) ∙ ap (λ m. if is_drawn m n then 1 else 0) (sym (no_more count))

abbrev counted : Bool → ℕ
counted b = if b then 1 else 0

-- a number that was drawn
abbrev pub IsWithin : ℕ → ℕ → Type 0
IsWithin count n = (1 ≤ n) × (n ≤ count)

pub drawn_one : (kind : Act → Bool) (count : ℕ) (h : List Entry) (n : ℕ) → AreDrawn kind count h → IsWithin count n → passing (drew kind n) h ≡ 1
drawn_one kind count h n is within = is n ∙ one count n within.0 within.1
  where
    one : (count n : ℕ) → 1 ≤ n → n ≤ count → counted (is_drawn count n) ≡ 1
    one count n from to = grind (arith, common_steps)

-- ---- what each entry draws

next_order : (s : Registers) (a : Act) → is_order a ≡ true → (draws s a).number ≡ s.documents.orders + 1
next_order s (act.Order o) e = refl
next_order s _ e = cc

next_voucher : (s : Registers) (a : Act) → is_voucher a ≡ true → (draws s a).number ≡ s.documents.vouchers + 1
next_voucher s (act.Voucher v) e = refl
next_voucher s _ e = cc

next_bill : (s : Registers) (a : Act) → is_bill a ≡ true → (draws s a).number ≡ length s.receivables.bills + 1
next_bill s (act.Bill l) e = refl
next_bill s _ e = cc

order_count : (a : Act) → (if is_order a then 1 else 0) ≡ draws_order a
order_count (act.Order o) = refl
order_count _ = refl

voucher_count : (a : Act) → (if is_voucher a then 1 else 0) ≡ draws_voucher a
voucher_count (act.Voucher v) = refl
voucher_count _ = refl

bill_count : (n : ℕ) (a : Act) → (if is_bill a then 1 else 0) ≡ length (bills_by n a)
bill_count n (act.Bill l) = refl
bill_count n _ = refl

-- ---- bills and order items have numbers that were drawn, and order items their lines

abbrev pub IsBilled : ℕ → Bill → Type 0
IsBilled count b = IsWithin count b.number

abbrev pub IsOrdered : Plan → ℕ → OrderItem → Type 0
IsOrdered plan count i = IsWithin count i.order × (has_line plan i.account i.year ≡ true)

still_within : (count more n : ℕ) → IsWithin count n → IsWithin (count + more) n
still_within count more n is = (is.0, omega (arith, is.1))

next_within : (count n : ℕ) → n ≡ count + 1 → IsWithin (count + 1) n
next_within count n e = (omega (arith, e), omega (arith, e))

new_bills : (count number : ℕ) (a : Act) → (is_bill a ≡ true → number ≡ count + 1) → AllByRecursion (IsBilled (count + length (bills_by number a))) (bills_by number a)
new_bills count number (act.Bill l) next = (next_within count number (next refl), tt)
new_bills count number _ next = tt

bills_push : (bills : List Bill) (number : ℕ) (a : Act) → AllByRecursion (IsBilled (length bills)) bills → (is_bill a ≡ true → number ≡ length bills + 1) →
    AllByRecursion (IsBilled (length bills + length (bills_by number a))) (bills ++ bills_by number a)
bills_push bills number a is next =
    let more = length (bills_by number a) in
    let still : (xs : List Bill) → AllByRecursion (IsBilled (length bills)) xs → AllByRecursion (IsBilled (length bills + more)) xs = kept_bills (length bills) more in
    all_append (IsBilled (length bills + more)) bills (bills_by number a) (still bills is) (new_bills (length bills) number a next)
  where
    kept_bills : (count more : ℕ) (xs : List Bill) → AllByRecursion (IsBilled count) xs → AllByRecursion (IsBilled (count + more)) xs
    kept_bills count more [] is = tt
    kept_bills count more (x ∷ xs) is = (still_within count more x.number is.0, kept_bills count more xs is.1)

-- a line that an account was found to have
known_if : (b : Bool) (r : _) → unknown_if (not b) kind.Line r ≡ None → b ≡ true
known_if true r e = refl
known_if false r e = cc

known_line : (plan : Plan) (d : Documents) (year : ℕ) (a : AccountItem) → unknown plan d (account_name year a) ≡ None → has_line plan a year ≡ true
known_line plan d year a none =
    let first = or_else_none (unknown_if (not (is_some (fund_at plan a.fund))) kind.Fund a.fund) _ none in
    let second = or_else_none (unknown_if (not (is_some (department_at plan a.dept))) kind.Dept a.dept) _ first.1 in
    let third = or_else_none (unknown_if (not (is_spending (object_at plan a.object))) kind.Object a.object) _ second.1 in
    known_if (is_some (line_of plan a.fund a.dept a.object year)) a.object third.1

from_items : (plan : Plan) (d : Documents) (count order vendor year place : ℕ) (accounts : List AccountItem) → IsWithin count order →
    first_refusal (unknown plan d) (map (account_name year) accounts) ≡ None → AllByRecursion (IsOrdered plan count) (items_from order vendor year place accounts)
from_items plan d count order vendor year place [] within none = tt
from_items plan d count order vendor year place (a ∷ accounts) within none =
    let both = or_else_none (unknown plan d (account_name year a)) (first_refusal (unknown plan d) (map (account_name year) accounts)) none in
    ((within, known_line plan d year a both.0), from_items plan d count order vendor year (place + 1) accounts within both.1)

new_items : (plan : Plan) (d : Documents) (on : Day) (count number : ℕ) (a : Act) → (is_order a ≡ true → number ≡ count + 1) → name_refusal plan d on a ≡ None →
    AllByRecursion (IsOrdered plan (count + draws_order a)) (items_by number (document_year plan on a) a)
new_items plan d on count number (act.Order o) next none =
    let year = document_year plan on (act.Order o) in
    let names = map (account_name year) o.items in
    let both = or_else_none (first_refusal (unknown plan d) (requisition_names o.requisition)) (first_refusal (unknown plan d) names)
    (sym (first_refusal-append (unknown plan d) (requisition_names o.requisition) names) ∙ none) in
    from_items plan d (count + 1) number o.vendor year 1 o.items (next_within count number (next refl)) both.1
new_items plan d on count number _ next none = tt

abbrev HasLine : Plan → OrderItem → Type 0
HasLine plan i = has_line plan i.account i.year ≡ true

-- an item of the same account and year has the same line
same_line : (plan : Plan) (i j : OrderItem) → IsSameItem i j → has_line plan i.account i.year ≡ true → has_line plan j.account j.year ≡ true
same_line plan i j same is = (λ k. has_line plan (same.account k) (same.year k)) ∙ is

-- an item that is carried has a line in the year after
carried_line : (plan : Plan) (i : OrderItem) → has_line plan i.account i.year ≡ true → has_line plan (rolled plan i).account (rolled plan i).year ≡ true
carried_line plan i is = by (lapses plan i) refl
  where
    right : (a b : Bool) → (a && b) ≡ true → b ≡ true
    right true b e = e
    right false b e = cc

    not_lapsed : (a b : Bool) → (a || not b) ≡ false → b ≡ true
    not_lapsed true b e = cc
    not_lapsed false true e = refl
    not_lapsed false false e = cc

    by : (b : Bool) → lapses plan i ≡ b → HasLine plan (if b then record i { stage = lapsed } else record i { year = i.year + 1; base = open_of i; taken = [] })
    by true e = is
    by false e = right (carries_fund (fund_at plan i.account.fund)) (has_line plan i.account (i.year + 1)) (not_lapsed (open_of i == 0) (may_carry plan i) e)

step_line : (plan : Plan) (number : ℕ) (a : Act) (i : OrderItem) → has_line plan i.account i.year ≡ true → has_line plan (item_step plan number a i).account (item_step plan number a i).year ≡ true
step_line plan number (act.Close p) i is = by (rolls plan i.year (act.Close p) && is_live i)
  where
    by : (b : Bool) → HasLine plan (if b then rolled plan i else i)
    by true = carried_line plan i is
    by false = is
step_line plan number (act.ChangeOrder c) i is = same_line plan i (item_step plan number (act.ChangeOrder c) i) (step_same plan number (act.ChangeOrder c) i refl) is
step_line plan number (act.CancelOrder n) i is = same_line plan i (item_step plan number (act.CancelOrder n) i) (step_same plan number (act.CancelOrder n) i refl) is
step_line plan number (act.Voucher v) i is = same_line plan i (item_step plan number (act.Voucher v) i) (step_same plan number (act.Voucher v) i refl) is
step_line plan number (act.VoidVoucher n) i is = is
step_line plan number _ i is = is

ordered_step : (plan : Plan) (count number : ℕ) (a : Act) (i : OrderItem) → IsOrdered plan count i → IsOrdered plan (count + draws_order a) (item_step plan number a i)
ordered_step plan count number a i is =
    (subst (IsWithin (count + draws_order a)) (sym (step_place plan number a i).order) (still_within count (draws_order a) i.order is.0), step_line plan number a i is.1)

-- ---- the items of a voucher have one state

abbrev pub HasState : (ℕ → VoucherState) → ℕ → Expenditure → Type 0
HasState of count x = IsWithin count x.voucher × (x.state ≡ of x.voucher)

pub record AreStates (xs : List Expenditure) (count : ℕ) : Type 0 where
  pub of : ℕ → VoucherState
  pub each : AllByRecursion (HasState of count) xs

abbrev voided : ℕ → (ℕ → VoucherState) → ℕ → VoucherState
voided n of m = if m == n then voucher.Void else of m

abbrev paid : List ℕ → (ℕ → VoucherState) → ℕ → VoucherState
paid ns of m = if list_any (λ n. n == m) ns then paid_after (of m) else of m

abbrev opened : ℕ → (ℕ → VoucherState) → ℕ → VoucherState
opened n of m = if m == n then voucher.Open else of m

void_state : (n count : ℕ) (of : ℕ → VoucherState) (x : Expenditure) → HasState of count x → HasState (voided n of) (count + 0) (expenditure_step (act.VoidVoucher n) x)
void_state n count of x is = by (x.voucher == n) refl
  where
    by : (b : Bool) → (x.voucher == n) ≡ b → HasState (voided n of) (count + 0) (if b then record x { state = voucher.Void } else x)
    by true e = (still_within count 0 x.voucher is.0, ap (λ t. if t then voucher.Void else of x.voucher) (sym e))
    by false e = (still_within count 0 x.voucher is.0, is.1 ∙ ap (λ t. if t then voucher.Void else of x.voucher) (sym e))

pay_state : (ns : List ℕ) (count : ℕ) (of : ℕ → VoucherState) (x : Expenditure) → HasState of count x →
    HasState (paid ns of) (count + 0) (if list_any (λ n. n == x.voucher) ns then record x { state = paid_after x.state } else x)
pay_state ns count of x is = by (list_any (λ n. n == x.voucher) ns) refl
  where
    by : (b : Bool) → list_any (λ n. n == x.voucher) ns ≡ b → HasState (paid ns of) (count + 0) (if b then record x { state = paid_after x.state } else x)
    by true e = (still_within count 0 x.voucher is.0, ap paid_after is.1 ∙ ap (λ t. if t then paid_after (of x.voucher) else of x.voucher) (sym e))
    by false e = (still_within count 0 x.voucher is.0, is.1 ∙ ap (λ t. if t then paid_after (of x.voucher) else of x.voucher) (sym e))

still_state : (count : ℕ) (of : ℕ → VoucherState) (x : Expenditure) → HasState of count x → HasState of (count + 0) x
still_state count of x is = (still_within count 0 x.voucher is.0, is.1)

states_step : (xs : List Expenditure) (count number desk : ℕ) (on : Day) (year : ℕ) → AreStates xs count → (a : Act) → (is_voucher a ≡ true → number ≡ count + 1) →
    AreStates (map (expenditure_step a) xs ++ map (expenditure_of number desk on year) (voucher_items a)) (count + draws_voucher a)
states_step xs count number desk on year is (act.VoidVoucher n) next = record {
  of = voided n is.of;
  each = all_append (HasState (voided n is.of) (count + 0)) _ [] (all_map (HasState is.of count) (HasState (voided n is.of) (count + 0)) (expenditure_step (act.VoidVoucher n)) (void_state n count is.of) xs is.each) tt;
}
states_step xs count number desk on year is (act.Pay p) next = record {
  of = paid p.vouchers is.of;
  each =
      all_append (HasState (paid p.vouchers is.of) (count + 0)) _ []
      (all_map (HasState is.of count) (HasState (paid p.vouchers is.of) (count + 0)) (expenditure_step (act.Pay p)) (pay_state p.vouchers count is.of) xs is.each) tt;
}
states_step xs count number desk on year is (act.Voucher v) next = record {
  of = opened number is.of;
  each =
      all_append (HasState (opened number is.of) (count + 1)) (map (λ x. x) xs) (map (expenditure_of number desk on year) v.items)
      (all_map (HasState is.of count) (HasState (opened number is.of) (count + 1)) (λ x. x)
      (λ x h. (still_within count 1 x.voucher h.0, h.1 ∙ ap (λ t. if t then voucher.Open else is.of x.voucher) (sym (ne_eqb x.voucher number (λ e. omega (arith, e, h.0.1, next refl)))))) xs is.each)
      (all_new (HasState (opened number is.of) (count + 1)) (expenditure_of number desk on year)
      (λ i. (next_within count number (next refl), ap (λ t. if t then voucher.Open else is.of number) (sym (eq-eqb number number refl)))) v.items);
}
states_step xs count number desk on year is _ next = record {
  of = is.of;
  each = all_append (HasState is.of (count + 0)) (map (λ x. x) xs) [] (all_map (HasState is.of count) (HasState is.of (count + 0)) (λ x. x) (still_state count is.of) xs is.each) tt;
}

-- ---- legal histories

pub record AllDrawn (s : Registers) (plan : Plan) (h : List Entry) : Type 0 where
  pub orders : AreDrawn is_order s.documents.orders h
  pub vouchers : AreDrawn is_voucher s.documents.vouchers h
  pub bills : AreDrawn is_bill (length s.receivables.bills) h
  pub billed : AllByRecursion (IsBilled (length s.receivables.bills)) s.receivables.bills
  pub ordered : AllByRecursion (IsOrdered plan s.documents.orders) s.documents.items
  pub states : AreStates s.documents.expenditures s.documents.vouchers

drawn_step : (plan : Plan) (h : List Entry) (e : Entry) → AllDrawn (registers_of plan h) plan h → Adds plan h e → AllDrawn (registers_step plan (registers_of plan h) e) plan (h ++ e ∷ [])
drawn_step plan h e is adds =
    let a = accepted plan h e adds in
    let s = registers_of plan h in
    let d = s.documents in
    let bills = s.receivables.bills in
    let act = e.change.act in
    let on = e.change.on in
    let number : e.drawn.number ≡ (draws s act).number = ap (λ (x : Entry). x.drawn.number) a.entry in
    let names : name_refusal plan d on act ≡ None = subst (λ (x : Documents). name_refusal plan x on act ≡ None) (sym (documents_are plan h)) a.names in
    let more : length (bills ++ bills_by e.drawn.number act) ≡ length bills + length (bills_by e.drawn.number act) = length-append bills (bills_by e.drawn.number act) in
    let billed = bills_push bills e.drawn.number act is.billed (λ k. number ∙ next_bill s act k) in
    let bill_numbers = drawn_push is_bill (length bills) h e is.bills (λ k. number ∙ next_bill s act k) in
    record {
      orders = subst (λ k. AreDrawn is_order (d.orders + k) (h ++ e ∷ [])) (order_count act) (drawn_push is_order d.orders h e is.orders (λ k. number ∙ next_order s act k));
      vouchers = subst (λ k. AreDrawn is_voucher (d.vouchers + k) (h ++ e ∷ [])) (voucher_count act) (drawn_push is_voucher d.vouchers h e is.vouchers (λ k. number ∙ next_voucher s act k));
      bills = subst (λ k. AreDrawn is_bill k (h ++ e ∷ [])) (sym more) (subst (λ k. AreDrawn is_bill (length bills + k) (h ++ e ∷ [])) (bill_count e.drawn.number act) bill_numbers);
      billed = subst (λ k. AllByRecursion (IsBilled k) (bills ++ bills_by e.drawn.number act)) (sym more) billed;
      ordered =
          all_append (IsOrdered plan (d.orders + draws_order act)) (map (item_step plan e.drawn.number act) d.items) (items_by e.drawn.number (document_year plan on act) act)
          (all_map (IsOrdered plan d.orders) (IsOrdered plan (d.orders + draws_order act)) (item_step plan e.drawn.number act) (ordered_step plan d.orders e.drawn.number act) d.items is.ordered)
          (new_items plan d on d.orders e.drawn.number act (λ k. number ∙ next_order s act k) names);
      states = states_step d.expenditures d.vouchers e.drawn.number e.change.desk on (document_year plan on act) is.states act (λ k. number ∙ next_voucher s act k);
    }

pub all_drawn : (plan : Plan) (h : List Entry) → IsLegal plan h → AllDrawn (registers_of plan h) plan h
all_drawn plan h legal =
    legal_induction plan (λ x. AllDrawn (registers_of plan x) plan x)
    (record { orders = λ n. sym (none_drawn n); vouchers = λ n. sym (none_drawn n); bills = λ n. sym (none_drawn n); billed = tt; ordered = tt; states = record { of = λ n. voucher.Open; each = tt } })
    (λ x e is adds. subst (λ (r : Registers). AllDrawn r plan (x ++ e ∷ [])) (sym (registers_push plan no_registers x e)) (drawn_step plan x e is adds)) h legal
