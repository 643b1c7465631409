-- An act that the rules on documents allow over a legal history is cleared: its moves lie within
-- the years that have numbers.
use Rattle.std.proofs.Common.{◌≡◌, ℕ, ◌<◌, Bool, true, false, if◌then◌else◌, ◌==◌, List, [], ◌∷◌, ◌++◌, map, Some, None, subst, sym, filter}
use Rattle.cf_base.proofs.Common.{AllByRecursion}
use Rattle.cf_model.specs.Common.{Day, Act, Requisition, Withdraw, Order, ChangeOrder, CancelOrder, Voucher, VoidVoucher, PayDue, Leave, Lease, Entry, AccountItem, Charge, Direct, OnOrder, document_year, document_rules, document_refusal, on_order_refusal, Hold, Expenditure, Documents, documents_of, is_number, Move, document_moves, spending_move, hold_move, release_move, order_move, item_move, spend_move, unspend_move, charge_move, reopen_move, move_if, charged_item, spent_by, OrderItem, is_named, item_named, item_step, Registers, registers_of, Spending, spendings_by, IsLegal, document_number, touches}
use Rattle.cf_base.specs.Common.{is_day}
use Rattle.cf_calls.specs.Common.{is_distinct, IsActInForm}
use Rattle.cf_chart.specs.Common.{Plan}
use Rattle.cf_model.proofs.Common.{bonds_named, AllNone, first_of_none, are_timely, HasCalendar, documents_are, spendings_within, IsTidy, all_map, same_place, tidy_always, IsOut, IsSpentOut, documents_out, spendings_out, document_within}
use Rattle.cf_registers.specs.Moved.{IsCleared, act_moves}

abbrev IsWithin : Move → Type 0
IsWithin m = m.year < 2201

abbrev AreWithin : List Move → Type 0
AreWithin moves = AllByRecursion IsWithin moves

both : (ms ns : List Move) → AreWithin ms → AreWithin ns → AreWithin (ms ++ ns)
both [] ns a b = b
both (m ∷ ms) ns a b = (a.0, both ms ns a.1 b)

each : {A : Type 0} (move : A → Move) → ((x : A) → IsWithin (move x)) → (xs : List A) → AreWithin (map move xs)
each move within [] = tt
each move within (x ∷ xs) = (within x, each move within xs)

-- moves of elements that pass, each within its own year
passing : {A : Type 0} (year : A → ℕ) (p : A → Bool) (move : A → Move) → ((x : A) → year x < 2201 → IsWithin (move x)) → (xs : List A) → AllByRecursion (λ x. year x < 2201) xs → AreWithin (map move (filter p xs))
passing year p move within [] years = tt
passing year p move within (x ∷ xs) years = by_test (p x) (passing year p move within xs years.1)
  where
    by_test : (b : Bool) → AreWithin (map move (filter p xs)) → AreWithin (map move (if b then x ∷ filter p xs else filter p xs))
    by_test true rest = (within x years.0, rest)
    by_test false rest = rest

named_within : (step : OrderItem → OrderItem) (a : AccountItem) (y order place : ℕ) (items : List OrderItem) → y < 2201 → AllByRecursion (λ i. i.year < 2201) items → IsWithin (move_if step a y (item_named order place items))
named_within step a y order place [] l years = l
named_within step a y order place (i ∷ items) l years = by_test (is_named order place i) (named_within step a y order place items l years.1)
  where
    by_test : (b : Bool) → IsWithin (move_if step a y (item_named order place items)) → IsWithin (move_if step a y (if b then Some i else item_named order place items))
    by_test true rest = years.0
    by_test false rest = rest

charge_within : (step : OrderItem → OrderItem) (a : AccountItem) (y : ℕ) (c : Charge) (items : List OrderItem) → y < 2201 → AllByRecursion (λ i. i.year < 2201) items → IsWithin (move_if step a y (charged_item c items))
charge_within step a y Direct items l years = l
charge_within step a y (OnOrder place order how) items l years = named_within step a y order place items l years

pub moves_within : (plan : Plan) (s : Documents) (number : ℕ) (on : Day) (act : Act) → is_day on ≡ true → IsTidy s → AreWithin (document_moves plan s number on act)
moves_within plan s number on (Requisition r) day tidy = each (hold_move (document_year plan on (Requisition r))) (λ a. document_within plan on (Requisition r) day) r.items
moves_within plan s number on (Withdraw n) day tidy = passing (λ (h : Hold). h.year) (λ h. is_number (Some n) h.requisition) release_move (λ h l. l) s.holds tidy.hold_years
moves_within plan s number on (Order o) day tidy =
    both (map release_move (filter (λ h. is_number o.requisition h.requisition) s.holds)) (map (order_move (document_year plan on (Order o))) o.items)
    (passing (λ (h : Hold). h.year) (λ h. is_number o.requisition h.requisition) release_move (λ h l. l) s.holds tidy.hold_years)
    (each (order_move (document_year plan on (Order o))) (λ a. document_within plan on (Order o) day) o.items)
moves_within plan s number on (ChangeOrder c) day tidy =
    passing (λ (i : OrderItem). i.year) (is_named c.order c.item) (item_move (item_step plan number (ChangeOrder c))) (λ i l. l) s.items tidy.item_years
moves_within plan s number on (CancelOrder n) day tidy =
    passing (λ (i : OrderItem). i.year) (λ i. i.order == n) (item_move (item_step plan number (CancelOrder n))) (λ i l. l) s.items tidy.item_years
moves_within plan s number on (Voucher v) day tidy =
    let y = document_year plan on (Voucher v) in
    let step = item_step plan number (Voucher v) in
    both (map (spend_move y) v.items) (map (charge_move step s.items y) v.items)
    (each (spend_move y) (λ i. document_within plan on (Voucher v) day) v.items)
    (each (charge_move step s.items y) (λ i. charge_within step i.account y i.charge s.items (document_within plan on (Voucher v) day) tidy.item_years) v.items)
moves_within plan s number on (VoidVoucher n) day tidy =
    let step = item_step plan number (VoidVoucher n) in
    both (map unspend_move (spent_by n s.expenditures)) (map (reopen_move step s.items) (spent_by n s.expenditures))
    (passing (λ (x : Expenditure). x.year) (λ x. x.voucher == n) unspend_move (λ x l. l) s.expenditures tidy.spend_years)
    (passing (λ (x : Expenditure). x.year) (λ x. x.voucher == n) (reopen_move step s.items) (λ x l. charge_within step x.account x.year x.charge s.items l tidy.item_years) s.expenditures tidy.spend_years)
moves_within plan s number on _ day tidy = tt

spent_within : (xs : List Spending) → AllByRecursion (λ (x : Spending). x.year < 2201) xs → AreWithin (map spending_move xs)
spent_within [] within = tt
spent_within (x ∷ xs) within = (within.0, spent_within xs within.1)

act_within : (plan : Plan) (h : List Entry) (on : Day) (act : Act) → HasCalendar plan → IsLegal plan h → is_day on ≡ true → AreWithin (act_moves plan (registers_of plan h) on act)
act_within plan h on (PayDue d) calendar legal day =
    spent_within (spendings_by plan (registers_of plan h) on (PayDue d)) (spendings_within plan (registers_of plan h) on (PayDue d) day (are_timely plan h calendar legal))
act_within plan h on (Leave l) calendar legal day =
    spent_within (spendings_by plan (registers_of plan h) on (Leave l)) (spendings_within plan (registers_of plan h) on (Leave l) day (are_timely plan h calendar legal))
act_within plan h on (Lease l) calendar legal day =
    spent_within (spendings_by plan (registers_of plan h) on (Lease l)) (spendings_within plan (registers_of plan h) on (Lease l) day (are_timely plan h calendar legal))
act_within plan h on act calendar legal day = by_documents act
  where
    by_documents : (a : Act) → AreWithin (document_moves plan (registers_of plan h).documents (document_number (registers_of plan h).documents a) on a)
    by_documents a =
        moves_within plan (registers_of plan h).documents (document_number (registers_of plan h).documents a) on a day
        (subst IsTidy (sym (documents_are plan h)) (tidy_always plan h legal))

-- the moves of an act are of accounts in stripes that it touches
act_out : (plan : Plan) (s : Registers) (on : Day) (act : Act) (stripe : ℕ) → is_distinct same_place s.documents.items ≡ true → on_order_refusal s.documents act ≡ None → touches plan stripe act ≡ false →
    AllByRecursion (IsOut plan stripe) (act_moves plan s on act)
act_out plan s on (PayDue d) stripe apart none out =
    all_map (IsSpentOut plan stripe) (IsOut plan stripe) spending_move (λ x o. o) (spendings_by plan s on (PayDue d)) (spendings_out plan s on (PayDue d) stripe out)
act_out plan s on (Leave l) stripe apart none out =
    all_map (IsSpentOut plan stripe) (IsOut plan stripe) spending_move (λ x o. o) (spendings_by plan s on (Leave l)) (spendings_out plan s on (Leave l) stripe out)
act_out plan s on (Lease l) stripe apart none out =
    all_map (IsSpentOut plan stripe) (IsOut plan stripe) spending_move (λ x o. o) (spendings_by plan s on (Lease l)) (spendings_out plan s on (Lease l) stripe out)
act_out plan s on act stripe apart none out = documents_out plan s.documents (document_number s.documents act) on act stripe apart none out

-- the rules on documents, one by one
pub cleared : (plan : Plan) (h : List Entry) (on : Day) (desk : ℕ) (act : Act) → HasCalendar plan → IsLegal plan h → is_day on ≡ true → IsActInForm on act →
    document_refusal plan (documents_of plan h) on desk act ≡ None → IsCleared plan (registers_of plan h) on act
cleared plan h on desk act calendar legal day form none =
    let s = (registers_of plan h).documents in
    let here : document_refusal plan s on desk act ≡ None = subst (λ (d : Documents). document_refusal plan d on desk act ≡ None) (sym (documents_are plan h)) none in
    let all : AllNone (document_rules plan s on desk act) = first_of_none (document_rules plan s on desk act) here in
    record {
      day = day;
      form = form;
      states = all.0;
      on_order = all.1.1.0;
      opens = all.1.1.1.0;
      years = act_within plan h on act calendar legal day;
      bonds = bonds_named plan h legal;
      touched = λ stripe out. act_out plan (registers_of plan h) on act stripe (subst (λ (d : Documents). is_distinct same_place d.items ≡ true) (sym (documents_are plan h)) (tidy_always plan h legal).places) all.1.1.0 out;
    }
