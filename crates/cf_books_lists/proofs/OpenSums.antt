-- What `open` lists of bills, vouchers and order items comes to the balances that have it, and to
-- what is encumbered.
use Rattle.std.proofs.Common.{◌≡◌, eqb-true, ℕ, ◌+◌, ◌-◌, ◌≤◌, Bool, true, false, if◌then◌else◌, ◌==◌, ◌&&◌, List, [], ◌∷◌, ◌++◌, flat_map, map, find, length, sum_by, Option, Some, None, option_map, is_some, ℤ, pos, ◌+ℤ◌, ◌-ℤ◌, refl, sym, ap, subst, ◌∙◌, arith, append-nil, append_assoc, filter}
use Rattle.cf_base.proofs.Common.{AllByRecursion}
use Rattle.cf_model.specs.Common.{Day, Act, Entry, LineAmount, Read, ItemState, OrderItemShown, RequisitionState, Shown, VoucherState, fund_of, Documents, Expenditure, is_drawn, voucher_at, item_shown, or_zero, counts, encumbered_sum, is_line, OrderItem, going, lapsed, cancelled, has_line, is_finished, is_live_at, liquidated_sum, open_of, state_at, state_of, bill_at, left_of, Registers, registers_of, IsLegal, int_sum}
use Rattle.cf_calls.specs.declared.acts.Act.TheVariants as act
use Rattle.cf_calls.specs.declared.shown.ItemState.TheVariants as item
use Rattle.cf_calls.specs.declared.shown.RequisitionState.TheVariants as requisition
use Rattle.cf_calls.specs.declared.shown.Shown.TheVariants as shown
use Rattle.cf_calls.specs.declared.shown.VoucherState.TheVariants as voucher
use Rattle.cf_chart.specs.Common.{Plan, line_of}
use Rattle.cf_debt.specs.declared.debt.Due.{Due}
use Rattle.cf_model.specs.OrderItems.{Stage}
use Rattle.cf_model.specs.Receivables.{Bill}
use Rattle.cf_model.proofs.Common.{documents_are, all_so, exchange, find_sum, found_passes, none_first, none_last, one_passes, passing, same_all, sum_append, sum_filter, sum_none, sum_pos, sum_same}
use Rattle.cf_model_articulation.specs.OpenBills.{BillsAreReceivable, left_part}
use Rattle.cf_model_articulation.specs.OpenVouchers.{VouchersAreOwed, open_amount, open_part}
use Rattle.cf_registers.specs.RegistersState.{register_shown}
use Rattle.cf_books_lists.specs.declared.open.Part.{Part}
use Rattle.cf_books_lists.specs.declared.open.Section.{Section}
use Rattle.cf_books_lists.specs.declared.open.Section.TheVariants.{Orders, Bills, Vouchers}
use Rattle.cf_books_lists.specs.Open.{bill_text, debt_text, due_at, held_text, item_text, items_text, look_by, look_of, looked_text, part_text, requisition_text, section_text, shown_text, voucher_text, whole_part}
use Rattle.cf_books_lists.specs.OpenSums.{IsVoucherRow, OpenAddsUp, bill_is_of, bill_parts, debt_parts, held_parts, item_parts, of_bill, of_voucher, on_line, order_parts, parts_looked, parts_of, parts_shown, requisition_parts, rows_text, voucher_parts, voucher_rows}
use Rattle.cf_books_lists.proofs.OpenDrawn.{AreStates, HasState, IsBilled, IsOrdered, all_drawn, drawn_one, drew, is_bill, is_order, is_voucher}

-- ---- the text is a row for each part

flat_append : {A B : Type 0} (f : A → List B) (xs ys : List A) → flat_map f (xs ++ ys) ≡ flat_map f xs ++ flat_map f ys
flat_append f [] ys = refl
flat_append f (x ∷ xs) ys = ap (λ zs. f x ++ zs) (flat_append f xs ys) ∙ sym (append_assoc (f x) (flat_map f xs) (flat_map f ys))

module _ (csv : Bool) (plan : Plan) (e : Entry) where
  abbrev row : Part → List ℕ
  row p = part_text csv plan e p

  alone : (p : Part) → row p ≡ flat_map row (p ∷ [])
  alone p = sym (append-nil (row p))

  held_are : (year place : ℕ) (items : List LineAmount) → held_text csv plan e year place items ≡ flat_map row (held_parts year place items)
  held_are year place [] = refl
  held_are year place (i ∷ items) = ap (λ t. row (record { item = place; line = Some i.line; year = Some year; amount = i.amount; next = None; due = None }) ++ t) (held_are year (place + 1) items)

  requisition_is : (items : List LineAmount) (year : ℕ) (state : RequisitionState) → requisition_text csv plan e items year state ≡ flat_map row (requisition_parts items year state)
  requisition_is items year requisition.Open = held_are year 1 items
  requisition_is items year _ = refl

  item_is : (place : ℕ) (i : OrderItemShown) (state : ItemState) → item_text csv plan e place i state ≡ flat_map row (item_parts place i state)
  item_is place i item.Live = alone (record { item = place; line = Some i.line; year = Some i.year; amount = i.open_cents; next = None; due = None })
  item_is place i _ = refl

  items_are : (place : ℕ) (items : List OrderItemShown) → items_text csv plan e place items ≡ flat_map row (order_parts place items)
  items_are place [] = refl
  items_are place (i ∷ items) = (λ k. item_is place i i.state k ++ items_are (place + 1) items k) ∙ sym (flat_append row (item_parts place i i.state) (order_parts (place + 1) items))

  voucher_is : (amount year : ℕ) (state : VoucherState) → voucher_text csv plan e amount year state ≡ flat_map row (voucher_parts amount year state)
  voucher_is amount year voucher.Open = alone (whole_part (Some year) amount None None)
  voucher_is amount year _ = refl

  bill_is : (left year : ℕ) → bill_text csv plan e left year ≡ flat_map row (bill_parts left year)
  bill_is left year = by (left == 0)
    where
      by : (b : Bool) → (if b then [] else row (whole_part (Some year) left None None)) ≡ flat_map row (if b then [] else whole_part (Some year) left None None ∷ [])
      by true = refl
      by false = alone (whole_part (Some year) left None None)

  debt_is : (due : Option Due) (outstanding : ℕ) (next : Option Day) → debt_text csv plan e due outstanding next ≡ flat_map row (debt_parts due outstanding next)
  debt_is due outstanding None = refl
  debt_is due outstanding (Some next) = alone (whole_part None outstanding (Some next) due)

  shown_is : (due : Option Due) (o : Option Shown) → shown_text csv plan e due o ≡ flat_map row (parts_shown due o)
  shown_is due (Some (shown.Requisition items state year)) = requisition_is items year state
  shown_is due (Some (shown.Order items vendor)) = items_are 1 items
  shown_is due (Some (shown.Voucher amount state year)) = voucher_is amount year state
  shown_is due (Some (shown.Bill left year source)) = bill_is left year
  shown_is due (Some (shown.Bond accrued next outstanding)) = debt_is due outstanding next
  shown_is due _ = refl

  looked_is : (s : Registers) (look : Option Read) → looked_text csv plan s e look ≡ flat_map row (parts_looked plan s look)
  looked_is s None = refl
  looked_is s (Some look) = shown_is (due_at plan s look) (register_shown plan s look)

rows_are : (csv : Bool) (plan : Plan) (s : Registers) (section : Section) (entries : List Entry) → section_text csv plan s section entries ≡ rows_text csv plan s section entries
rows_are csv plan s section [] = refl
rows_are csv plan s section (e ∷ entries) = λ k. looked_is csv plan e s (look_of section e) k ++ rows_are csv plan s section entries k

-- ---- what is found in a list

none_found : {A : Type 0} (p : A → Bool) (f : A → ℤ) (xs : List A) → find p xs ≡ None → int_sum (λ x. if p x then f x else pos 0) xs ≡ pos 0
none_found p f [] e = refl
none_found p f (x ∷ xs) e = by (p x) e (none_found p f xs)
  where
    by : (b : Bool) → (if b then Some x else find p xs) ≡ None → (find p xs ≡ None → int_sum (λ x. if p x then f x else pos 0) xs ≡ pos 0) →
        (if b then f x else pos 0) +ℤ int_sum (λ x. if p x then f x else pos 0) xs ≡ pos 0
    by true e more = cc
    by false e more = none_first _ ∙ more e

found_has : {A : Type 0} (P : A → Type 0) (p : A → Bool) (x : A) (xs : List A) → find p xs ≡ Some x → AllByRecursion P xs → P x × (p x ≡ true)
found_has P p x [] found all = cc
found_has P p x (y ∷ ys) found all = by (p y) refl found (λ h. found_has P p x ys h all.1)
  where
    same : Some y ≡ Some x → y ≡ x
    same e = cc

    by : (b : Bool) → p y ≡ b → (if b then Some y else find p ys) ≡ Some x → (find p ys ≡ Some x → P x × (p x ≡ true)) → P x × (p x ≡ true)
    by true at found more = (subst P (same found) all.0, sym (ap p (same found)) ∙ at)
    by false at found more = more found

all_filter : {A : Type 0} (P : A → Type 0) (p : A → Bool) (xs : List A) → AllByRecursion P xs → AllByRecursion P (filter p xs)
all_filter P p [] all = tt
all_filter P p (x ∷ xs) all = by (p x) (all_filter P p xs all.1)
  where
    by : (b : Bool) → AllByRecursion P (filter p xs) → AllByRecursion P (if b then x ∷ filter p xs else filter p xs)
    by true more = (all.0, more)
    by false more = more

-- a sum over what entries drew is one over the entries, each with what it drew
shared : {A : Type 0} (has : A → Entry → Bool) (f : A → ℤ) (h : List Entry) (xs : List A) → AllByRecursion (λ x. passing (has x) h ≡ 1) xs →
    int_sum (λ e. int_sum (λ x. if has x e then f x else pos 0) xs) h ≡ int_sum f xs
shared has f h xs one =
    exchange (λ e x. if has x e then f x else pos 0) h xs
    ∙ same_all (λ x. int_sum (λ e. if has x e then f x else pos 0) h) f xs
    (all_so (λ x. passing (has x) h ≡ 1) (λ x. int_sum (λ e. if has x e then f x else pos 0) h ≡ f x) (λ x is. one_passes (has x) (f x) h is) xs one)

-- ---- bills

-- a bill that is found is the one of its number
one_bill : (n count : ℕ) (bills : List Bill) (b : Bill) → bill_at n bills ≡ Some b → passing (λ (y : Bill). y.number == n) bills ≡ (if is_drawn count n then 1 else 0) →
    passing (λ (y : Bill). y.number == n) bills ≡ 1
one_bill n count bills b found e = by (is_drawn count n) e (found_passes (λ (y : Bill). y.number == n) b bills found)
  where
    by : (t : Bool) → passing (λ (y : Bill). y.number == n) bills ≡ (if t then 1 else 0) → 1 ≤ passing (λ (y : Bill). y.number == n) bills → passing (λ (y : Bill). y.number == n) bills ≡ 1
    by true e l = e
    by false e l = absurd (omega (arith, e, l))

left_row : (t : Bool) (left year : ℕ) (z : Bool) → (left == 0) ≡ z →
    int_sum (λ (p : Part). if t then pos p.amount else pos 0) (if z then [] else whole_part (Some year) left None None ∷ []) ≡ (if t then pos left else pos 0)
left_row true left year true e = ap pos (sym (eqb-true left 0 e))
left_row false left year true e = refl
left_row t left year false e = none_last (if t then pos left else pos 0)

bill_row : (plan : Plan) (s : Registers) (fund : ℕ) (e : Entry) → ((n : ℕ) (b : Bill) → bill_at n s.receivables.bills ≡ Some b → passing (λ (y : Bill). y.number == n) s.receivables.bills ≡ 1) →
    (a : Act) → int_sum (of_bill plan s fund e) (parts_looked plan s (look_by Bills a e))
    ≡ int_sum (λ (b : Bill). if is_bill a && (b.number == e.drawn.number) then left_part plan fund s.receivables b else pos 0) s.receivables.bills
bill_row plan s fund e one (act.Bill l) = by (bill_at e.drawn.number s.receivables.bills) refl
  where
    by : (o : Option Bill) → bill_at e.drawn.number s.receivables.bills ≡ o →
        int_sum (λ (p : Part). if bill_is_of plan fund o then pos p.amount else pos 0) (parts_shown None (option_map (λ b. shown.Bill (left_of s.receivables.settlements b) b.levy_year b.source) o))
        ≡ int_sum (λ (b : Bill). if b.number == e.drawn.number then left_part plan fund s.receivables b else pos 0) s.receivables.bills
    by None found = sym (none_found (λ (b : Bill). b.number == e.drawn.number) (left_part plan fund s.receivables) s.receivables.bills found)
    by (Some b) found =
        left_row (fund_of plan b.source == fund) (left_of s.receivables.settlements b) b.levy_year (left_of s.receivables.settlements b == 0) refl
        ∙ sym (find_sum (λ (y : Bill). y.number == e.drawn.number) (left_part plan fund s.receivables) b s.receivables.bills found (one e.drawn.number b found))
bill_row plan s fund e one _ = sym (sum_none (λ (b : Bill). pos 0) (λ b. refl) s.receivables.bills)

-- ---- vouchers

-- items of one voucher that have this state
abbrev IsAt : ℕ → VoucherState → Expenditure → Type 0
IsAt n state x = (x.voucher == n) ≡ true → x.state ≡ state

states_at : (xs : List Expenditure) (count n : ℕ) (y : Expenditure) → AreStates xs count → voucher_at n xs ≡ Some y → AllByRecursion (IsAt n y.state) xs
states_at xs count n y is found =
    let has = found_has (HasState is.of count) (λ (x : Expenditure). x.voucher == n) y xs found is.each in
    let at : y.voucher ≡ n = eqb-true y.voucher n has.1 in
    let now : is.of n ≡ y.state = ap is.of (sym at) ∙ sym has.0.1 in
    all_so (HasState is.of count) (IsAt n y.state) (λ x h k. h.1 ∙ ap is.of (eqb-true x.voucher n k) ∙ now) xs is.each

abbrev fund_amount : ℕ → Expenditure → ℤ
fund_amount fund x = if x.account.fund == fund then pos x.account.amount else pos 0

open_sum : (fund n : ℕ) (xs : List Expenditure) → AllByRecursion (IsAt n voucher.Open) xs →
    int_sum (λ (x : Expenditure). if x.voucher == n then fund_amount fund x else pos 0) xs ≡ int_sum (λ (x : Expenditure). if x.voucher == n then open_part fund x else pos 0) xs
open_sum fund n xs all =
    same_all (λ (x : Expenditure). if x.voucher == n then fund_amount fund x else pos 0) (λ (x : Expenditure). if x.voucher == n then open_part fund x else pos 0) xs
    (all_so (IsAt n voucher.Open) (λ x. (if x.voucher == n then fund_amount fund x else pos 0) ≡ (if x.voucher == n then open_part fund x else pos 0)) (λ x is. by x (x.voucher == n) is) xs all)
  where
    by : (x : Expenditure) (b : Bool) → (b ≡ true → x.state ≡ voucher.Open) → (if b then fund_amount fund x else pos 0) ≡ (if b then open_part fund x else pos 0)
    by x true is = ap (λ (state : VoucherState). if x.account.fund == fund then pos (open_amount state x.account.amount) else pos 0) (sym (is refl))
    by x false is = refl

closed_sum : (fund n : ℕ) (state : VoucherState) (xs : List Expenditure) → ((amount : ℕ) → open_amount state amount ≡ 0) → AllByRecursion (IsAt n state) xs →
    pos 0 ≡ int_sum (λ (x : Expenditure). if x.voucher == n then open_part fund x else pos 0) xs
closed_sum fund n state xs none all =
    sym (sum_none (λ (x : Expenditure). pos 0) (λ x. refl) xs)
    ∙ same_all (λ (x : Expenditure). pos 0) (λ (x : Expenditure). if x.voucher == n then open_part fund x else pos 0) xs
    (all_so (IsAt n state) (λ x. pos 0 ≡ (if x.voucher == n then open_part fund x else pos 0)) (λ x is. by x (x.voucher == n) is) xs all)
  where
    nothing : (b : Bool) (amount : ℕ) → amount ≡ 0 → pos 0 ≡ (if b then pos amount else pos 0)
    nothing true amount e = ap pos (sym e)
    nothing false amount e = refl

    by : (x : Expenditure) (b : Bool) → (b ≡ true → x.state ≡ state) → pos 0 ≡ (if b then open_part fund x else pos 0)
    by x true is = nothing (x.account.fund == fund) (open_amount x.state x.account.amount) (ap (λ t. open_amount t x.account.amount) (is refl) ∙ none x.account.amount)
    by x false is = refl

voucher_row : (plan : Plan) (s : Registers) (fund : ℕ) (e : Entry) → AreStates s.documents.expenditures s.documents.vouchers → (a : Act) →
    int_sum (of_voucher s fund e) (parts_looked plan s (look_by Vouchers a e))
    ≡ int_sum (λ (x : Expenditure). if is_voucher a && (x.voucher == e.drawn.number) then open_part fund x else pos 0) s.documents.expenditures
voucher_row plan s fund e is (act.Voucher v) = by (voucher_at e.drawn.number s.documents.expenditures) refl
  where
    by_state : (amount year : ℕ) (state : VoucherState) → AllByRecursion (IsAt e.drawn.number state) s.documents.expenditures →
        int_sum (of_voucher s fund e) (voucher_parts amount year state) ≡ int_sum (λ (x : Expenditure). if x.voucher == e.drawn.number then open_part fund x else pos 0) s.documents.expenditures
    by_state amount year voucher.Open all =
        none_last (int_sum (fund_amount fund) (voucher_rows s e))
        ∙ sum_filter (fund_amount fund) (λ (x : Expenditure). x.voucher == e.drawn.number) s.documents.expenditures
        ∙ open_sum fund e.drawn.number s.documents.expenditures all
    by_state amount year voucher.Paid all = closed_sum fund e.drawn.number voucher.Paid s.documents.expenditures (λ amount. refl) all
    by_state amount year voucher.Void all = closed_sum fund e.drawn.number voucher.Void s.documents.expenditures (λ amount. refl) all

    by : (o : Option Expenditure) → voucher_at e.drawn.number s.documents.expenditures ≡ o →
        int_sum (of_voucher s fund e) (parts_shown None (option_map (λ first. shown.Voucher (sum_by (λ x. x.account.amount) (voucher_rows s e)) first.state first.year) o))
        ≡ int_sum (λ (x : Expenditure). if x.voucher == e.drawn.number then open_part fund x else pos 0) s.documents.expenditures
    by None found = sym (none_found (λ (x : Expenditure). x.voucher == e.drawn.number) (open_part fund) s.documents.expenditures found)
    by (Some y) found = by_state _ y.year y.state (states_at s.documents.expenditures s.documents.vouchers e.drawn.number y is found)
voucher_row plan s fund e is _ = sym (sum_none (λ (x : Expenditure). pos 0) (λ x. refl) s.documents.expenditures)

amount_row : (plan : Plan) (s : Registers) (e : Entry) (a : Act) → AllByRecursion (IsVoucherRow s e) (parts_looked plan s (look_by Vouchers a e))
amount_row plan s e (act.Voucher v) = by (voucher_at e.drawn.number s.documents.expenditures)
  where
    by_state : (year : ℕ) (state : VoucherState) → AllByRecursion (IsVoucherRow s e) (voucher_parts (sum_by (λ x. x.account.amount) (voucher_rows s e)) year state)
    by_state year voucher.Open = (sum_pos (λ (x : Expenditure). x.account.amount) (voucher_rows s e), tt)
    by_state year _ = tt

    by : (o : Option Expenditure) →
        AllByRecursion (IsVoucherRow s e) (parts_shown None (option_map (λ first. shown.Voucher (sum_by (λ x. x.account.amount) (voucher_rows s e)) first.state first.year) o))
    by None = tt
    by (Some y) = by_state y.year y.state
amount_row plan s e _ = tt

amount_rows : (plan : Plan) (s : Registers) (entries : List Entry) → AllByRecursion (λ e. AllByRecursion (IsVoucherRow s e) (parts_of plan s Vouchers e)) entries
amount_rows plan s [] = tt
amount_rows plan s (e ∷ entries) = (amount_row plan s e e.change.act, amount_rows plan s entries)

-- ---- order items

-- what an item has encumbered on a line and in a year
abbrev line_part : Plan → ℕ → ℕ → OrderItem → ℤ
line_part plan line year i = pos (if counts plan line year i.account i.year then open_of i else 0)

same_test : (line : ℕ) (o : Option ℕ) → is_some o ≡ true → (or_zero o == line) ≡ is_line line o
same_test line None e = cc
same_test line (Some n) e = refl

-- an item that isn't live has no row, and nothing open
live_row : (stage : Stage) (finished : Bool) (place : ℕ) (i : OrderItemShown) (f : Part → ℤ) (t : Bool) (amount : ℕ) → (is_live_at stage finished ≡ false → amount ≡ 0) →
    f (record { item = place; line = Some i.line; year = Some i.year; amount = i.open_cents; next = None; due = None }) ≡ (if t then pos amount else pos 0) →
    int_sum f (item_parts place i (state_at stage finished)) ≡ pos (if t then amount else 0)
live_row stage finished place i f t amount none is = by stage finished none
  where
    here : (t : Bool) → (if t then pos amount else pos 0) ≡ pos (if t then amount else 0)
    here true = refl
    here false = refl

    nothing : (t : Bool) → amount ≡ 0 → pos 0 ≡ pos (if t then amount else 0)
    nothing true e = ap pos (sym e)
    nothing false e = refl

    by : (stage : Stage) (finished : Bool) → (is_live_at stage finished ≡ false → amount ≡ 0) → int_sum f (item_parts place i (state_at stage finished)) ≡ pos (if t then amount else 0)
    by going false none = none_last _ ∙ is ∙ here t
    by going true none = nothing t (none refl)
    by lapsed finished none = nothing t (none refl)
    by cancelled finished none = nothing t (none refl)

module _ (plan : Plan) (line year : ℕ) (e : Entry) where
  item_row : (place : ℕ) (i : OrderItem) → has_line plan i.account i.year ≡ true → int_sum (on_line line year e) (item_parts place (item_shown plan i) (state_of i)) ≡ line_part plan line year i
  item_row place i lined =
      live_row i.stage (is_finished i.taken) place (item_shown plan i) (on_line line year e) (counts plan line year i.account i.year) (open_of i)
      (λ k. ap (λ b. if b then i.base - liquidated_sum i.taken else 0) k)
      (ap (λ b. if (i.year == year) && b then pos (open_of i) else pos 0) (same_test line (line_of plan i.account.fund i.account.dept i.account.object i.year) lined))

  item_rows : (place : ℕ) (items : List OrderItem) → AllByRecursion (λ i. has_line plan i.account i.year ≡ true) items →
      int_sum (on_line line year e) (order_parts place (map (item_shown plan) items)) ≡ int_sum (line_part plan line year) items
  item_rows place [] lined = refl
  item_rows place (i ∷ items) lined =
      sum_append (on_line line year e) (item_parts place (item_shown plan i) (state_of i)) (order_parts (place + 1) (map (item_shown plan) items))
      ∙ (λ k. item_row place i lined.0 k +ℤ item_rows (place + 1) items lined.1 k)

  order_row : (s : Registers) → AllByRecursion (λ i. has_line plan i.account i.year ≡ true) s.documents.items → (a : Act) →
      int_sum (on_line line year e) (parts_looked plan s (look_by Orders a e))
      ≡ int_sum (λ (i : OrderItem). if is_order a && (i.order == e.drawn.number) then line_part plan line year i else pos 0) s.documents.items
  order_row s lined (act.Order o) = by (find (λ (i : OrderItem). i.order == e.drawn.number) s.documents.items) refl
    where
      by : (found : Option OrderItem) → find (λ (i : OrderItem). i.order == e.drawn.number) s.documents.items ≡ found →
          int_sum (on_line line year e) (parts_shown None (option_map (λ first. shown.Order (map (item_shown plan) (filter (λ (i : OrderItem). i.order == e.drawn.number) s.documents.items)) first.vendor) found))
          ≡ int_sum (λ (i : OrderItem). if i.order == e.drawn.number then line_part plan line year i else pos 0) s.documents.items
      by None at = sym (none_found (λ (i : OrderItem). i.order == e.drawn.number) (line_part plan line year) s.documents.items at)
      by (Some y) at =
          item_rows 1 (filter (λ (i : OrderItem). i.order == e.drawn.number) s.documents.items)
          (all_filter (λ (i : OrderItem). has_line plan i.account i.year ≡ true) (λ (i : OrderItem). i.order == e.drawn.number) s.documents.items lined)
          ∙ sum_filter (line_part plan line year) (λ (i : OrderItem). i.order == e.drawn.number) s.documents.items
  order_row s lined _ = sym (sum_none (λ (i : OrderItem). pos 0) (λ i. refl) s.documents.items)

-- ---- legal histories

pub open_adds_up : (plan : Plan) (h : List Entry) → IsLegal plan h →
    ((n : ℕ) → passing (λ (b : Bill). b.number == n) (registers_of plan h).receivables.bills ≡ (if is_drawn (length (registers_of plan h).receivables.bills) n then 1 else 0)) →
    BillsAreReceivable plan h → VouchersAreOwed plan h → OpenAddsUp plan h
open_adds_up plan h legal numbers receivable owed =
    let s = registers_of plan h in
    let d = s.documents in
    let bills = s.receivables.bills in
    let is = all_drawn plan h legal in
    let one : (n : ℕ) (b : Bill) → bill_at n bills ≡ Some b → passing (λ (y : Bill). y.number == n) bills ≡ 1 = λ n b found. one_bill n (length bills) bills b found (numbers n) in
    let lined : AllByRecursion (λ (i : OrderItem). has_line plan i.account i.year ≡ true) d.items = all_so (IsOrdered plan d.orders) (λ i. has_line plan i.account i.year ≡ true) (λ i h. h.1) d.items is.ordered in
    record {
      rows = λ csv section. rows_are csv plan s section h;
      bills = λ fund.
          sum_same (λ (e : Entry). int_sum (of_bill plan s fund e) (parts_of plan s Bills e)) (λ (e : Entry). int_sum (λ (b : Bill). if drew is_bill b.number e then left_part plan fund s.receivables b else pos 0) bills)
          (λ e. bill_row plan s fund e one e.change.act) h
          ∙ shared (λ (b : Bill). drew is_bill b.number) (left_part plan fund s.receivables) h bills
          (all_so (IsBilled (length bills)) (λ (b : Bill). passing (drew is_bill b.number) h ≡ 1) (λ b k. drawn_one is_bill (length bills) h b.number is.bills k) bills is.billed)
          ∙ sym (receivable fund);
      voucher_amounts = amount_rows plan s h;
      vouchers = λ fund.
          ap (λ z. pos 0 -ℤ z)
          (sum_same (λ (e : Entry). int_sum (of_voucher s fund e) (parts_of plan s Vouchers e)) (λ (e : Entry). int_sum (λ (x : Expenditure). if drew is_voucher x.voucher e then open_part fund x else pos 0) d.expenditures)
          (λ e. voucher_row plan s fund e is.states e.change.act) h
          ∙ shared (λ (x : Expenditure). drew is_voucher x.voucher) (open_part fund) h d.expenditures
          (all_so (HasState is.states.of d.vouchers) (λ (x : Expenditure). passing (drew is_voucher x.voucher) h ≡ 1) (λ x k. drawn_one is_voucher d.vouchers h x.voucher is.vouchers k.0) d.expenditures is.states.each)
          ∙ ap (λ (x : Documents). int_sum (open_part fund) x.expenditures) (documents_are plan h))
          ∙ sym (owed fund);
      orders = λ line year.
          sum_same (λ (e : Entry). int_sum (on_line line year e) (parts_of plan s Orders e)) (λ (e : Entry). int_sum (λ (i : OrderItem). if drew is_order i.order e then line_part plan line year i else pos 0) d.items)
          (λ e. order_row plan line year e s lined e.change.act) h
          ∙ shared (λ (i : OrderItem). drew is_order i.order) (line_part plan line year) h d.items
          (all_so (IsOrdered plan d.orders) (λ (i : OrderItem). passing (drew is_order i.order) h ≡ 1) (λ i k. drawn_one is_order d.orders h i.order is.orders k.0) d.items is.ordered)
          ∙ sym (sum_pos (λ (i : OrderItem). if counts plan line year i.account i.year then open_of i else 0) d.items)
          ∙ ap (λ (x : Documents). pos (encumbered_sum plan line year x.items)) (documents_are plan h);
    }
