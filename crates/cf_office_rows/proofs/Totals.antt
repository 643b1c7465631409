-- The rows of a legal history add up to its numbers.
use Rattle.std.proofs.Common.{◌≡◌, ℕ, ◌+◌, ◌-◌, ◌<◌, ◌≤◌, Bool, true, false, not, ◌&&◌, ◌||◌, ◌==◌, nat_lt, if◌then◌else◌, List, [], ◌∷◌, ◌++◌, length, map, flat_map, Option, Some, None, ℤ, pos, ◌+ℤ◌, ◌-ℤ◌, refl, sym, ap, subst, ◌∙◌, arith, append_assoc, append-nil, filter, int_eq}
use Rattle.cf_base.proofs.Common.{AllByRecursion, range_with_len, common_steps, ints}
use Rattle.cf_model.specs.Common.{Day, Act, Adopt, Amend, Transfer, Requisition, Withdraw, Order, ChangeOrder, CancelOrder, Voucher, VoidVoucher, PayDue, Leave, Close, Lease, Earn, Use, Mature, Drawn, Entry, LineAmount, Line, document_year, rolled_year, year_of_day, Hold, Documents, is_number, or_zero, added_by, appropriated, encumbered, expended, is_line, removed_by, Move, carried_by, charge_move, moved_sum, moves_of, order_move, releases, reopen_move, spend_move, spending_move, spent_by, unspend_move, OrderItem, item_step, may_carry, act_posts, posts_after, Registers, no_registers, registers_after, registers_of, registers_step, document_number, draws, bonds_spendings, Adds, IsLegal}
use Rattle.cf_calls.specs.declared.read.Basis.TheVariants.{Fund as FundBasis}
use Rattle.cf_chart.specs.Common.{Plan, line_at}
use Rattle.cf_ledger.specs.declared.post.Post.{Post}
use Rattle.cf_ledger.specs.Posts.{sum_where}
use Rattle.cf_model.specs.LineNumbers.{held}
use Rattle.cf_model.proofs.Common.{accepted, appropriated_push, encumbered_push, expended_push, held_push, legal_induction, legal_push, documents_are, all_append}
use Rattle.cf_registers.specs.Dues.{leased, paid_leave}
use Rattle.cf_office_rows.specs.declared.rows.Amounts.{Amounts}
use Rattle.cf_office_rows.specs.declared.rows.LedgerRow.{LedgerRow}
use Rattle.cf_office_rows.specs.declared.rows.Origin.{Origin}
use Rattle.cf_office_rows.specs.Council.{adopted_rows}
use Rattle.cf_office_rows.specs.Entries.{act_rows, bill_by, entry_rows, is_revenue, moves_by, received_row, received_rows}
use Rattle.cf_office_rows.specs.History.{AddUp, history_rows, rows_after}
use Rattle.cf_office_rows.specs.Items.{item_rows, joined, paired_rows, same_place, same_rows, with_both}
use Rattle.cf_office_rows.specs.Rolls.{carried_row, lapse_move, leave_move, order_rows, requisition_rows, roll_item, roll_items, roll_rows}
use Rattle.cf_office_rows.specs.Rows.{appropriates, changes, is_of_source, kept, line_sum, on_line, on_line_if, on_move, origin, source_sum}
use Rattle.cf_office_rows.proofs.Laws.{act_sum, moved_of}
use Rattle.cf_office_rows.proofs.Orderly.{IsOrderly, orderly_always}
use Rattle.cf_office_rows.proofs.Sums.{IsNumber, sum_append, sum_kept}

-- ---- one entry more

rows_after_push : (plan : Plan) (s : Registers) (n : ℕ) (h : List Entry) (e : Entry) →
    rows_after plan s n (h ++ e ∷ []) ≡ rows_after plan s n h ++ entry_rows plan (registers_after plan s h) (length h + n) e (act_posts FundBasis plan (registers_after plan s h) e.change.on e.change.act)
rows_after_push plan s n [] e =
    append-nil (entry_rows plan s n e (act_posts FundBasis plan s e.change.on e.change.act))
    ∙ ap (λ m. entry_rows plan s m e (act_posts FundBasis plan s e.change.on e.change.act)) (let same : n ≡ 0 + n = omega arith in same)
rows_after_push plan s n (x ∷ h) e =
    let here = entry_rows plan s n x (act_posts FundBasis plan s x.change.on x.change.act) in
    let t = registers_after plan (registers_step plan s x) h in
    let moved : length h + (n + 1) ≡ length (x ∷ h) + n = omega arith in
    ap (λ r. here ++ r) (rows_after_push plan (registers_step plan s x) (n + 1) h e)
    ∙ sym (append_assoc here (rows_after plan (registers_step plan s x) (n + 1) h) (entry_rows plan t (length h + (n + 1)) e (act_posts FundBasis plan t e.change.on e.change.act)))
    ∙ ap (λ m. (here ++ rows_after plan (registers_step plan s x) (n + 1) h) ++ entry_rows plan t m e (act_posts FundBasis plan t e.change.on e.change.act)) moved

-- ---- the four numbers

or_false : (a b : Bool) → (a || b) ≡ false → (a ≡ false) × (b ≡ false)
or_false true b e = cc
or_false false b e = (refl, e)

is_zero : (z : ℤ) → int_eq z (pos 0) ≡ true → z ≡ pos 0
is_zero z e = grind (arith, common_steps)

zero_is : (z : ℤ) → not (int_eq z (pos 0)) ≡ false → z ≡ pos 0
zero_is z e = by_test (int_eq z (pos 0)) refl e
  where
    by_test : (b : Bool) → int_eq z (pos 0) ≡ b → not b ≡ false → z ≡ pos 0
    by_test true is n = is_zero z is
    by_test false is n = cc

record AreZero (a : Amounts) : Type 0 where
  appropriated : a.appropriated ≡ pos 0
  ordered : a.ordered ≡ pos 0
  held : a.held ≡ pos 0
  spent : a.spent ≡ pos 0

are_zero : (a : Amounts) → changes a ≡ false → AreZero a
are_zero a e =
    let one = or_false _ _ e in
    let two = or_false _ _ one.0 in
    let three = or_false _ _ two.0 in
    let four = or_false _ _ three.0 in
    record { appropriated = zero_is _ four.0; ordered = zero_is _ four.1; held = zero_is _ three.1; spent = zero_is _ two.1 }

some_more : (z : ℤ) → z ≡ z +ℤ pos 0
some_more z = omega (arith, ints)

more_of : (z : ℤ) → z ≡ pos 0 +ℤ z
more_of z = omega (arith, ints)

abbrev none : ℤ → ℤ
none z = pos 0

abbrev itself : ℤ → ℤ
itself z = z

held_number : IsNumber (λ a. a.held) none
held_number = record { none = λ a e. (are_zero a e).held; both = λ h e s i o t. refl; gives = λ z. refl; carries = λ z. refl; adds = λ y z. refl; zero = refl }

ordered_number : IsNumber (λ a. a.ordered) none
ordered_number = record { none = λ a e. (are_zero a e).ordered; both = λ h e s i o t. refl; gives = λ z. refl; carries = more_of; adds = λ y z. refl; zero = refl }

spent_number : IsNumber (λ a. a.spent) none
spent_number = record { none = λ a e. (are_zero a e).spent; both = λ h e s i o t. refl; gives = λ z. refl; carries = λ z. refl; adds = λ y z. refl; zero = refl }

appropriated_number : IsNumber (λ a. a.appropriated) itself
appropriated_number = record { none = λ a e. (are_zero a e).appropriated; both = λ h e s i o t. refl; gives = λ z. refl; carries = some_more; adds = λ y z. refl; zero = refl }

-- ---- rows of sources are of no line

and_false : (b : Bool) → (b && false) ≡ false
and_false true = refl
and_false false = refl

no_line : (f : Amounts → ℤ) (line year place bill : ℕ) (posts : List Post) → line_sum f line year (received_rows place bill posts) ≡ pos 0
no_line f line year place bill [] = refl
no_line f line year place bill (p ∷ posts) = by_test (is_revenue p) (no_line f line year place bill posts)
  where
    by_test : (b : Bool) → line_sum f line year (received_rows place bill posts) ≡ pos 0 →
        line_sum f line year ((if b then received_row place bill p ∷ [] else []) ++ received_rows place bill posts) ≡ pos 0
    by_test true rest = λ i. (if and_false (p.year == year) i then f (received_row place bill p).by else pos 0) +ℤ rest i
    by_test false rest = rest

entry_sum : (f : Amounts → ℤ) (g : ℤ → ℤ) → IsNumber f g → (plan : Plan) (line year : ℕ) (s : Registers) (place : ℕ) (e : Entry) (posts : List Post) → IsOrderly s.documents →
    line_sum f line year (entry_rows plan s place e posts) ≡ moved_of f g plan line year s e.change.on e.change.act
entry_sum f g number plan line year s place e posts orderly =
    let acts = act_rows plan s place e.drawn e.change.on e.change.act in
    let received = received_rows place (bill_by e.drawn e.change.act) posts in
    sum_append f line year (kept acts) (kept received)
    ∙ (λ i. (sum_kept f number.none line year acts ∙ act_sum f g number plan line year s place e.drawn e.change.on e.change.act orderly) i
    +ℤ (sum_kept f number.none line year received ∙ no_line f line year place (bill_by e.drawn e.change.act) posts) i)
    ∙ sym (some_more _)

-- what a history's rows make of a number, where each entry changes it by what it moves
record SumsTo (f : Amounts → ℤ) (plan : Plan) (line year : ℕ) (number : List Entry → ℤ) (h : List Entry) : Type 0 where
  legal : IsLegal plan h
  sum : line_sum f line year (history_rows plan h) ≡ number h

history_sum : (f : Amounts → ℤ) (g : ℤ → ℤ) → IsNumber f g → (plan : Plan) (line year : ℕ) (number : List Entry → ℤ) → number [] ≡ pos 0 →
    ((h : List Entry) (e : Entry) → IsLegal plan h → Adds plan h e → number (h ++ e ∷ []) ≡ number h +ℤ moved_of f g plan line year (registers_of plan h) e.change.on e.change.act) →
    (h : List Entry) → IsLegal plan h → line_sum f line year (history_rows plan h) ≡ number h
history_sum f g is plan line year number start push h legal = (legal_induction plan (SumsTo f plan line year number) (record { legal = tt; sum = sym start }) step h legal).sum
  where
    step : (h : List Entry) (e : Entry) → SumsTo f plan line year number h → Adds plan h e → SumsTo f plan line year number (h ++ e ∷ [])
    step h e s adds =
        let before = registers_of plan h in
        let posts = act_posts FundBasis plan before e.change.on e.change.act in
        let orderly : IsOrderly before.documents = subst IsOrderly (sym (documents_are plan h)) (orderly_always plan h s.legal) in
        record {
          legal = legal_push plan h e s.legal adds;
          sum = ap (line_sum f line year) (rows_after_push plan no_registers 1 h e)
              ∙ sum_append f line year (history_rows plan h) (entry_rows plan before (length h + 1) e posts)
              ∙ (λ i. s.sum i +ℤ entry_sum f g is plan line year before (length h + 1) e posts orderly i)
              ∙ sym (push h e s.legal adds);
        }

-- what an entry moves, by the number that it drew
drawn_sum : (f : Move → ℤ) (plan : Plan) (line year : ℕ) (h : List Entry) (e : Entry) → Adds plan h e →
    moved_sum f plan line year (moves_of plan (registers_of plan h) e.drawn.number e.change.on e.change.act)
    ≡ pos 0 +ℤ moved_sum f plan line year (moves_of plan (registers_of plan h) (draws (registers_of plan h) e.change.act).number e.change.on e.change.act)
drawn_sum f plan line year h e adds =
    ap (λ n. moved_sum f plan line year (moves_of plan (registers_of plan h) n e.change.on e.change.act)) (ap (λ (x : Entry). x.drawn.number) (accepted plan h e adds).entry) ∙ more_of _

no_sum : (plan : Plan) (line year : ℕ) (moves : List Move) → moved_sum (λ m. pos 0) plan line year moves ≡ pos 0
no_sum plan line year [] = refl
no_sum plan line year (m ∷ moves) = by_test _ (no_sum plan line year moves)
  where
    by_test : (b : Bool) → moved_sum (λ m. pos 0) plan line year moves ≡ pos 0 → (if b then pos 0 else pos 0) +ℤ moved_sum (λ m. pos 0) plan line year moves ≡ pos 0
    by_test true e = ap (λ z. pos 0 +ℤ z) e
    by_test false e = ap (λ z. pos 0 +ℤ z) e

-- ---- rows of lines are of no source

abbrev IsOfLine : LedgerRow → Type 0
IsOfLine r = r.source ≡ None

abbrev AreOfLines : List LedgerRow → Type 0
AreOfLines rows = AllByRecursion IsOfLine rows

of_items : (plan : Plan) (place document item : ℕ) (moves : List Move) → AreOfLines (item_rows plan place document item moves)
of_items plan place document item [] = tt
of_items plan place document item (m ∷ moves) = (refl, of_items plan place document (item + 1) moves)

of_same : (plan : Plan) (of : Origin) (moves : List Move) → AreOfLines (same_rows plan of moves)
of_same plan of [] = tt
of_same plan of (m ∷ moves) = (refl, of_same plan of moves)

of_paired : (plan : Plan) (place document item : ℕ) (ms ns : List Move) → AreOfLines (paired_rows plan place document item ms ns)
of_paired plan place document item [] [] = tt
of_paired plan place document item [] (n ∷ ns) = tt
of_paired plan place document item (m ∷ ms) [] = tt
of_paired plan place document item (m ∷ ms) (n ∷ ns) =
    all_append IsOfLine (joined plan (origin place document item) m n) (paired_rows plan place document (item + 1) ms ns) (by_test (same_place plan m n)) (of_paired plan place document (item + 1) ms ns)
  where
    by_test : (b : Bool) → AreOfLines (if b then on_move plan (origin place document item) (with_both m n) ∷ [] else on_move plan (origin place document item) m ∷ on_move plan (origin place document item) n ∷ [])
    by_test true = (refl, tt)
    by_test false = (refl, (refl, tt))

of_line : (plan : Plan) (of : Origin) (number y : ℕ) (by : Amounts) → IsOfLine (on_line plan of number y by)
of_line plan of number y by = by_line (line_at plan number)
  where
    by_line : (l : Option Line) → IsOfLine (on_line_if l of number y by)
    by_line None = refl
    by_line (Some l) = refl

of_adopted : (plan : Plan) (place y : ℕ) (lines : List LineAmount) → AreOfLines (adopted_rows plan place y lines)
of_adopted plan place y [] = tt
of_adopted plan place y (l ∷ lines) = (of_line plan (origin place 0 0) l.line y (appropriates (pos l.amount)), of_adopted plan place y lines)

of_rolled : (plan : Plan) (place year document item : ℕ) (items : List OrderItem) → AreOfLines (roll_items plan place year document item items)
of_rolled plan place year document item [] = tt
of_rolled plan place year document item (i ∷ items) =
    all_append IsOfLine (roll_item plan year (origin place document item) i) (roll_items plan place year document (item + 1) items) (by_test (i.year == year) (may_carry plan i)) (of_rolled plan place year document (item + 1) items)
  where
    of : Origin
    of = origin place document item

    by_test : (b c : Bool) → AreOfLines (if b then on_move plan of (leave_move i) ∷ (if c then carried_row plan of i ∷ [] else []) else [])
    by_test true true = (refl, (refl, tt))
    by_test true false = (refl, tt)
    by_test false c = tt

of_flat : {A : Type 0} (rows : A → List LedgerRow) → ((x : A) → AreOfLines (rows x)) → (xs : List A) → AreOfLines (flat_map rows xs)
of_flat rows each [] = tt
of_flat rows each (x ∷ xs) = all_append IsOfLine (rows x) (flat_map rows xs) (each x) (of_flat rows each xs)

of_roll : (plan : Plan) (s : Documents) (place : ℕ) (year : Option ℕ) → AreOfLines (roll_rows plan s place year)
of_roll plan s place None = tt
of_roll plan s place (Some year) =
    all_append IsOfLine (flat_map (requisition_rows plan place year s.holds) (range_with_len 1 s.requisitions)) (flat_map (order_rows plan place year s.items) (range_with_len 1 s.orders))
    (of_flat (requisition_rows plan place year s.holds) (λ n. of_items plan place n 1 (map (lapse_move year) (filter (λ (h : Hold). is_number (Some n) h.requisition) s.holds))) (range_with_len 1 s.requisitions))
    (of_flat (order_rows plan place year s.items) (λ n. of_rolled plan place year n 1 (filter (λ (i : OrderItem). i.order == n) s.items)) (range_with_len 1 s.orders))

of_lines : (plan : Plan) (s : Registers) (place : ℕ) (drawn : Drawn) (on : Day) (act : Act) → AreOfLines (act_rows plan s place drawn on act)
of_lines plan s place drawn on (Adopt a) = of_adopted plan place a.year a.lines
of_lines plan s place drawn on (Amend a) = (of_line plan (origin place 0 0) a.line a.year (appropriates a.by), tt)
of_lines plan s place drawn on (Transfer t) =
    (of_line plan (origin place 0 0) t.from t.year (appropriates (pos 0 -ℤ pos t.amount)), (of_line plan (origin place 0 0) t.to t.year (appropriates (pos t.amount)), tt))
of_lines plan s place drawn on (PayDue d) = of_same plan (origin place d.bond drawn.number) (map spending_move (bonds_spendings plan d (filter (λ b. b.number == d.bond) s.bonds)))
of_lines plan s place drawn on (Leave (Mature l)) = of_same plan (origin place 0 0) (map spending_move (paid_leave l (year_of_day plan on)))
of_lines plan s place drawn on (Leave (Earn l)) = tt
of_lines plan s place drawn on (Leave (Use l)) = tt
of_lines plan s place drawn on (Lease l) = of_same plan (origin place drawn.second 0) (map spending_move (leased l (year_of_day plan on)))
of_lines plan s place drawn on (Close p) = of_roll plan s.documents place (rolled_year plan (Close p))
of_lines plan s place drawn on (Requisition r) = of_items plan place drawn.number 1 (moves_by plan s.documents on (Requisition r))
of_lines plan s place drawn on (Withdraw n) = of_items plan place n 1 (moves_by plan s.documents on (Withdraw n))
of_lines plan s place drawn on (Order o) =
    all_append IsOfLine (item_rows plan place (or_zero o.requisition) 1 (releases o.requisition s.documents.holds)) (item_rows plan place drawn.number 1 (map (order_move (document_year plan on (Order o))) o.items))
    (of_items plan place (or_zero o.requisition) 1 (releases o.requisition s.documents.holds)) (of_items plan place drawn.number 1 (map (order_move (document_year plan on (Order o))) o.items))
of_lines plan s place drawn on (ChangeOrder c) = of_same plan (origin place c.order c.item) (moves_by plan s.documents on (ChangeOrder c))
of_lines plan s place drawn on (CancelOrder n) = of_items plan place n 1 (moves_by plan s.documents on (CancelOrder n))
of_lines plan s place drawn on (Voucher v) =
    of_paired plan place drawn.number 1 (map (spend_move (document_year plan on (Voucher v))) v.items)
    (map (charge_move (item_step plan (document_number s.documents (Voucher v)) (Voucher v)) s.documents.items (document_year plan on (Voucher v))) v.items)
of_lines plan s place drawn on (VoidVoucher n) =
    of_paired plan place n 1 (map unspend_move (spent_by n s.documents.expenditures))
    (map (reopen_move (item_step plan (document_number s.documents (VoidVoucher n)) (VoidVoucher n)) s.documents.items) (spent_by n s.documents.expenditures))
of_lines plan s place drawn on _ = tt

-- ---- what is received

source_append : (source year : ℕ) (xs ys : List LedgerRow) → source_sum source year (xs ++ ys) ≡ source_sum source year xs +ℤ source_sum source year ys
source_append source year [] ys = more_of (source_sum source year ys)
source_append source year (x ∷ xs) ys = ap (λ z. (if is_of_source source year x then x.by.received else pos 0) +ℤ z) (source_append source year xs ys)
    ∙ sym (grouped (if is_of_source source year x then x.by.received else pos 0) (source_sum source year xs) (source_sum source year ys))
  where
    grouped : (x y z : ℤ) → (x +ℤ y) +ℤ z ≡ x +ℤ (y +ℤ z)
    grouped x y z = omega (arith, ints)

source_kept : (source year : ℕ) (rows : List LedgerRow) → source_sum source year (kept rows) ≡ source_sum source year rows
source_kept source year [] = refl
source_kept source year (r ∷ rows) = by_test (changes r.by) refl (source_kept source year rows)
  where
    zero_if : (b : Bool) (z : ℤ) → z ≡ pos 0 → (if b then z else pos 0) ≡ pos 0
    zero_if true z e = e
    zero_if false z e = refl

    by_test : (b : Bool) → changes r.by ≡ b → source_sum source year (kept rows) ≡ source_sum source year rows →
        source_sum source year (if b then r ∷ kept rows else kept rows) ≡ (if is_of_source source year r then r.by.received else pos 0) +ℤ source_sum source year rows
    by_test true e more = ap (λ z. (if is_of_source source year r then r.by.received else pos 0) +ℤ z) more
    by_test false e more =
        more ∙ more_of (source_sum source year rows)
        ∙ ap (λ z. z +ℤ source_sum source year rows) (sym (zero_if (is_of_source source year r) r.by.received (zero_is r.by.received (or_false _ _ e).1)))

no_source : (source year : ℕ) (rows : List LedgerRow) → AreOfLines rows → source_sum source year rows ≡ pos 0
no_source source year [] lines = refl
no_source source year (r ∷ rows) lines =
    λ i. (if (ap (λ (o : Option ℕ). (r.year == year) && is_line source o) lines.0 ∙ and_false (r.year == year)) i then r.by.received else pos 0) +ℤ no_source source year rows lines.1 i

-- whether a post is revenue of a source and year
abbrev is_revenue_of : ℕ → ℕ → Post → Bool
is_revenue_of source year p = (p.account == 400000 + source) && (p.year == year)

turned : (a b : Bool) → (a && b) ≡ (b && a)
turned true true = refl
turned true false = refl
turned false true = refl
turned false false = refl

split : (a b : Bool) → (a && b) ≡ true → (a ≡ true) × (b ≡ true)
split true b e = (refl, e)
split false b e = cc

lower : (m n : ℕ) → nat_lt m n ≡ true → m < n
lower m n e = grind (arith, common_steps)

same_source : (account source : ℕ) → 400000 < account → (account - 400000 == source) ≡ (account == 400000 + source)
same_source account source l = by_test (account == 400000 + source) refl
  where
    by_test : (b : Bool) → (account == 400000 + source) ≡ b → (account - 400000 == source) ≡ b
    by_test true e = grind (arith, common_steps)
    by_test false e = grind (arith, common_steps)

not_source : (account source : ℕ) → (nat_lt 400000 account && nat_lt account 410000) ≡ false → 1 ≤ source → source < 10000 → (account == 400000 + source) ≡ false
not_source account source out first last = by_test (account == 400000 + source) refl
  where
    met : (m n : ℕ) → (m == n) ≡ true → m ≡ n
    met m n e = grind (arith, common_steps)

    below : (m n : ℕ) → m < n → nat_lt m n ≡ true
    below m n l = grind (arith, common_steps)

    inside : (m : ℕ) → m ≡ 400000 + source → (nat_lt 400000 m && nat_lt m 410000) ≡ true
    inside m e = λ i. below 400000 m (omega (arith, e, first)) i && below m 410000 (omega (arith, e, last)) i

    by_test : (b : Bool) → (account == 400000 + source) ≡ b → b ≡ false
    by_test true e = absurd_test (sym out ∙ inside account (met account (400000 + source) e))
      where
        absurd_test : false ≡ true → true ≡ false
        absurd_test e = sym e
    by_test false e = refl

received_sum : (source year place bill : ℕ) → 1 ≤ source → source < 10000 → (posts : List Post) →
    source_sum source year (received_rows place bill posts) ≡ pos 0 -ℤ sum_where (is_revenue_of source year) posts
received_sum source year place bill from to [] = refl
received_sum source year place bill from to (p ∷ posts) = by_test (is_revenue p) refl (received_sum source year place bill from to posts)
  where
    less : (b : Bool) (a s : ℤ) → (if b then pos 0 -ℤ a else pos 0) +ℤ (pos 0 -ℤ s) ≡ pos 0 -ℤ ((if b then a else pos 0) +ℤ s)
    less true a s = omega (arith, ints)
    less false a s = omega (arith, ints)

    none_less : (s : ℤ) → pos 0 -ℤ s ≡ pos 0 -ℤ (pos 0 +ℤ s)
    none_less s = omega (arith, ints)

    by_test : (b : Bool) → is_revenue p ≡ b → source_sum source year (received_rows place bill posts) ≡ pos 0 -ℤ sum_where (is_revenue_of source year) posts →
        source_sum source year ((if b then received_row place bill p ∷ [] else []) ++ received_rows place bill posts)
        ≡ pos 0 -ℤ ((if is_revenue_of source year p then p.amount else pos 0) +ℤ sum_where (is_revenue_of source year) posts)
    by_test true e more =
        let above = lower 400000 p.account (split (nat_lt 400000 p.account) (nat_lt p.account 410000) e).0 in
        (λ i. (if (turned (p.year == year) (p.account - 400000 == source) ∙ ap (λ (b : Bool). b && (p.year == year)) (same_source p.account source above)) i then pos 0 -ℤ p.amount else pos 0) +ℤ more i)
        ∙ less (is_revenue_of source year p) p.amount (sum_where (is_revenue_of source year) posts)
    by_test false e more =
        more ∙ none_less (sum_where (is_revenue_of source year) posts)
        ∙ ap (λ (b : Bool). pos 0 -ℤ ((if b && (p.year == year) then p.amount else pos 0) +ℤ sum_where (is_revenue_of source year) posts)) (sym (not_source p.account source e from to))

where_append : (test : Post → Bool) (xs ys : List Post) → sum_where test (xs ++ ys) ≡ sum_where test xs +ℤ sum_where test ys
where_append test [] ys = more_of (sum_where test ys)
where_append test (x ∷ xs) ys = ap (λ z. (if test x then x.amount else pos 0) +ℤ z) (where_append test xs ys)
    ∙ sym (grouped (if test x then x.amount else pos 0) (sum_where test xs) (sum_where test ys))
  where
    grouped : (x y z : ℤ) → (x +ℤ y) +ℤ z ≡ x +ℤ (y +ℤ z)
    grouped x y z = omega (arith, ints)

source_total : (source year : ℕ) → 1 ≤ source → source < 10000 → (plan : Plan) (s : Registers) (place : ℕ) (h : List Entry) →
    source_sum source year (rows_after plan s place h) ≡ pos 0 -ℤ sum_where (is_revenue_of source year) (posts_after FundBasis plan s h)
source_total source year from to plan s place [] = refl
source_total source year from to plan s place (e ∷ later) =
    let posts = act_posts FundBasis plan s e.change.on e.change.act in
    let acts = act_rows plan s place e.drawn e.change.on e.change.act in
    let received = received_rows place (bill_by e.drawn e.change.act) posts in
    let rest = rows_after plan (registers_step plan s e) (place + 1) later in
    let test = is_revenue_of source year in
    source_append source year (entry_rows plan s place e posts) rest
    ∙ (λ i. (source_append source year (kept acts) (kept received)
    ∙ (λ j. (source_kept source year acts ∙ no_source source year acts (of_lines plan s place e.drawn e.change.on e.change.act)) j
    +ℤ (source_kept source year received ∙ received_sum source year place (bill_by e.drawn e.change.act) from to posts) j)) i
    +ℤ source_total source year from to plan (registers_step plan s e) (place + 1) later i)
    ∙ less (sum_where test posts) (sum_where test (posts_after FundBasis plan (registers_step plan s e) later))
    ∙ ap (λ z. pos 0 -ℤ z) (sym (where_append test posts (posts_after FundBasis plan (registers_step plan s e) later)))
  where
    less : (a b : ℤ) → (pos 0 +ℤ (pos 0 -ℤ a)) +ℤ (pos 0 -ℤ b) ≡ pos 0 -ℤ (a +ℤ b)
    less a b = omega (arith, ints)

-- ---- all of them

pub adds_up : (plan : Plan) (h : List Entry) → IsLegal plan h → AddUp plan h (history_rows plan h)
adds_up plan h legal = record {
  appropriated = λ line year. history_sum (λ a. a.appropriated) itself appropriated_number plan line year (λ h. appropriated plan line year h) refl
      (λ h e legal adds.
      appropriated_push plan line year h e
      ∙ ap (λ (d : Documents). appropriated plan line year h +ℤ (pos (added_by line year e.change.act + carried_by plan d line year e.change.act) -ℤ pos (removed_by line year e.change.act))) (sym (documents_are plan h))
      ∙ ap (λ z. appropriated plan line year h +ℤ z) (some_more _
      ∙ ap (λ z. (pos (added_by line year e.change.act + carried_by plan (registers_of plan h).documents line year e.change.act) -ℤ pos (removed_by line year e.change.act)) +ℤ z)
      (sym (no_sum plan line year (moves_of plan (registers_of plan h) (draws (registers_of plan h) e.change.act).number e.change.on e.change.act))))) h legal;
  ordered = λ line year. history_sum (λ a. a.ordered) none ordered_number plan line year (λ h. pos (encumbered plan line year h)) refl
      (λ h e legal adds. encumbered_push plan line year h e adds.form.act legal ∙ ap (λ z. pos (encumbered plan line year h) +ℤ z) (drawn_sum (λ m. m.encumbered) plan line year h e adds)) h legal;
  held = λ line year. history_sum (λ a. a.held) none held_number plan line year (λ h. pos (held plan line year h)) refl
      (λ h e legal adds. held_push plan line year h e ∙ ap (λ z. pos (held plan line year h) +ℤ z) (drawn_sum (λ m. m.held) plan line year h e adds)) h legal;
  spent = λ line year. history_sum (λ a. a.spent) none spent_number plan line year (λ h. pos (expended plan line year h)) refl
      (λ h e legal adds. expended_push plan line year h e ∙ ap (λ z. pos (expended plan line year h) +ℤ z) (drawn_sum (λ m. m.expended) plan line year h e adds)) h legal;
  received = λ source year from to. source_total source year from to plan no_registers 1 h;
}
