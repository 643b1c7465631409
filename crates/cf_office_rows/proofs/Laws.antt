-- The rows of each entry add up to what it moves, and those of a legal history to its numbers.
use Rattle.std.proofs.Common.{◌≡◌, ℕ, zero, ◌+◌, ◌≤◌, Bool, true, false, not, ◌&&◌, ◌||◌, ◌==◌, if◌then◌else◌, List, [], ◌∷◌, ◌++◌, map, flat_map, Option, Some, None, ℤ, pos, negsuc, ◌+ℤ◌, ◌-ℤ◌, refl, sym, ap, ◌∙◌, arith, filter}
use Rattle.cf_base.proofs.Common.{AllByRecursion, range_with_len, common_steps, ints, sum_by-append, sum_by-cons}
use Rattle.cf_model.specs.Common.{Day, Act, Adopt, Amend, Transfer, Requisition, Withdraw, Order, ChangeOrder, CancelOrder, Voucher, VoidVoucher, Pay, Collect, Receive, WriteOff, Issue, PayDue, Leave, Interfund, Close, Lease, Donate, Dispose, Earn, Use, Mature, Drawn, LineAmount, Line, document_year, is_year, rolled_year, rolls, year_of_day, Hold, Documents, or_zero, added_by, amount_for, carried_sum, counts, fall_of, removed_by, rise_of, Move, carried_by, charge_move, lapses_of, moved_sum, moves_of, order_move, release_move, releases, reopen_move, roll_moves, spend_move, spending_move, spent_by, unspend_move, Carried, OrderItem, carried_of, is_live, item_step, lapses, may_carry, open_of, Registers, document_number, draws, bonds_spendings, int_sum}
use Rattle.cf_calls.specs.declared.acts.Act.TheVariants.{Bill, Asset}
use Rattle.cf_chart.specs.Common.{Plan, line_at}
use Rattle.cf_model.proofs.Common.{nothing_rolled, at, moved_append, moved_map, sum_filter}
use Rattle.cf_model.proofs.Totals as totals
use Rattle.cf_registers.specs.Dues.{leased, paid_leave}
use Rattle.cf_office_rows.specs.declared.rows.Amounts.{Amounts}
use Rattle.cf_office_rows.specs.declared.rows.LedgerRow.{LedgerRow}
use Rattle.cf_office_rows.specs.declared.rows.Origin.{Origin}
use Rattle.cf_office_rows.specs.Council.{adopted_rows}
use Rattle.cf_office_rows.specs.Entries.{act_rows, moves_by}
use Rattle.cf_office_rows.specs.Items.{item_rows}
use Rattle.cf_office_rows.specs.Rolls.{carries_amount, lapse_move, order_rows, requisition_rows, roll_item, roll_items, roll_rows}
use Rattle.cf_office_rows.specs.Rows.{amounts_of, appropriates, line_sum, on_account, on_line, on_line_if, origin}
use Rattle.cf_office_rows.proofs.Orderly.{IsOrderly}
use Rattle.cf_office_rows.proofs.Sums.{IsNumber, of_move, sum_append, sum_flat, sum_items, sum_numbered, sum_paired, sum_same}

first : (z : ℤ) → pos 0 +ℤ z ≡ z
first z = omega (arith, ints)

last : (z : ℤ) → z +ℤ pos 0 ≡ z
last z = omega (arith, ints)

less_none : (n : ℕ) → pos (n + 0) -ℤ pos 0 ≡ pos n
less_none n = omega (arith, ints)

-- ---- what the council moves

-- what is moved of a line's number by an appropriation of it
abbrev named : (ℤ → ℤ) → ℕ → ℕ → ℕ → ℕ → ℤ → ℤ
named g line year number y z = if (y == year) && (number == line) then g z else pos 0

sum_line : (f : Amounts → ℤ) (g : ℤ → ℤ) → IsNumber f g → (plan : Plan) (line year : ℕ) (of : Origin) (number y : ℕ) (z : ℤ) (rows : List LedgerRow) →
    line_sum f line year (on_line plan of number y (appropriates z) ∷ rows) ≡ named g line year number y z +ℤ line_sum f line year rows
sum_line f g number plan line year of n y z rows = by_line (line_at plan n)
  where
    by_line : (l : Option Line) → line_sum f line year (on_line_if l of n y (appropriates z) ∷ rows) ≡ named g line year n y z +ℤ line_sum f line year rows
    by_line None = ap (λ x. (if (y == year) && (n == line) then x else pos 0) +ℤ line_sum f line year rows) (number.gives z)
    by_line (Some l) = ap (λ x. (if (y == year) && (n == line) then x else pos 0) +ℤ line_sum f line year rows) (number.gives z)

two : (a b : ℕ) → pos (a + b) ≡ pos a +ℤ pos b
two a b = omega (arith, ints)

sum_adopted : (f : Amounts → ℤ) (g : ℤ → ℤ) → IsNumber f g → (plan : Plan) (line year place y : ℕ) (lines : List LineAmount) →
    line_sum f line year (adopted_rows plan place y lines) ≡ g (pos (if y == year then amount_for line lines else 0))
sum_adopted f g number plan line year place y lines = by_year (y == year) refl lines
  where
    by_year : (b : Bool) → (y == year) ≡ b → (lines : List LineAmount) → line_sum f line year (adopted_rows plan place y lines) ≡ g (pos (if b then amount_for line lines else 0))
    by_year true e [] = sym number.zero
    by_year false e [] = sym number.zero
    by_year true e (l ∷ lines) =
        sum_line f g number plan line year (origin place 0 0) l.line y (pos l.amount) (adopted_rows plan place y lines)
        ∙ (λ i. (if e i && (l.line == line) then g (pos l.amount) else pos 0) +ℤ by_year true e lines i)
        ∙ one (l.line == line) (amount_for line lines)
        ∙ ap (λ n. g (pos n)) (sym (sum_by-cons (λ (r : LineAmount). if r.line == line then r.amount else 0) l lines))
      where
        one : (b : Bool) (n : ℕ) → (if b then g (pos l.amount) else pos 0) +ℤ g (pos n) ≡ g (pos ((if b then l.amount else 0) + n))
        one true n = sym (ap g (two l.amount n) ∙ number.adds (pos l.amount) (pos n))
        one false n = first (g (pos n)) ∙ ap (λ m. g (pos m)) (let P : n ≡ 0 + n = omega arith in P)
    by_year false e (l ∷ lines) =
        sum_line f g number plan line year (origin place 0 0) l.line y (pos l.amount) (adopted_rows plan place y lines)
        ∙ (λ i. (if e i && (l.line == line) then g (pos l.amount) else pos 0) +ℤ by_year false e lines i)
        ∙ first (g (pos 0))

turned : (a b : Bool) → (a && b) ≡ (b && a)
turned true true = refl
turned true false = refl
turned false true = refl
turned false false = refl

by_parts : (by : ℤ) → by ≡ pos (rise_of by + 0) -ℤ pos (fall_of by)
by_parts (pos n) = omega (arith, ints)
by_parts (negsuc n) = omega (arith, ints)

amended : (f : Amounts → ℤ) (g : ℤ → ℤ) → IsNumber f g → (by : ℤ) (b : Bool) → (if b then g by else pos 0) +ℤ pos 0 ≡ g (pos ((if b then rise_of by else 0) + 0) -ℤ pos (if b then fall_of by else 0))
amended f g number by true = last (g by) ∙ ap g (by_parts by)
amended f g number by false = sym number.zero

transferred : (f : Amounts → ℤ) (g : ℤ → ℤ) → IsNumber f g → (n : ℕ) (b c : Bool) →
    (if b then g (pos 0 -ℤ pos n) else pos 0) +ℤ ((if c then g (pos n) else pos 0) +ℤ pos 0) ≡ g (pos ((if c then n else 0) + 0) -ℤ pos (if b then n else 0))
transferred f g number n true true =
    ap (λ z. g (pos 0 -ℤ pos n) +ℤ z) (last (g (pos n))) ∙ sym (number.adds (pos 0 -ℤ pos n) (pos n)) ∙ ap g (let P : (pos 0 -ℤ pos n) +ℤ pos n ≡ pos (n + 0) -ℤ pos n = omega (arith, ints) in P)
transferred f g number n true false = last (g (pos 0 -ℤ pos n))
transferred f g number n false true = first _ ∙ last (g (pos n)) ∙ ap g (let P : pos n ≡ pos (n + 0) -ℤ pos 0 = omega (arith, ints) in P)
transferred f g number n false false = sym number.zero

-- ---- rolls

-- what is moved of a number of nothing
no_moves : (f : Amounts → ℤ) (g : ℤ → ℤ) → IsNumber f g → f (amounts_of (pos 0) (pos 0) (pos 0)) ≡ pos 0
no_moves f g number = number.none (amounts_of (pos 0) (pos 0) (pos 0)) refl

if_zero : (b : Bool) (z : ℤ) → z ≡ pos 0 → (if b then z else pos 0) ≡ pos 0
if_zero true z e = e
if_zero false z e = refl

sum_lapsed : (f : Amounts → ℤ) (g : ℤ → ℤ) → IsNumber f g → (plan : Plan) (line z place year : ℕ) (act : Act) (holds : List Hold) (most : ℕ) → ((y : ℕ) → rolls plan y act ≡ (y == year)) →
    AllByRecursion (λ (h : Hold). (1 ≤ h.requisition) × (h.requisition ≤ most)) holds →
    line_sum f line z (flat_map (requisition_rows plan place year holds) (range_with_len 1 most)) ≡ moved_sum (of_move f) plan line z (lapses_of plan act holds)
sum_lapsed f g number plan line z place year act holds most same drawn =
    sum_flat f line z (requisition_rows plan place year holds) (range_with_len 1 most)
    ∙ totals.sum_same (λ n. line_sum f line z (requisition_rows plan place year holds n)) (λ n. int_sum lapsed (filter (λ (h : Hold). n == h.requisition) holds))
    (λ n. sum_items f plan line z place n 1 (map (lapse_move year) (filter (λ (h : Hold). n == h.requisition) holds)) ∙ moved_map (of_move f) plan line z (lapse_move year) (filter (λ (h : Hold). n == h.requisition) holds)) (range_with_len 1 most)
    ∙ sum_numbered (λ (h : Hold). h.requisition) lapsed most holds drawn
    ∙ totals.sum_same lapsed (λ h. if rolls plan h.year act then released h else pos 0) each holds
    ∙ sym (moved_map (of_move f) plan line z release_move (filter (λ (h : Hold). rolls plan h.year act) holds) ∙ sum_filter released (λ (h : Hold). rolls plan h.year act) holds)
  where
    lapsed : Hold → ℤ
    lapsed h = at (of_move f) plan line z (lapse_move year h)

    released : Hold → ℤ
    released h = at (of_move f) plan line z (release_move h)

    each : (h : Hold) → lapsed h ≡ (if rolls plan h.year act then released h else pos 0)
    each h = by_test (h.year == year) ∙ ap (λ (b : Bool). if b then released h else pos 0) (sym (same h.year))
      where
        still : Move
        still = record { account = h.account; year = h.year; held = pos 0; encumbered = pos 0; expended = pos 0 }

        by_test : (b : Bool) → at (of_move f) plan line z (if b then release_move h else still) ≡ (if b then released h else pos 0)
        by_test true = refl
        by_test false = if_zero (counts plan line z h.account h.year) (of_move f still) (no_moves f g number)

-- what an item's roll makes, by what it has open
abbrev item_rows_of : Plan → Origin → OrderItem → ℕ → Bool → Bool → List LedgerRow
item_rows_of plan of i n b carries =
    if b
    then on_account plan of i.account i.year (amounts_of (pos 0) (pos 0 -ℤ pos n) (pos 0)) ∷ (if carries then on_account plan of i.account (i.year + 1) (carries_amount (pos n)) ∷ [] else [])
    else []

any_origin : (f : Amounts → ℤ) (plan : Plan) (line z : ℕ) (of other : Origin) (i : OrderItem) (n : ℕ) (b c : Bool) → line_sum f line z (item_rows_of plan of i n b c) ≡ line_sum f line z (item_rows_of plan other i n b c)
any_origin f plan line z of other i n true true = refl
any_origin f plan line z of other i n true false = refl
any_origin f plan line z of other i n false c = refl

abbrev item_total : (Amounts → ℤ) → Plan → ℕ → ℕ → ℕ → OrderItem → ℤ
item_total f plan line z year i = line_sum f line z (roll_item plan year (origin 0 0 0) i)

sum_rolled : (f : Amounts → ℤ) (plan : Plan) (line z place year n item : ℕ) (items : List OrderItem) → line_sum f line z (roll_items plan place year n item items) ≡ int_sum (item_total f plan line z year) items
sum_rolled f plan line z place year n item [] = refl
sum_rolled f plan line z place year n item (i ∷ items) =
    sum_append f line z (roll_item plan year (origin place n item) i) (roll_items plan place year n (item + 1) items)
    ∙ (λ j. any_origin f plan line z (origin place n item) (origin 0 0 0) i (open_of i) (i.year == year) (may_carry plan i) j +ℤ sum_rolled f plan line z place year n (item + 1) items j)

abbrev fall : OrderItem → ℕ → Move
fall i n = record { account = i.account; year = i.year; held = pos 0; encumbered = pos 0 -ℤ pos n; expended = pos 0 }

abbrev rise : OrderItem → ℕ → Move
rise i n = record { account = i.account; year = i.year + 1; held = pos 0; encumbered = pos n; expended = pos 0 }

abbrev goes : OrderItem → ℕ → Carried
goes i n = record { account = i.account; year = i.year + 1; amount = n }

zeros : (f : Amounts → ℤ) (g : ℤ → ℤ) → IsNumber f g → (plan : Plan) (line z : ℕ) (i : OrderItem) (carries : Bool) → line_sum f line z (item_rows_of plan (origin 0 0 0) i 0 true carries) ≡ pos 0
zeros f g number plan line z i true =
    λ j. if_zero (counts plan line z i.account i.year) (f (amounts_of (pos 0) (pos 0) (pos 0))) (no_moves f g number) j
    +ℤ (if_zero (counts plan line z i.account (i.year + 1)) (f (carries_amount (pos 0))) (number.none (carries_amount (pos 0)) refl) j +ℤ pos 0)
zeros f g number plan line z i false = λ j. if_zero (counts plan line z i.account i.year) (f (amounts_of (pos 0) (pos 0) (pos 0))) (no_moves f g number) j +ℤ pos 0

rolled_law : (f : Amounts → ℤ) (g : ℤ → ℤ) → IsNumber f g → (plan : Plan) (line z : ℕ) (i : OrderItem) (n : ℕ) (b live none carries : Bool) → (live ≡ false → n ≡ 0) → (none ≡ true → n ≡ 0) →
    line_sum f line z (item_rows_of plan (origin 0 0 0) i n b carries)
    ≡ g (pos (carried_sum plan line z (if b && live && not (none || not carries) then goes i n ∷ [] else [])))
    +ℤ moved_sum (of_move f) plan line z (if b && live then fall i n ∷ (if none || not carries then [] else rise i n ∷ []) else [])
rolled_law f g number plan line z i n false live none carries dead empty = sym (ap (λ x. x +ℤ pos 0) number.zero)
rolled_law f g number plan line z i n true false none carries dead empty =
    ap (λ m. line_sum f line z (item_rows_of plan (origin 0 0 0) i m true carries)) (dead refl) ∙ zeros f g number plan line z i carries ∙ sym (ap (λ x. x +ℤ pos 0) number.zero)
rolled_law f g number plan line z i n true true true carries dead empty =
    ap (λ m. line_sum f line z (item_rows_of plan (origin 0 0 0) i m true carries)) (empty refl) ∙ zeros f g number plan line z i carries
    ∙ sym ((λ j. number.zero j +ℤ moved_sum (of_move f) plan line z (fall i (empty refl j) ∷ [])) ∙ first _
    ∙ ap (λ x. x +ℤ pos 0) (if_zero (counts plan line z i.account i.year) (of_move f (fall i 0)) (no_moves f g number)))
rolled_law f g number plan line z i n true true false false dead empty = sym (ap (λ x. x +ℤ moved_sum (of_move f) plan line z (fall i n ∷ [])) number.zero ∙ first _)
rolled_law f g number plan line z i n true true false true dead empty =
    by_count (counts plan line z i.account (i.year + 1)) (if counts plan line z i.account i.year then of_move f (fall i n) else pos 0)
    ∙ ap (λ m. g (pos m) +ℤ moved_sum (of_move f) plan line z (fall i n ∷ rise i n ∷ []))
    (sym (sum_by-cons (λ (c : Carried). if counts plan line z c.account c.year then c.amount else 0) (goes i n) []))
  where
    none_more : (m : ℕ) → m ≡ m + 0
    none_more m = omega arith

    swap : (x G R : ℤ) → x +ℤ ((G +ℤ R) +ℤ pos 0) ≡ G +ℤ (x +ℤ (R +ℤ pos 0))
    swap x G R = omega (arith, ints)

    keeps : (x : ℤ) → x +ℤ (pos 0 +ℤ pos 0) ≡ pos 0 +ℤ (x +ℤ (pos 0 +ℤ pos 0))
    keeps x = omega (arith, ints)

    by_count : (c : Bool) (x : ℤ) → x +ℤ ((if c then f (carries_amount (pos n)) else pos 0) +ℤ pos 0)
        ≡ g (pos ((if c then n else 0) + 0)) +ℤ (x +ℤ ((if c then of_move f (rise i n) else pos 0) +ℤ pos 0))
    by_count true x =
        ap (λ y. x +ℤ (y +ℤ pos 0)) (number.carries (pos n)) ∙ swap x (g (pos n)) (of_move f (rise i n))
        ∙ ap (λ m. g (pos m) +ℤ (x +ℤ (of_move f (rise i n) +ℤ pos 0))) (none_more n)
    by_count false x = keeps x ∙ ap (λ y. y +ℤ (x +ℤ (pos 0 +ℤ pos 0))) (sym number.zero)

sum_carried : (f : Amounts → ℤ) (g : ℤ → ℤ) → IsNumber f g → (plan : Plan) (line z year : ℕ) (act : Act) → ((y : ℕ) → rolls plan y act ≡ (y == year)) → (items : List OrderItem) →
    int_sum (item_total f plan line z year) items ≡ g (pos (carried_sum plan line z (carried_of plan act items))) +ℤ moved_sum (of_move f) plan line z (roll_moves plan act items)
sum_carried f g number plan line z year act same [] = sym (ap (λ x. x +ℤ pos 0) number.zero)
sum_carried f g number plan line z year act same (i ∷ items) =
    (λ j. one j +ℤ sum_carried f g number plan line z year act same items j)
    ∙ four (g (pos (carried_sum plan line z new))) (moved_sum (of_move f) plan line z moves) (g (pos (carried_sum plan line z (carried_of plan act items)))) (moved_sum (of_move f) plan line z (roll_moves plan act items))
    ∙ (λ j. joined j +ℤ sym (moved_append (of_move f) plan line z moves (roll_moves plan act items)) j)
  where
    new : List Carried
    new = if rolls plan i.year act && is_live i && not (lapses plan i) then goes i (open_of i) ∷ [] else []

    moves : List Move
    moves = if rolls plan i.year act && is_live i then fall i (open_of i) ∷ (if lapses plan i then [] else rise i (open_of i) ∷ []) else []

    four : (a b c d : ℤ) → (a +ℤ b) +ℤ (c +ℤ d) ≡ (a +ℤ c) +ℤ (b +ℤ d)
    four a b c d = omega (arith, ints)

    dead : (b : Bool) → is_live i ≡ b → b ≡ false → open_of i ≡ 0
    dead true live e = cc
    dead false live e = rw live refl

    empty : (n : ℕ) → (n == 0) ≡ true → n ≡ 0
    empty n e = grind (arith, common_steps)

    one : item_total f plan line z year i ≡ g (pos (carried_sum plan line z new)) +ℤ moved_sum (of_move f) plan line z moves
    one =
        rolled_law f g number plan line z i (open_of i) (i.year == year) (is_live i) (open_of i == 0) (may_carry plan i) (λ e. dead (is_live i) refl e) (empty (open_of i))
        ∙ (λ j. g (pos (carried_sum plan line z (if sym (same i.year) j && is_live i && not (lapses plan i) then goes i (open_of i) ∷ [] else [])))
        +ℤ moved_sum (of_move f) plan line z (if sym (same i.year) j && is_live i then fall i (open_of i) ∷ (if lapses plan i then [] else rise i (open_of i) ∷ []) else []))

    joined : g (pos (carried_sum plan line z new)) +ℤ g (pos (carried_sum plan line z (carried_of plan act items))) ≡ g (pos (carried_sum plan line z (new ++ carried_of plan act items)))
    joined =
        sym (number.adds (pos (carried_sum plan line z new)) (pos (carried_sum plan line z (carried_of plan act items))))
        ∙ ap g (sym (two (carried_sum plan line z new) (carried_sum plan line z (carried_of plan act items))))
        ∙ ap (λ m. g (pos m)) (sym (sum_by-append (λ (c : Carried). if counts plan line z c.account c.year then c.amount else 0) new (carried_of plan act items)))

same_turned : (m n : ℕ) → (m == n) ≡ (n == m)
same_turned m n = by_test (m == n) refl
  where
    by_test : (b : Bool) → (m == n) ≡ b → b ≡ (n == m)
    by_test true e = grind (arith, common_steps)
    by_test false e = grind (arith, common_steps)

sum_orders : (f : Amounts → ℤ) (g : ℤ → ℤ) → IsNumber f g → (plan : Plan) (line z place year : ℕ) (act : Act) (items : List OrderItem) (most : ℕ) → ((y : ℕ) → rolls plan y act ≡ (y == year)) →
    AllByRecursion (λ (i : OrderItem). (1 ≤ i.order) × (i.order ≤ most)) items →
    line_sum f line z (flat_map (order_rows plan place year items) (range_with_len 1 most))
    ≡ g (pos (carried_sum plan line z (carried_of plan act items))) +ℤ moved_sum (of_move f) plan line z (roll_moves plan act items)
sum_orders f g number plan line z place year act items most same drawn =
    sum_flat f line z (order_rows plan place year items) (range_with_len 1 most)
    ∙ totals.sum_same (λ n. line_sum f line z (order_rows plan place year items n)) (λ n. int_sum (item_total f plan line z year) (filter (λ (i : OrderItem). n == i.order) items))
    (λ n. sum_rolled f plan line z place year n 1 (filter (λ (i : OrderItem). i.order == n) items)
    ∙ ap (λ (t : OrderItem → Bool). int_sum (item_total f plan line z year) (filter t items)) (λ j i. same_turned i.order n j)) (range_with_len 1 most)
    ∙ sum_numbered (λ (i : OrderItem). i.order) (item_total f plan line z year) most items drawn
    ∙ sum_carried f g number plan line z year act same items

no_lapses : (plan : Plan) (act : Act) (holds : List Hold) → rolled_year plan act ≡ None → lapses_of plan act holds ≡ []
no_lapses plan act [] none = refl
no_lapses plan act (h ∷ holds) none = rw none (no_lapses plan act holds none)

no_rolls : (plan : Plan) (act : Act) (items : List OrderItem) → rolled_year plan act ≡ None → roll_moves plan act items ≡ []
no_rolls plan act [] none = refl
no_rolls plan act (i ∷ items) none = rw none (no_rolls plan act items none)

-- what the close of a month or a year makes
sum_close : (f : Amounts → ℤ) (g : ℤ → ℤ) → IsNumber f g → (plan : Plan) (s : Documents) (line z place : ℕ) (act : Act) (year : Option ℕ) → rolled_year plan act ≡ year → IsOrderly s →
    line_sum f line z (roll_rows plan s place year) ≡ g (pos (carried_sum plan line z (carried_of plan act s.items))) +ℤ moved_sum (of_move f) plan line z (lapses_of plan act s.holds ++ roll_moves plan act s.items)
sum_close f g number plan s line z place act None is orderly =
    sym ((λ i. g (pos (carried_sum plan line z (nothing_rolled plan act s.items is i))) +ℤ moved_sum (of_move f) plan line z (no_lapses plan act s.holds is i ++ no_rolls plan act s.items is i))
    ∙ ap (λ x. x +ℤ pos 0) number.zero)
sum_close f g number plan s line z place act (Some year) is orderly =
    let same : (y : ℕ) → rolls plan y act ≡ (y == year) = λ y. ap (is_year y) is in
    let lapsed = moved_sum (of_move f) plan line z (lapses_of plan act s.holds) in
    let carried = g (pos (carried_sum plan line z (carried_of plan act s.items))) in
    let rolled = moved_sum (of_move f) plan line z (roll_moves plan act s.items) in
    sum_append f line z (flat_map (requisition_rows plan place year s.holds) (range_with_len 1 s.requisitions)) (flat_map (order_rows plan place year s.items) (range_with_len 1 s.orders))
    ∙ (λ i. sum_lapsed f g number plan line z place year act s.holds s.requisitions same orderly.holds i +ℤ sum_orders f g number plan line z place year act s.items s.orders same orderly.items i)
    ∙ swap lapsed carried rolled ∙ ap (λ x. carried +ℤ x) (sym (moved_append (of_move f) plan line z (lapses_of plan act s.holds) (roll_moves plan act s.items)))
  where
    swap : (l c r : ℤ) → l +ℤ (c +ℤ r) ≡ c +ℤ (l +ℤ r)
    swap l c r = omega (arith, ints)

-- ---- each act

abbrev pub moved_of : (Amounts → ℤ) → (ℤ → ℤ) → Plan → ℕ → ℕ → Registers → Day → Act → ℤ
moved_of f g plan line year s on act =
    g (pos (added_by line year act + carried_by plan s.documents line year act) -ℤ pos (removed_by line year act))
    +ℤ moved_sum (of_move f) plan line year (moves_of plan s (draws s act).number on act)

-- an act that carries nothing
with_carried : (g : ℤ → ℤ) (plan : Plan) (line year : ℕ) (s : Documents) (act : Act) → rolled_year plan act ≡ None →
    g (pos (added_by line year act + carried_by plan s line year act) -ℤ pos (removed_by line year act)) ≡ g (pos (added_by line year act + 0) -ℤ pos (removed_by line year act))
with_carried g plan line year s act none = ap (λ (cs : List Carried). g (pos (added_by line year act + carried_sum plan line year cs) -ℤ pos (removed_by line year act))) (nothing_rolled plan act s.items none)

-- .. and appropriates nothing
by_moves : (f : Amounts → ℤ) (g : ℤ → ℤ) → IsNumber f g → (plan : Plan) (line year : ℕ) (s : Registers) (act : Act) (l m : ℤ) → rolled_year plan act ≡ None → added_by line year act ≡ 0 → removed_by line year act ≡ 0 → l ≡ m →
    l ≡ g (pos (added_by line year act + carried_by plan s.documents line year act) -ℤ pos (removed_by line year act)) +ℤ m
by_moves f g number plan line year s act l m none added removed is =
    is ∙ sym (first m)
    ∙ ap (λ x. x +ℤ m) (sym (with_carried g plan line year s.documents act none ∙ (λ i. g (pos (added i + 0) -ℤ pos (removed i))) ∙ number.zero))

-- .. or one that moves no document
by_names : (g : ℤ → ℤ) (plan : Plan) (line year : ℕ) (s : Registers) (act : Act) (l : ℤ) → rolled_year plan act ≡ None → l ≡ g (pos (added_by line year act + 0) -ℤ pos (removed_by line year act)) →
    l ≡ g (pos (added_by line year act + carried_by plan s.documents line year act) -ℤ pos (removed_by line year act)) +ℤ pos 0
by_names g plan line year s act l none is = is ∙ sym (with_carried g plan line year s.documents act none) ∙ sym (last _)

pub act_sum : (f : Amounts → ℤ) (g : ℤ → ℤ) → IsNumber f g → (plan : Plan) (line year : ℕ) (s : Registers) (place : ℕ) (drawn : Drawn) (on : Day) (act : Act) → IsOrderly s.documents →
    line_sum f line year (act_rows plan s place drawn on act) ≡ moved_of f g plan line year s on act
act_sum f g number plan line year s place drawn on (Adopt a) orderly =
    by_names g plan line year s (Adopt a) _ refl (sum_adopted f g number plan line year place a.year a.lines ∙ ap g (sym (less_none (if a.year == year then amount_for line a.lines else 0))))
act_sum f g number plan line year s place drawn on (Amend a) orderly =
    by_names g plan line year s (Amend a) _ refl
    (sum_line f g number plan line year (origin place 0 0) a.line a.year a.by []
    ∙ ap (λ (b : Bool). (if b then g a.by else pos 0) +ℤ pos 0) (turned (a.year == year) (a.line == line))
    ∙ amended f g number a.by ((a.line == line) && (a.year == year)))
act_sum f g number plan line year s place drawn on (Transfer t) orderly =
    by_names g plan line year s (Transfer t) _ refl
    (sum_line f g number plan line year (origin place 0 0) t.from t.year (pos 0 -ℤ pos t.amount) (on_line plan (origin place 0 0) t.to t.year (appropriates (pos t.amount)) ∷ [])
    ∙ ap (λ x. named g line year t.from t.year (pos 0 -ℤ pos t.amount) +ℤ x) (sum_line f g number plan line year (origin place 0 0) t.to t.year (pos t.amount) [])
    ∙ (λ i. (if turned (t.year == year) (t.from == line) i then g (pos 0 -ℤ pos t.amount) else pos 0) +ℤ ((if turned (t.year == year) (t.to == line) i then g (pos t.amount) else pos 0) +ℤ pos 0))
    ∙ transferred f g number t.amount ((t.from == line) && (t.year == year)) ((t.to == line) && (t.year == year)))
act_sum f g number plan line year s place drawn on (Requisition r) orderly =
    by_moves f g number plan line year s (Requisition r) _ _ refl refl refl (sum_items f plan line year place drawn.number 1 (moves_by plan s.documents on (Requisition r)))
act_sum f g number plan line year s place drawn on (Withdraw n) orderly =
    by_moves f g number plan line year s (Withdraw n) _ _ refl refl refl (sum_items f plan line year place n 1 (moves_by plan s.documents on (Withdraw n)))
act_sum f g number plan line year s place drawn on (Order o) orderly =
    let released = releases o.requisition s.documents.holds in
    let ordered = map (order_move (document_year plan on (Order o))) o.items in
    by_moves f g number plan line year s (Order o) _ _ refl refl refl
    (sum_append f line year (item_rows plan place (or_zero o.requisition) 1 released) (item_rows plan place drawn.number 1 ordered)
    ∙ (λ i. sum_items f plan line year place (or_zero o.requisition) 1 released i +ℤ sum_items f plan line year place drawn.number 1 ordered i)
    ∙ sym (moved_append (of_move f) plan line year released ordered))
act_sum f g number plan line year s place drawn on (ChangeOrder c) orderly =
    by_moves f g number plan line year s (ChangeOrder c) _ _ refl refl refl (sum_same f plan line year (origin place c.order c.item) (moves_by plan s.documents on (ChangeOrder c)))
act_sum f g number plan line year s place drawn on (CancelOrder n) orderly =
    by_moves f g number plan line year s (CancelOrder n) _ _ refl refl refl (sum_items f plan line year place n 1 (moves_by plan s.documents on (CancelOrder n)))
act_sum f g number plan line year s place drawn on (Voucher v) orderly =
    let y = document_year plan on (Voucher v) in
    let step = item_step plan (document_number s.documents (Voucher v)) (Voucher v) in
    by_moves f g number plan line year s (Voucher v) _ _ refl refl refl
    (sum_paired f g number plan line year place drawn.number 1 (spend_move y) (charge_move step s.documents.items y) v.items
    ∙ sym (moved_append (of_move f) plan line year (map (spend_move y) v.items) (map (charge_move step s.documents.items y) v.items)))
act_sum f g number plan line year s place drawn on (VoidVoucher n) orderly =
    let step = item_step plan (document_number s.documents (VoidVoucher n)) (VoidVoucher n) in
    let spent = spent_by n s.documents.expenditures in
    by_moves f g number plan line year s (VoidVoucher n) _ _ refl refl refl
    (sum_paired f g number plan line year place n 1 unspend_move (reopen_move step s.documents.items) spent
    ∙ sym (moved_append (of_move f) plan line year (map unspend_move spent) (map (reopen_move step s.documents.items) spent)))
act_sum f g number plan line year s place drawn on (PayDue d) orderly =
    by_moves f g number plan line year s (PayDue d) _ _ refl refl refl
    (sum_same f plan line year (origin place d.bond drawn.number) (map spending_move (bonds_spendings plan d (filter (λ b. b.number == d.bond) s.bonds))))
act_sum f g number plan line year s place drawn on (Leave (Mature l)) orderly =
    by_moves f g number plan line year s (Leave (Mature l)) _ _ refl refl refl (sum_same f plan line year (origin place 0 0) (map spending_move (paid_leave l (year_of_day plan on))))
act_sum f g number plan line year s place drawn on (Leave (Earn l)) orderly = by_moves f g number plan line year s (Leave (Earn l)) _ _ refl refl refl refl
act_sum f g number plan line year s place drawn on (Leave (Use l)) orderly = by_moves f g number plan line year s (Leave (Use l)) _ _ refl refl refl refl
act_sum f g number plan line year s place drawn on (Lease l) orderly =
    by_moves f g number plan line year s (Lease l) _ _ refl refl refl (sum_same f plan line year (origin place drawn.second 0) (map spending_move (leased l (year_of_day plan on))))
act_sum f g number plan line year s place drawn on (Close p) orderly =
    sum_close f g number plan s.documents line year place (Close p) (rolled_year plan (Close p)) refl orderly
    ∙ ap (λ x. g x +ℤ moved_sum (of_move f) plan line year (moves_of plan s (draws s (Close p)).number on (Close p))) (plain (carried_by plan s.documents line year (Close p)))
  where
    plain : (n : ℕ) → pos n ≡ pos (0 + n) -ℤ pos 0
    plain n = omega (arith, ints)
act_sum f g number plan line year s place drawn on (Asset (Donate d)) orderly = by_moves f g number plan line year s (Asset (Donate d)) _ _ refl refl refl refl
act_sum f g number plan line year s place drawn on (Asset (Dispose d)) orderly = by_moves f g number plan line year s (Asset (Dispose d)) _ _ refl refl refl refl
act_sum f g number plan line year s place drawn on (Pay p) orderly = by_moves f g number plan line year s (Pay p) _ _ refl refl refl refl
act_sum f g number plan line year s place drawn on (Bill b) orderly = by_moves f g number plan line year s (Bill b) _ _ refl refl refl refl
act_sum f g number plan line year s place drawn on (Collect b) orderly = by_moves f g number plan line year s (Collect b) _ _ refl refl refl refl
act_sum f g number plan line year s place drawn on (Receive r) orderly = by_moves f g number plan line year s (Receive r) _ _ refl refl refl refl
act_sum f g number plan line year s place drawn on (WriteOff b) orderly = by_moves f g number plan line year s (WriteOff b) _ _ refl refl refl refl
act_sum f g number plan line year s place drawn on (Issue i) orderly = by_moves f g number plan line year s (Issue i) _ _ refl refl refl refl
act_sum f g number plan line year s place drawn on (Interfund m) orderly = by_moves f g number plan line year s (Interfund m) _ _ refl refl refl refl
