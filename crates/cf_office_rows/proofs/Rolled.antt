-- What the roll of a fiscal year moves, as moves are read one after another.
use Rattle.std.proofs.Common.{◌≡◌, ◌≢◌, ℕ, ◌+◌, ◌<◌, ◌≤◌, Bool, true, false, not, ◌&&◌, ◌||◌, ◌==◌, if◌then◌else◌, List, [], ◌∷◌, ◌++◌, length, drop, map, Option, Some, None, slice_get, option_map, ℤ, pos, ◌-ℤ◌, refl, sym, ap, ◌∙◌, arith}
use Rattle.cf_base.proofs.Common.{AllByRecursion, list_any, ints, drop_all, length-map, slice_get-map}
use Rattle.cf_model.specs.Common.{Day, CancelOrder, Withdraw, Refusal, document_refusal, is_live_of, withdrawn_state, Hold, Documents, is_number, requisition_at, held_amount, Move, item_move, release_move, OrderItem, is_live, item_step, may_carry, open_of, first_of, refuse_if}
use Rattle.cf_calls.specs.declared.names.DocumentKind.TheVariants as kind
use Rattle.cf_calls.specs.declared.refusal.DocumentState.TheVariants as state
use Rattle.cf_calls.specs.declared.refusal.Refusal.TheVariants as refusal
use Rattle.cf_chart.specs.Common.{Plan}
use Rattle.cf_orders.specs.declared.moves.LineMove.{LineMove}
use Rattle.cf_orders.specs.Register.{line_move}
use Rattle.cf_office_rows.specs.declared.rows.LedgerRow.{LedgerRow}
use Rattle.cf_office_rows.specs.declared.rows.Origin.{Origin}
use Rattle.cf_office_rows.specs.Items.{item_rows}
use Rattle.cf_office_rows.specs.Rolls.{AreReleased, carries_amount, in_year, lapse_move, leave_move, order_rows, requisition_rows, roll_item, roll_items, rolled_if}
use Rattle.cf_office_rows.specs.Rows.{amounts_of, kept, on_account, on_move, origin}
use Rattle.cf_office_rows.proofs.Gathered.{kept_both, read_at}
use Rattle.std.proofs.Common.{append_assoc, append-nil, filter}

-- one part of what is to come was added
more : (out new all first rest whole : List LedgerRow) → new ≡ out ++ first → whole ≡ first ++ rest → out ++ whole ≡ all → new ++ rest ≡ all
more out new all first rest whole pushed is so_far = ap (λ t. t ++ rest) pushed ∙ append_assoc out first rest ∙ ap (λ t. out ++ t) (sym is) ∙ so_far

-- ---- requisitions

lapse_row : (plan : Plan) (of : Origin) (year : ℕ) (h : Hold) → kept (on_move plan of (lapse_move year h) ∷ []) ≡ kept (in_year plan of year (Some (line_move (release_move h))))
lapse_row plan of year h = by_test (h.year == year)
  where
    still : Move
    still = record { account = h.account; year = h.year; held = pos 0; encumbered = pos 0; expended = pos 0 }

    by_test : (b : Bool) → kept (on_move plan of (if b then release_move h else still) ∷ []) ≡ kept (if b then on_move plan of (release_move h) ∷ [] else [])
    by_test true = refl
    by_test false = refl

pub lapse_more : (plan : Plan) (place n year : ℕ) (hs : List Hold) (k : ℕ) (o : Option LineMove) (out new all : List LedgerRow) → o ≡ option_map line_move (slice_get (map release_move hs) k) → k < length (map release_move hs) →
    new ≡ out ++ kept (in_year plan (origin place n (k + 1)) year o) → out ++ kept (item_rows plan place n (k + 1) (map (lapse_move year) (drop k hs))) ≡ all →
    new ++ kept (item_rows plan place n (k + 1 + 1) (map (lapse_move year) (drop (k + 1) hs))) ≡ all
lapse_more plan place n year hs k o out new all is l pushed so_far =
    let within : k < length hs = omega (arith, l, length-map hs release_move) in
    let r = read_at hs k within in
    let of = origin place n (k + 1) in
    let rest = item_rows plan place n (k + 1 + 1) (map (lapse_move year) (drop (k + 1) hs)) in
    let here : o ≡ Some (line_move (release_move r.0)) = is ∙ ap (option_map line_move) (slice_get-map release_move hs k ∙ ap (option_map release_move) r.1) in
    more out new all (kept (in_year plan of year o)) (kept rest) (kept (item_rows plan place n (k + 1) (map (lapse_move year) (drop k hs)))) pushed
    (ap (λ (t : List Hold). kept (item_rows plan place n (k + 1) (map (lapse_move year) t))) r.2
    ∙ kept_both (on_move plan of (lapse_move year r.0) ∷ []) rest
    ∙ ap (λ t. t ++ kept rest) (lapse_row plan of year r.0 ∙ ap (λ (q : Option LineMove). kept (in_year plan of year q)) (sym here)))
    so_far

still_rows : (plan : Plan) (place n year : ℕ) (hs : List Hold) (item : ℕ) → AllByRecursion (λ (h : Hold). held_amount h.state h.account.amount ≡ 0) hs → kept (item_rows plan place n item (map (lapse_move year) hs)) ≡ []
still_rows plan place n year [] item none = refl
still_rows plan place n year (h ∷ hs) item none =
    kept_both (on_move plan (origin place n item) (lapse_move year h) ∷ []) (item_rows plan place n (item + 1) (map (lapse_move year) hs))
    ∙ (λ i. one (h.year == year) i ++ still_rows plan place n year hs (item + 1) none.1 i)
  where
    moved : ℕ → Move
    moved amount = record { account = h.account; year = h.year; held = pos 0 -ℤ pos amount; encumbered = pos 0; expended = pos 0 }

    still : Move
    still = record { account = h.account; year = h.year; held = pos 0; encumbered = pos 0; expended = pos 0 }

    one : (b : Bool) → kept (on_move plan (origin place n item) (if b then release_move h else still) ∷ []) ≡ []
    one true = ap (λ (amount : ℕ). kept (on_move plan (origin place n item) (moved amount) ∷ [])) none.0
    one false = refl

-- where a withdrawal is refused nothing is released
pub none_released : (plan : Plan) (s : Documents) (on : Day) (place n year : ℕ) (r : Refusal) → AreReleased s.holds → document_refusal plan s on 0 (Withdraw n) ≡ Some r → kept (requisition_rows plan place year s.holds n) ≡ []
none_released plan s on place n year r released is =
    still_rows plan place n year (filter (λ (h : Hold). is_number (Some n) h.requisition) s.holds) 1 (released n not_open)
  where
    not_open : withdrawn_state n (requisition_at n s.holds) ≢ None
    not_open e = let none : first_of (withdrawn_state n (requisition_at n s.holds) ∷ None ∷ None ∷ None ∷ []) ≡ None = ap (λ (q : Option Refusal). first_of (q ∷ None ∷ None ∷ None ∷ [])) e in cc

-- ---- orders

back : (n : ℕ) → pos 0 -ℤ (pos 0 -ℤ pos n) ≡ pos n
back n = omega (arith, ints)

roll_row : (plan : Plan) (of : Origin) (year : ℕ) (i : OrderItem) → rolled_if plan of year (Some (line_move (leave_move i))) ≡ roll_item plan year of i
roll_row plan of year i =
    ap (λ (z : ℤ). if i.year == year then on_move plan of (leave_move i) ∷ (if may_carry plan i then on_account plan of i.account (i.year + 1) (carries_amount z) ∷ [] else []) else []) (back (open_of i))

pub roll_more : (plan : Plan) (place n year : ℕ) (is : List OrderItem) (k : ℕ) (o : Option LineMove) (out new all : List LedgerRow) → o ≡ option_map line_move (slice_get (map leave_move is) k) → k < length (map leave_move is) →
    new ≡ out ++ kept (rolled_if plan (origin place n (k + 1)) year o) → out ++ kept (roll_items plan place year n (k + 1) (drop k is)) ≡ all →
    new ++ kept (roll_items plan place year n (k + 1 + 1) (drop (k + 1) is)) ≡ all
roll_more plan place n year is k o out new all read l pushed so_far =
    let within : k < length is = omega (arith, l, length-map is leave_move) in
    let r = read_at is k within in
    let of = origin place n (k + 1) in
    let rest = roll_items plan place year n (k + 1 + 1) (drop (k + 1) is) in
    let here : o ≡ Some (line_move (leave_move r.0)) = read ∙ ap (option_map line_move) (slice_get-map leave_move is k ∙ ap (option_map leave_move) r.1) in
    more out new all (kept (rolled_if plan of year o)) (kept rest) (kept (roll_items plan place year n (k + 1) (drop k is))) pushed
    (ap (λ (t : List OrderItem). kept (roll_items plan place year n (k + 1) t)) r.2
    ∙ kept_both (roll_item plan year of r.0) rest
    ∙ ap (λ t. kept t ++ kept rest) (sym (ap (rolled_if plan of year) here ∙ roll_row plan of year r.0)))
    so_far

-- what a cancellation moves of an order's items is what they have open
pub left_all : (plan : Plan) (number n : ℕ) (items : List OrderItem) → map (item_move (item_step plan number (CancelOrder n))) (filter (λ (i : OrderItem). i.order == n) items) ≡ map leave_move (filter (λ (i : OrderItem). i.order == n) items)
left_all plan number n [] = refl
left_all plan number n (i ∷ items) = by_test (i.order == n) refl (left_all plan number n items)
  where
    rest : List OrderItem
    rest = filter (λ (i : OrderItem). i.order == n) items

    moved : ℕ → Move
    moved m = record { account = i.account; year = i.year; held = pos 0; encumbered = pos m -ℤ pos (open_of i); expended = pos 0 }

    nothing_open : (b : Bool) → (i.order == n) ≡ true → is_live i ≡ b → open_of (item_step plan number (CancelOrder n) i) ≡ 0
    nothing_open true e live = rw (e, live) refl
    nothing_open false e live = rw (e, live) (rw live refl)

    by_test : (b : Bool) → (i.order == n) ≡ b → map (item_move (item_step plan number (CancelOrder n))) rest ≡ map leave_move rest →
        map (item_move (item_step plan number (CancelOrder n))) (if b then i ∷ rest else rest) ≡ map leave_move (if b then i ∷ rest else rest)
    by_test true e more = λ j. moved (nothing_open (is_live i) e refl j) ∷ more j
    by_test false e more = more

dead_rows : (plan : Plan) (place n year : ℕ) (items : List OrderItem) (item : ℕ) → list_any (is_live_of n) items ≡ false → kept (roll_items plan place year n item (filter (λ (i : OrderItem). i.order == n) items)) ≡ []
dead_rows plan place n year [] item none = refl
dead_rows plan place n year (i ∷ items) item none = by_test (i.order == n) none (λ next e. dead_rows plan place n year items next e)
  where
    rest : List OrderItem
    rest = filter (λ (i : OrderItem). i.order == n) items

    of : Origin
    of = origin place n item

    with_open : ℕ → List LedgerRow
    with_open m =
        if i.year == year
        then on_account plan of i.account i.year (amounts_of (pos 0) (pos 0 -ℤ pos m) (pos 0)) ∷ (if may_carry plan i then on_account plan of i.account (i.year + 1) (carries_amount (pos m)) ∷ [] else [])
        else []

    none_open : (b : Bool) → is_live i ≡ b → b ≡ false → open_of i ≡ 0
    none_open true live e = cc
    none_open false live e = rw live refl

    zeros : (b c : Bool) → kept (if b then on_account plan of i.account i.year (amounts_of (pos 0) (pos 0) (pos 0)) ∷ (if c then on_account plan of i.account (i.year + 1) (carries_amount (pos 0)) ∷ [] else []) else []) ≡ []
    zeros true true = refl
    zeros true false = refl
    zeros false c = refl

    left : (a b : Bool) → (a || b) ≡ false → (a ≡ false) × (b ≡ false)
    left true b e = cc
    left false b e = (refl, e)

    by_test : (b : Bool) → ((b && is_live i) || list_any (is_live_of n) items) ≡ false → ((next : ℕ) → list_any (is_live_of n) items ≡ false → kept (roll_items plan place year n next rest) ≡ []) →
        kept (roll_items plan place year n item (if b then i ∷ rest else rest)) ≡ []
    by_test true e later =
        let both = left (is_live i) (list_any (is_live_of n) items) e in
        kept_both (roll_item plan year of i) (roll_items plan place year n (item + 1) rest)
        ∙ (λ j. (ap (λ (m : ℕ). kept (with_open m)) (none_open (is_live i) refl both.0) ∙ zeros (i.year == year) (may_carry plan i)) j ++ later (item + 1) both.1 j)
    by_test false e later = later item e

-- where a cancellation is refused nothing is open
pub none_live : (plan : Plan) (s : Documents) (on : Day) (place n year : ℕ) (r : Refusal) → document_refusal plan s on 0 (CancelOrder n) ≡ Some r → kept (order_rows plan place year s.items n) ≡ []
none_live plan s on place n year r is = dead_rows plan place n year s.items 1 (not_live (list_any (is_live_of n) s.items) is)
  where
    not_live : (b : Bool) → first_of (refuse_if (not b) (refusal.DocState kind.Order n state.Ended) ∷ None ∷ None ∷ None ∷ []) ≡ Some r → b ≡ false
    not_live true e = cc
    not_live false e = refl

-- rows that are left as they are, where those to add are none
pub none_added : (out rows : List LedgerRow) → kept rows ≡ [] → out ≡ out ++ kept rows
none_added out rows none = sym (append-nil out) ∙ ap (λ t. out ++ t) (sym none)

pub lapse_all : (plan : Plan) (place n year : ℕ) (hs : List Hold) (k : ℕ) (out all : List LedgerRow) → length (map release_move hs) ≤ k →
    out ++ kept (item_rows plan place n (k + 1) (map (lapse_move year) (drop k hs))) ≡ all → out ≡ all
lapse_all plan place n year hs k out all l so_far =
    sym (append-nil out) ∙ ap (λ (t : List Hold). out ++ kept (item_rows plan place n (k + 1) (map (lapse_move year) t))) (sym (drop_all k hs (let P : length hs ≤ k = omega (arith, l, length-map hs release_move) in P))) ∙ so_far

pub roll_all : (plan : Plan) (place n year : ℕ) (is : List OrderItem) (k : ℕ) (out all : List LedgerRow) → length (map leave_move is) ≤ k →
    out ++ kept (roll_items plan place year n (k + 1) (drop k is)) ≡ all → out ≡ all
roll_all plan place n year is k out all l so_far =
    sym (append-nil out) ∙ ap (λ (t : List OrderItem). out ++ kept (roll_items plan place year n (k + 1) t)) (sym (drop_all k is (let P : length is ≤ k = omega (arith, l, length-map is leave_move) in P))) ∙ so_far
