-- Rows that are added one after another.
use Rattle.std.proofs.Common.{◌≡◌, ℕ, zero, suc, add-one, ◌+◌, ◌<◌, List, [], ◌∷◌, ◌++◌, length, drop, get_or, flat_map, Option, Some, None, slice_get, option_map, refl, sym, ap, ◌∙◌, arith, append_assoc, append-nil, length-append}
use Rattle.cf_base.proofs.Common.{range_with_len, drop_more, get_or-append-add, get_or_append_left, flat_map-append, filter-append, slice_get-get_or}
use Rattle.cf_chart.specs.Common.{Plan}
use Rattle.cf_model.specs.Common.{Move, releases, Hold}
use Rattle.cf_orders.specs.declared.moves.LineMove.{LineMove}
use Rattle.cf_orders.specs.Register.{line_move}
use Rattle.cf_office_rows.specs.declared.rows.LedgerRow.{LedgerRow}
use Rattle.cf_office_rows.specs.declared.rows.Origin.{Origin}
use Rattle.cf_office_rows.specs.Entries.{taken_rows}
use Rattle.cf_office_rows.specs.Items.{item_rows, joined, paired_rows, rows_if, same_rows}
use Rattle.cf_office_rows.specs.Rows.{changes, kept, on_move, origin}

pub kept_both : (xs ys : List LedgerRow) → kept (xs ++ ys) ≡ kept xs ++ kept ys
kept_both xs ys = filter-append (λ (r : LedgerRow). changes r.by) xs ys

-- one part of what is to come was added
pub more : (out new all first rest whole : List LedgerRow) → new ≡ out ++ kept first → whole ≡ first ++ rest → out ++ kept whole ≡ all → new ++ kept rest ≡ all
more out new all first rest whole pushed is so_far =
    ap (λ t. t ++ kept rest) pushed ∙ append_assoc out (kept first) (kept rest) ∙ ap (λ t. out ++ t) (sym (kept_both first rest) ∙ ap kept (sym is)) ∙ so_far

-- what is read at a place below the length
pub read_at : {A : Type 0} (xs : List A) (k : ℕ) → k < length xs → (x : A) × (slice_get xs k ≡ Some x) × (drop k xs ≡ x ∷ drop (k + 1) xs)
read_at [] k l = absurd_below k l
  where
    absurd_below : {A : Type 0} (k : ℕ) → k < 0 → (x : A) × (slice_get {X = A} [] k ≡ Some x) × (drop k [] ≡ x ∷ drop (k + 1) [])
    absurd_below k l = absurd (omega (arith, l))
read_at (y ∷ xs) k l = (get_or (y ∷ xs) k y, slice_get-get_or (y ∷ xs) k y l, drop_more (y ∷ xs) k y l)

move_rows : (plan : Plan) (of : Origin) (moves : List Move) (k : ℕ) (o : Option LineMove) (m : Move) → o ≡ option_map line_move (slice_get moves k) → slice_get moves k ≡ Some m → rows_if plan of o ≡ on_move plan of m ∷ []
move_rows plan of moves k o m is read = ap (rows_if plan of) (is ∙ ap (option_map line_move) read)

pub items_more : (plan : Plan) (place document : ℕ) (moves : List Move) (k : ℕ) (o : Option LineMove) (out new all : List LedgerRow) → o ≡ option_map line_move (slice_get moves k) → k < length moves →
    new ≡ out ++ kept (rows_if plan (origin place document (k + 1)) o) → out ++ kept (item_rows plan place document (k + 1) (drop k moves)) ≡ all →
    new ++ kept (item_rows plan place document (k + 1 + 1) (drop (k + 1) moves)) ≡ all
items_more plan place document moves k o out new all is l pushed so_far =
    let r = read_at moves k l in
    let rest = item_rows plan place document (k + 1 + 1) (drop (k + 1) moves) in
    more out new all (rows_if plan (origin place document (k + 1)) o) rest (item_rows plan place document (k + 1) (drop k moves)) pushed
    (ap (item_rows plan place document (k + 1)) r.2 ∙ ap (λ t. t ++ rest) (sym (move_rows plan (origin place document (k + 1)) moves k o r.0 is r.1))) so_far

pub same_more : (plan : Plan) (of : Origin) (moves : List Move) (k : ℕ) (o : Option LineMove) (out new all : List LedgerRow) → o ≡ option_map line_move (slice_get moves k) → k < length moves →
    new ≡ out ++ kept (rows_if plan of o) → out ++ kept (same_rows plan of (drop k moves)) ≡ all → new ++ kept (same_rows plan of (drop (k + 1) moves)) ≡ all
same_more plan of moves k o out new all is l pushed so_far =
    let r = read_at moves k l in
    let rest = same_rows plan of (drop (k + 1) moves) in
    more out new all (rows_if plan of o) rest (same_rows plan of (drop k moves)) pushed
    (ap (same_rows plan of) r.2 ∙ ap (λ t. t ++ rest) (sym (move_rows plan of moves k o r.0 is r.1))) so_far

-- ---- moves that stand in two halves

get_first : (ms ns : List Move) (k : ℕ) → k < length ms → slice_get (ms ++ ns) k ≡ slice_get ms k
get_first ms ns k l =
    let r = read_at ms k l in
    slice_get-get_or (ms ++ ns) k r.0 (rw (length-append ms ns) (omega (arith, l))) ∙ ap Some (get_or_append_left ms ns r.0 k l) ∙ sym (slice_get-get_or ms k r.0 l)

get_second : (ms ns : List Move) (count k : ℕ) → length ms ≡ count → k < length ns → slice_get (ms ++ ns) (count + k) ≡ slice_get ns k
get_second ms ns count k e l =
    let r = read_at ns k l in
    slice_get-get_or (ms ++ ns) (count + k) r.0 (rw (length-append ms ns) (omega (arith, l, e)))
    ∙ ap Some (ap (λ n. get_or (ms ++ ns) (n + k) r.0) (sym e) ∙ get_or-append-add ms ns k r.0) ∙ sym (slice_get-get_or ns k r.0 l)

pub first_half : (moves ms ns : List Move) (count k : ℕ) (o : Option LineMove) → moves ≡ ms ++ ns → length ms ≡ count → k < count → o ≡ option_map line_move (slice_get moves k) → o ≡ option_map line_move (slice_get ms k)
first_half moves ms ns count k o split e l is = is ∙ ap (λ (t : List Move). option_map line_move (slice_get t k)) split ∙ ap (option_map line_move) (get_first ms ns k (rw e l))

pub second_half : (moves ms ns : List Move) (count k : ℕ) (o : Option LineMove) → moves ≡ ms ++ ns → length ms ≡ count → k < length ns → o ≡ option_map line_move (slice_get moves (count + k)) → o ≡ option_map line_move (slice_get ns k)
second_half moves ms ns count k o split e l is = is ∙ ap (λ (t : List Move). option_map line_move (slice_get t (count + k))) split ∙ ap (option_map line_move) (get_second ms ns count k e l)

pub paired_more : (plan : Plan) (place document : ℕ) (ms ns : List Move) (k : ℕ) (m n : Move) (out new all : List LedgerRow) → slice_get ms k ≡ Some m → drop k ms ≡ m ∷ drop (k + 1) ms → drop k ns ≡ n ∷ drop (k + 1) ns →
    new ≡ out ++ kept (joined plan (origin place document (k + 1)) m n) → out ++ kept (paired_rows plan place document (k + 1) (drop k ms) (drop k ns)) ≡ all →
    new ++ kept (paired_rows plan place document (k + 1 + 1) (drop (k + 1) ms) (drop (k + 1) ns)) ≡ all
paired_more plan place document ms ns k m n out new all read first second pushed so_far =
    more out new all (joined plan (origin place document (k + 1)) m n) (paired_rows plan place document (k + 1 + 1) (drop (k + 1) ms) (drop (k + 1) ns)) (paired_rows plan place document (k + 1) (drop k ms) (drop k ns)) pushed
    (λ i. paired_rows plan place document (k + 1) (first i) (second i)) so_far

-- ---- documents by their numbers

range_more : (a n : ℕ) → range_with_len a (n + 1) ≡ range_with_len a n ++ (a + n) ∷ []
range_more a zero = ap (λ m. m ∷ []) (let e : a ≡ a + 0 = omega arith in e)
range_more a (suc n) =
    ap (range_with_len a) (add-one (suc n))
    ∙ ap (λ t. a ∷ t)
    (ap (range_with_len (a + 1)) (sym (add-one n)) ∙ range_more (a + 1) n ∙ ap (λ m. range_with_len (a + 1) n ++ m ∷ []) (let e : a + 1 + n ≡ a + suc n = omega arith in e))

pub numbers_more : (rows : ℕ → List LedgerRow) (k : ℕ) (out new all : List LedgerRow) → out ≡ all ++ kept (flat_map rows (range_with_len 1 k)) → new ≡ out ++ kept (rows (k + 1)) →
    new ≡ all ++ kept (flat_map rows (range_with_len 1 (k + 1)))
numbers_more rows k out new all so_far pushed =
    let before = flat_map rows (range_with_len 1 k) in
    let here : 1 + k ≡ k + 1 = omega arith in
    let one : before ++ rows (k + 1) ≡ flat_map rows (range_with_len 1 (k + 1)) =
    ap (λ t. before ++ t) (sym (append-nil (rows (k + 1))))
    ∙ sym (flat_map-append rows (range_with_len 1 k) ((k + 1) ∷ []))
    ∙ ap (flat_map rows) (ap (λ m. range_with_len 1 k ++ m ∷ []) (sym here) ∙ sym (range_more 1 k)) in
    pushed ∙ ap (λ t. t ++ kept (rows (k + 1))) so_far ∙ append_assoc all (kept before) (kept (rows (k + 1)))
    ∙ ap (λ t. all ++ t) (sym (kept_both before (rows (k + 1))) ∙ ap kept one)

-- two parts that are added one after the other
pub both_added : (old mid new first second : List LedgerRow) → mid ≡ old ++ kept first → new ≡ mid ++ kept second → new ≡ old ++ kept (first ++ second)
both_added old mid new first second one two = two ∙ ap (λ t. t ++ kept second) one ∙ append_assoc old (kept first) (kept second) ∙ ap (λ t. old ++ t) (sym (kept_both first second))

none_taken : (holds : List Hold) → releases None holds ≡ []
none_taken [] = refl
none_taken (h ∷ holds) = none_taken holds

-- no requisition is taken up
pub taken_none : (plan : Plan) (place : ℕ) (holds : List Hold) → kept (taken_rows plan place None holds) ≡ []
taken_none plan place holds = ap (λ (moves : List Move). kept (item_rows plan place 0 1 moves)) (none_taken holds)
