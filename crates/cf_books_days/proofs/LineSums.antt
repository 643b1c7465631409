-- The running numbers of control lines, change by change.
use Rattle.std.proofs.Common.{◌≡◌, ℕ, ◌==◌, ◌&&◌, Bool, true, false, if◌then◌else◌, ℤ, ◌+ℤ◌, ◌-ℤ◌, neg_ℤ, arith, sym, ap, ◌∙◌}
use Rattle.cf_base.proofs.Common.{int_wrap, w128, int_wrap-add_left, int_wrap-add_right, int_wrap-sub_right, ints}
use Rattle.cf_model.specs.Common.{Day}
use Rattle.cf_budget.specs.declared.changes.LineChange.{LineChange}
use Rattle.cf_budget.specs.declared.row.Row.{Row}
use Rattle.cf_budget.specs.Changes.{change_at}
use Rattle.cf_budget.specs.Tables.{room_of, row_plus, zero_row}
use Rattle.cf_budget.proofs.Rows.{plus_regroup, zero_plus}
use Rattle.cf_books_days.specs.declared.gathered.DatedChange.{DatedChange}
use Rattle.cf_books_days.specs.declared.lines.DayLines.{DayLines}
use Rattle.cf_books_days.specs.Lines.{Adds, AddsThrough, row_in}
use Rattle.cf_books_days.specs.Through.{held_row, is_through}

-- to hold a row on the way changes nothing
held_on_the_way : (r s : Row) → held_row (row_plus (held_row r) s) ≡ held_row (row_plus r s)
held_on_the_way r s = λ i. record {
  original = int_wrap-add_left w128 r.original s.original i;
  appropriated = int_wrap-add_left w128 r.appropriated s.appropriated i;
  held = int_wrap-add_left w128 r.held s.held i;
  encumbered = int_wrap-add_left w128 r.encumbered s.encumbered i;
  expended = int_wrap-add_left w128 r.expended s.expended i;
}

pub added_on : (old new : DayLines) (c : LineChange) (later : Row) (line year : ℕ) → Adds old new c →
    held_row (row_plus (row_in new line year) later) ≡ held_row (row_plus (row_in old line year) (row_plus (change_at c line year) later))
added_on old new c later line year adds =
    ap (λ (r : Row). held_row (row_plus r later)) (adds line year) ∙ by_test ((c.line.number == line) && (c.year == year))
  where
    was : Row
    was = row_in old line year

    by_test : (b : Bool) → held_row (row_plus (if b then held_row (row_plus was c.by) else was) later) ≡ held_row (row_plus was (row_plus (if b then c.by else zero_row) later))
    by_test true = held_on_the_way (row_plus was c.by) later ∙ ap held_row (sym (plus_regroup was c.by later))
    by_test false = ap (λ (r : Row). held_row (row_plus was r)) (sym (zero_plus later))

-- ---- room

pub room_is : (a h e x : ℤ) → int_wrap w128 (a -ℤ int_wrap w128 (int_wrap w128 (h +ℤ e) +ℤ x)) ≡ int_wrap w128 (a -ℤ ((h +ℤ e) +ℤ x))
room_is a h e x = ap (λ z. int_wrap w128 (a -ℤ z)) (int_wrap-add_left w128 (h +ℤ e) x) ∙ int_wrap-sub_right w128 a ((h +ℤ e) +ℤ x)

by_neg : (a b : ℤ) → a -ℤ b ≡ a +ℤ neg_ℤ b
by_neg a b = omega (arith, ints)

less_left : (a b : ℤ) → int_wrap w128 (int_wrap w128 a -ℤ b) ≡ int_wrap w128 (a -ℤ b)
less_left a b = ap (int_wrap w128) (by_neg (int_wrap w128 a) b) ∙ int_wrap-add_left w128 a (neg_ℤ b) ∙ ap (int_wrap w128) (sym (by_neg a b))

both_held : (a b : ℤ) → int_wrap w128 (int_wrap w128 a +ℤ int_wrap w128 b) ≡ int_wrap w128 (a +ℤ b)
both_held a b = int_wrap-add_left w128 a (int_wrap w128 b) ∙ int_wrap-add_right w128 a b

asked_held : (h e x : ℤ) → int_wrap w128 ((int_wrap w128 h +ℤ int_wrap w128 e) +ℤ int_wrap w128 x) ≡ int_wrap w128 ((h +ℤ e) +ℤ x)
asked_held h e x =
    sym (int_wrap-add_left w128 (int_wrap w128 h +ℤ int_wrap w128 e) (int_wrap w128 x))
    ∙ ap (λ z. int_wrap w128 (z +ℤ int_wrap w128 x)) (both_held h e)
    ∙ both_held (h +ℤ e) x

room_held : (r : Row) → int_wrap w128 (room_of (held_row r)) ≡ int_wrap w128 (room_of r)
room_held r =
    less_left r.appropriated ((int_wrap w128 r.held +ℤ int_wrap w128 r.encumbered) +ℤ int_wrap w128 r.expended)
    ∙ sym (int_wrap-sub_right w128 r.appropriated ((int_wrap w128 r.held +ℤ int_wrap w128 r.encumbered) +ℤ int_wrap w128 r.expended))
    ∙ ap (λ z. int_wrap w128 (r.appropriated -ℤ z)) (asked_held r.held r.encumbered r.expended)
    ∙ int_wrap-sub_right w128 r.appropriated ((r.held +ℤ r.encumbered) +ℤ r.expended)

-- rows that are held as one have the same room
pub room_same : (r s : Row) → held_row r ≡ held_row s → int_wrap w128 (room_of r) ≡ int_wrap w128 (room_of s)
room_same r s is = sym (room_held r) ∙ ap (λ (x : Row). int_wrap w128 (room_of x)) is ∙ room_held s

-- a change that is dated later counts as none
pub skipped_on : (was later : Row) → held_row (row_plus was later) ≡ held_row (row_plus was (row_plus zero_row later))
skipped_on was later = ap (λ (r : Row). held_row (row_plus was r)) (sym (zero_plus later))

pub added_through : (day : Day) (old new : DayLines) (d : DatedChange) → is_through day d.on ≡ true → Adds old new d.change → AddsThrough day old new d
added_through day old new d is adds line year later =
    added_on old new d.change later line year adds
    ∙ ap (λ b. held_row (row_plus (row_in old line year) (row_plus (if b then change_at d.change line year else zero_row) later))) (sym is)

pub skipped_through : (day : Day) (lines : DayLines) (d : DatedChange) → is_through day d.on ≡ false → AddsThrough day lines lines d
skipped_through day lines d is line year later =
    skipped_on (row_in lines line year) later
    ∙ ap (λ b. held_row (row_plus (row_in lines line year) (row_plus (if b then change_at d.change line year else zero_row) later))) (sym is)
