-- The roll of a fiscal year asks nothing of any line: what it carries raises the next year's
-- appropriation by as much.
use Rattle.std.proofs.Common.{◌≡◌, ℕ, ◌+◌, Bool, true, false, not, ◌&&◌, if◌then◌else◌, List, [], ◌∷◌, ◌++◌, map, Some, None, ℤ, pos, ◌+ℤ◌, ◌-ℤ◌, ◌≤ℤ◌, refl, sym, subst, ap, ◌∙◌, arith, filter}
use Rattle.cf_base.proofs.Common.{ints, sum_by-cons}
use Rattle.cf_calls.specs.declared.acts.Act.{Act}
use Rattle.cf_calls.specs.declared.acts.Act.TheVariants.{Amend, Transfer, Close}
use Rattle.cf_calls.specs.declared.acts.Amendment.{Amendment}
use Rattle.cf_calls.specs.declared.acts.LineTransfer.{LineTransfer}
use Rattle.cf_calls.specs.Common.{amendment_of, transfer_of, IsActInForm}
use Rattle.cf_calls.specs.declared.acts.Period.{Period}
use Rattle.cf_calls.specs.declared.entry.Entry.{Entry}
use Rattle.cf_chart.specs.Common.{Plan}
use Rattle.cf_model.specs.Common.{rolled_year, rolls, Hold, carried_sum, counts, held_amount, Move, asked_of, asks_of_moves, lapses_of, release_move, roll_moves, OrderItem, Carried, carried_of, is_live, lapses, open_of, Registers, registers_of, exceed_refusal, years_end, IsLegal}
use Rattle.cf_model.proofs.Asked.{least_excess, none_excess}
use Rattle.cf_model.proofs.Changed.{asked_is}
use Rattle.cf_model.proofs.Moved.{moved_append}

abbrev asks : Move → ℤ
asks m = (m.held +ℤ m.encumbered) +ℤ m.expended

-- what requisitions release asks nothing
release_asks : (plan : Plan) (line year : ℕ) (holds : List Hold) → asks_of_moves plan line year (map release_move holds) ≤ℤ pos 0
release_asks plan line year [] = omega (arith, ints)
release_asks plan line year (h ∷ holds) =
    by_test (counts plan line year h.account h.year) (held_amount h.state h.account.amount) (asks_of_moves plan line year (map release_move holds)) (release_asks plan line year holds)
  where
    by_test : (b : Bool) (n : ℕ) (z : ℤ) → z ≤ℤ pos 0 → ((if b then ((pos 0 -ℤ pos n) +ℤ pos 0) +ℤ pos 0 else pos 0) +ℤ z) ≤ℤ pos 0
    by_test true n z l = omega (arith, ints, l)
    by_test false n z l = omega (arith, ints, l)

abbrev fall : OrderItem → Move
fall i = record { account = i.account; year = i.year; held = pos 0; encumbered = pos 0 -ℤ pos (open_of i); expended = pos 0 }

abbrev rise : OrderItem → Move
rise i = record { account = i.account; year = i.year + 1; held = pos 0; encumbered = pos (open_of i); expended = pos 0 }

abbrev carry : OrderItem → Carried
carry i = record { account = i.account; year = i.year + 1; amount = open_of i }

-- what an item that the roll moves asks is at most what is carried of it
item_asks : (plan : Plan) (line year : ℕ) (i : OrderItem) (moves : List Move) (carried : List Carried) (b l : Bool) → asks_of_moves plan line year moves ≤ℤ pos (carried_sum plan line year carried) →
    asks_of_moves plan line year ((if b then fall i ∷ (if l then [] else rise i ∷ []) else []) ++ moves) ≤ℤ pos (carried_sum plan line year ((if b && not l then carry i ∷ [] else []) ++ carried))
item_asks plan line year i moves carried false l rest = rest
item_asks plan line year i moves carried true true rest = by_test (counts plan line year i.account i.year) (open_of i) _ _ rest
  where
    by_test : (b : Bool) (n : ℕ) (z w : ℤ) → z ≤ℤ w → ((if b then (pos 0 +ℤ (pos 0 -ℤ pos n)) +ℤ pos 0 else pos 0) +ℤ z) ≤ℤ w
    by_test true n z w l = omega (arith, ints, l)
    by_test false n z w l = omega (arith, ints, l)
item_asks plan line year i moves carried true false rest =
    rw (sum_by-cons (λ (c : Carried). if counts plan line year c.account c.year then c.amount else 0) (carry i) carried)
    (by_tests (counts plan line year i.account i.year) (counts plan line year i.account (i.year + 1)) (open_of i) (asks_of_moves plan line year moves) (carried_sum plan line year carried) rest)
  where
    by_tests : (b c : Bool) (n : ℕ) (z : ℤ) (w : ℕ) → z ≤ℤ pos w →
        ((if b then (pos 0 +ℤ (pos 0 -ℤ pos n)) +ℤ pos 0 else pos 0) +ℤ ((if c then (pos 0 +ℤ pos n) +ℤ pos 0 else pos 0) +ℤ z)) ≤ℤ pos ((if c then n else 0) + w)
    by_tests true true n z w l = omega (arith, ints, l)
    by_tests true false n z w l = omega (arith, ints, l)
    by_tests false true n z w l = omega (arith, ints, l)
    by_tests false false n z w l = omega (arith, ints, l)

roll_asks : (plan : Plan) (line year : ℕ) (act : Act) (items : List OrderItem) → asks_of_moves plan line year (roll_moves plan act items) ≤ℤ pos (carried_sum plan line year (carried_of plan act items))
roll_asks plan line year act [] = omega (arith, ints)
roll_asks plan line year act (i ∷ items) =
    by_test (rolls plan i.year act) (is_live i) (roll_asks plan line year act items)
  where
    by_test : (b c : Bool) → asks_of_moves plan line year (roll_moves plan act items) ≤ℤ pos (carried_sum plan line year (carried_of plan act items)) →
        asks_of_moves plan line year ((if b && c then fall i ∷ (if lapses plan i then [] else rise i ∷ []) else []) ++ roll_moves plan act items)
        ≤ℤ pos (carried_sum plan line year ((if b && c && not (lapses plan i) then carry i ∷ [] else []) ++ carried_of plan act items))
    by_test true true rest = item_asks plan line year i (roll_moves plan act items) (carried_of plan act items) true (lapses plan i) rest
    by_test true false rest = rest
    by_test false c rest = rest

-- so a close of a month or a year asks nothing
close_asks : (plan : Plan) (s : Registers) (e : Entry) (p : Period) (line year : ℕ) → e.change.act ≡ Close p → asked_of plan s e line year ≤ℤ pos 0
close_asks plan s e p line year is =
    subst (λ (a : Act). asked_of plan s (record e { change = record e.change { act = a } }) line year ≤ℤ pos 0) (sym is) at_close
  where
    total : (c : ℕ) (x y z : ℤ) → z ≡ x +ℤ y → x ≤ℤ pos 0 → y ≤ℤ pos c → ((pos 0 -ℤ pos (0 + c)) +ℤ z) ≤ℤ pos 0
    total c x y z f g k = omega (arith, ints, f, g, k)

    at_close : asked_of plan s (record e { change = record e.change { act = Close p } }) line year ≤ℤ pos 0
    at_close =
        total (carried_sum plan line year (carried_of plan (Close p) s.documents.items)) _ _ _
        (moved_append asks plan line year (lapses_of plan (Close p) s.documents.holds) (roll_moves plan (Close p) s.documents.items))
        (release_asks plan line year (filter (λ h. rolls plan h.year (Close p)) s.documents.holds)) (roll_asks plan line year (Close p) s.documents.items)

-- and no line has too little room for it
pub exceed_close : (plan : Plan) (h : List Entry) (e : Entry) (p : Period) → IsLegal plan h → IsActInForm e.change.on e.change.act → e.change.act ≡ Close p → exceed_refusal plan h e ≡ None
unfolding exceed_refusal years_end
exceed_close plan h e p legal form is =
    ap (least_excess plan h) (λ i line year. asked_is plan h e line year legal form i)
    ∙ none_excess plan h (asked_of plan (registers_of plan h) e) (λ line year. close_asks plan (registers_of plan h) e p line year is)

-- every other act rolls no year
pub unrolled : (plan : Plan) (act : Act) → ((p : Period) → act ≡ Close p → ⊥) → rolled_year plan act ≡ None
unrolled plan (Close p) none = absurd (none p refl)
unrolled plan _ none = refl

pub amend_unrolled : (plan : Plan) (act : Act) (a : Amendment) → amendment_of act ≡ Some a → rolled_year plan act ≡ None
amend_unrolled plan (Amend b) a is = refl
amend_unrolled plan _ a is = cc

pub transfer_unrolled : (plan : Plan) (act : Act) (t : LineTransfer) → transfer_of act ≡ Some t → rolled_year plan act ≡ None
transfer_unrolled plan (Transfer u) t is = refl
transfer_unrolled plan _ t is = cc
