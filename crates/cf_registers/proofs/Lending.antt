-- What is lent where the stripes are lent that an act touches.
use Rattle.std.proofs.Common.{◌≡◌, ℕ, zero, suc, Bool, true, false, ◌==◌, ◌||◌, ◌&&◌, List, [], ◌∷◌, Option, Some, option_map, slice_get, IfSome, refl, sym, subst, ap, arith, ◌∙◌, All}
use Rattle.cf_base.proofs.Common.{list_all, list_any, common_steps, AllPass-from_list_all}
use Rattle.cf_model.specs.Common.{Act, Adopt, Amend, Transfer, Close, Adoption, Amendment, LineTransfer, AccountItem, LineAmount, rolled_year, is_line, Move, stripe_of, is_item_in, touches}
use Rattle.cf_calls.specs.Common.{adoption_of, amendment_of, transfer_of}
use Rattle.cf_chart.specs.Common.{Plan, line_of}
use Rattle.cf_budget.specs.declared.changes.LineChange.{LineChange}
use Rattle.cf_model.proofs.Common.{off_line}
use Rattle.cf_orders.specs.declared.moves.LineMove.{LineMove}
use Rattle.cf_orders.specs.Register.{line_move}
use Rattle.cf_registers.specs.Lines.{LendsTouched, LendsAccount}
use Rattle.cf_registers.specs.Moved.{AreTouched, adoption_changes, amendment_changes, transfer_changes}

same : (n : ℕ) → (n == n) ≡ true
same n = grind (arith, common_steps)

clash : true ≡ false → ⊥
clash e = cc

-- the line of a move is in a stripe that the act touches
touched_one : (plan : Plan) (act : Act) (a : AccountItem) → ((stripe : ℕ) → touches plan stripe act ≡ false → is_item_in plan stripe a ≡ false) →
    (year line : ℕ) → line_of plan a.fund a.dept a.object year ≡ Some line → touches plan (stripe_of line) act ≡ true
touched_one plan act a out year line is = by_test (touches plan (stripe_of line) act) refl
  where
    by_test : (b : Bool) → touches plan (stripe_of line) act ≡ b → touches plan (stripe_of line) act ≡ true
    by_test true e = e
    by_test false e = absurd (clash (sym (ap (is_line line) is ∙ same line) ∙ off_line plan line year a (out (stripe_of line) e)))

pub move_touched : (plan : Plan) (act : Act) (n : ℕ) (moves : List Move) (o : Option LineMove) → AreTouched plan act moves → o ≡ option_map line_move (slice_get moves n) →
    IfSome o (λ m. LendsAccount plan (λ line. touches plan (stripe_of line) act) m.account m.year)
move_touched plan act n moves o touched is = subst (λ (p : Option LineMove). IfSome p (λ m. LendsAccount plan (λ line. touches plan (stripe_of line) act) m.account m.year)) (sym is) (at n moves touched)
  where
    at : (n : ℕ) (moves : List Move) → AreTouched plan act moves → IfSome (option_map line_move (slice_get moves n)) (λ m. LendsAccount plan (λ line. touches plan (stripe_of line) act) m.account m.year)
    at n [] touched = tt
    at zero (m ∷ moves) touched = touched_one plan act m.account (λ stripe out. (touched stripe out).0) m.year
    at (suc n) (m ∷ moves) touched = at n moves (λ stripe out. (touched stripe out).1)

-- ---- the lines that a council's call names

adopt_is : (act : Act) (a : Adoption) → adoption_of act ≡ Some a → act ≡ Adopt a
adopt_is (Adopt b) a e = cc
adopt_is _ a e = cc

amend_is : (act : Act) (a : Amendment) → amendment_of act ≡ Some a → act ≡ Amend a
amend_is (Amend b) a e = cc
amend_is _ a e = cc

transfer_is : (act : Act) (t : LineTransfer) → transfer_of act ≡ Some t → act ≡ Transfer t
transfer_is (Transfer u) t e = cc
transfer_is _ t e = cc

pub amended_touched : (plan : Plan) (act : Act) (a : Amendment) → amendment_of act ≡ Some a → touches plan (stripe_of a.line) act ≡ true
amended_touched plan act a is = ap (touches plan (stripe_of a.line)) (amend_is act a is) ∙ same (stripe_of a.line)

pub transferred_touched : (plan : Plan) (act : Act) (t : LineTransfer) → transfer_of act ≡ Some t → (touches plan (stripe_of t.from) act ≡ true) × (touches plan (stripe_of t.to) act ≡ true)
transferred_touched plan act t is = (
  ap (touches plan (stripe_of t.from)) (transfer_is act t is) ∙ (λ i. same (stripe_of t.from) i || (stripe_of t.to == stripe_of t.from)),
  ap (touches plan (stripe_of t.to)) (transfer_is act t is) ∙ ap (λ b. (stripe_of t.from == stripe_of t.to) || b) (same (stripe_of t.to)) ∙ or_true (stripe_of t.from == stripe_of t.to),
)
  where
    or_true : (b : Bool) → (b || true) ≡ true
    or_true true = refl
    or_true false = refl

-- ---- changes of lines that an act touches

abbrev pub are_touched : Plan → Act → List LineChange → Bool
are_touched plan act changes = list_all (λ c. touches plan (stripe_of c.line.number) act) changes

pub adoption_touched : (plan : Plan) (act : Act) (a : Adoption) → adoption_of act ≡ Some a → are_touched plan act (adoption_changes a.year a.lines) ≡ true
adoption_touched plan act a is = ap (λ (x : Act). are_touched plan x (adoption_changes a.year a.lines)) (adopt_is act a is) ∙ each a.lines (λ stripe e. e)
  where
    first : (b c : Bool) → b ≡ true → (b || c) ≡ true
    first b c e = λ i. e i || c

    second : (b c : Bool) → c ≡ true → (b || c) ≡ true
    second true c e = refl
    second false c e = e

    each : (rows : List LineAmount) → ((stripe : ℕ) → list_any (λ r. stripe_of r.line == stripe) rows ≡ true → touches plan stripe (Adopt a) ≡ true) → are_touched plan (Adopt a) (adoption_changes a.year rows) ≡ true
    each [] all = refl
    each (r ∷ rows) all =
        let here = all (stripe_of r.line) (first (stripe_of r.line == stripe_of r.line) (list_any (λ q. stripe_of q.line == stripe_of r.line) rows) (same (stripe_of r.line))) in
        let more = each rows (λ stripe e. all stripe (second (stripe_of r.line == stripe) (list_any (λ q. stripe_of q.line == stripe) rows) e)) in
        λ i. here i && more i

pub amendment_touched : (plan : Plan) (act : Act) (a : Amendment) → amendment_of act ≡ Some a → are_touched plan act (amendment_changes a) ≡ true
amendment_touched plan act a is = λ i. amended_touched plan act a is i && true

pub transfer_touched : (plan : Plan) (act : Act) (t : LineTransfer) → transfer_of act ≡ Some t → are_touched plan act (transfer_changes t) ≡ true
transfer_touched plan act t is = let both = transferred_touched plan act t is in λ i. both.1 i && (both.0 i && true)

-- touched lines are lent
pub touched_lent : (plan : Plan) (lends : ℕ → Bool) (act : Act) (changes : List LineChange) → LendsTouched plan lends act → are_touched plan act changes ≡ true → All (λ (c : LineChange). lends c.line.number ≡ true) changes
touched_lent plan lends act changes lent touched k d l = lent _ (AllPass-from_list_all (λ (c : LineChange). touches plan (stripe_of c.line.number) act) changes touched k d l)

-- a close is lent every line
pub rolled_lent : (plan : Plan) (lends : ℕ → Bool) (act : Act) (year : ℕ) → rolled_year plan act ≡ Some year → LendsTouched plan lends act → (line : ℕ) → lends line ≡ true
rolled_lent plan lends (Close p) year is lent line = lent line refl
rolled_lent plan lends _ year is lent line = cc
