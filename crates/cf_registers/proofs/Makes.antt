-- What the first moves of an act change, one move more.
use Rattle.std.proofs.Common.{◌≡◌, inl, inr, ℕ, ◌+◌, ◌*◌, ◌^◌, ◌<◌, ◌≤◌, Bool, true, false, if◌then◌else◌, List, [], ◌∷◌, length, take, get_or, Option, Some, None, option_map, slice_get, IfSome, ℤ, pos, negsuc, ◌+ℤ◌, ◌-ℤ◌, ◌≤ℤ◌, unsigned_abs, FitsSigned, refl, sym, ap, subst, ◌∙◌, arith, All}
use Rattle.cf_base.proofs.Common.{w128, list_all, ints, take_more, slice_get_cases}
use Rattle.cf_calls.specs.Common.{is_distinct}
use Rattle.cf_chart.specs.Common.{Plan}
use Rattle.cf_budget.specs.declared.changes.LineChange.{LineChange}
use Rattle.cf_budget.specs.declared.row.Row.{Row}
use Rattle.cf_budget.specs.Changes.{changes_at, same_place}
use Rattle.cf_budget.specs.Tables.{row_plus, zero_row, AreHeld}
use Rattle.cf_budget.proofs.Merges.{only_at}
use Rattle.cf_model.specs.Common.{counts, Move}
use Rattle.cf_model.proofs.Common.{moved_append}
use Rattle.cf_orders.specs.declared.moves.LineMove.{LineMove}
use Rattle.cf_orders.specs.Register.{line_move, IsSmall}
use Rattle.cf_registers.specs.Moved.{Make, is_inside, move_row, moves_row, row_if, IsSmallSum, AreSmallSums}

-- the move at a place, as the register gives it
pub at_place : (moves : List Move) (n : ℕ) → n < length moves → (x : Move) × (slice_get moves n ≡ Some x) × (get_or moves n x ≡ x)
at_place moves n l = elim (slice_get_cases moves n).1 [
  | inl here ↦ (here.0, here.2, here.3)
  | inr past ↦ absurd (omega (arith, l, past.0))
]

-- a number to which so many moves added
pub record IsFew (n : ℕ) (z : ℤ) : Type 0 where
  pub least : (pos 0 -ℤ pos (n * 18446744073709551616)) ≤ℤ z
  pub most : z ≤ℤ pos (n * 18446744073709551616)

-- the first moves make this of each line and year, which is small
pub record MadeSoFar (plan : Plan) (n : ℕ) (moves : List Move) (changes : List LineChange) : Type 0 where
  pub make : Make plan (moves_row plan (take n moves)) changes
  pub few : n ≤ 64
  pub places : length changes ≤ n
  pub held : (line year : ℕ) → IsFew n (moves_row plan (take n moves) line year).held
  pub encumbered : (line year : ℕ) → IsFew n (moves_row plan (take n moves) line year).encumbered
  pub expended : (line year : ℕ) → IsFew n (moves_row plan (take n moves) line year).expended

last : (z : ℤ) → z +ℤ pos 0 ≡ z
last z = omega (arith, ints)

-- one move's row
row_of_one : (plan : Plan) (line year : ℕ) (m : Move) → moves_row plan (m ∷ []) line year ≡ row_if plan line year (Some (line_move m))
row_of_one plan line year m = by_test (counts plan line year m.account m.year)
  where
    by_test : (b : Bool) →
        (let r : Row = record zero_row { held = (if b then m.held else pos 0) +ℤ pos 0; encumbered = (if b then m.encumbered else pos 0) +ℤ pos 0; expended = (if b then m.expended else pos 0) +ℤ pos 0 } in r)
        ≡ (if b then move_row (line_move m) else zero_row)
    by_test true = λ i. record zero_row { held = last m.held i; encumbered = last m.encumbered i; expended = last m.expended i }
    by_test false = refl

pub rows_next : (plan : Plan) (line year n : ℕ) (moves : List Move) → n < length moves →
    moves_row plan (take (n + 1) moves) line year ≡ row_plus (moves_row plan (take n moves) line year) (row_if plan line year (option_map line_move (slice_get moves n)))
rows_next plan line year n moves l =
    let x = at_place moves n l in
    let front = take n moves in
    let m = get_or moves n x.0 in
    ap (λ (ms : List Move). moves_row plan ms line year) (take_more moves n x.0 l)
    ∙ (λ i. record zero_row {
      held = moved_append (λ m. m.held) plan line year front (m ∷ []) i;
      encumbered = moved_append (λ m. m.encumbered) plan line year front (m ∷ []) i;
      expended = moved_append (λ m. m.expended) plan line year front (m ∷ []) i;
    })
    ∙ ap (row_plus (moves_row plan front line year)) (row_of_one plan line year m)
    ∙ ap (λ (y : Move). row_plus (moves_row plan front line year) (row_if plan line year (Some (line_move y)))) x.2
    ∙ ap (λ (o : Option Move). row_plus (moves_row plan front line year) (row_if plan line year (option_map line_move o))) (sym x.1)

fits_more : (n : ℕ) (z x : ℤ) → n ≤ 64 → IsFew n z → unsigned_abs x < 2 ^ 64 → FitsSigned w128 (z +ℤ x)
fits_more n z (pos k) few s l = omega (arith, ints, few, s.least, s.most, l)
fits_more n z (negsuc k) few s l = omega (arith, ints, few, s.least, s.most, l)

few_more : (n : ℕ) (z x : ℤ) → IsFew n z → unsigned_abs x < 2 ^ 64 → IsFew (n + 1) (z +ℤ x)
few_more n z (pos k) s l = record { least = omega (arith, ints, s.least, s.most, l); most = omega (arith, ints, s.least, s.most, l) }
few_more n z (negsuc k) s l = record { least = omega (arith, ints, s.least, s.most, l); most = omega (arith, ints, s.least, s.most, l) }

few_same : (n : ℕ) (z : ℤ) → IsFew n z → IsFew (n + 1) (z +ℤ pos 0)
few_same n z s = record { least = omega (arith, ints, s.least); most = omega (arith, ints, s.most) }

nothing_fits : FitsSigned w128 (pos 0 +ℤ pos 0)
nothing_fits = omega (arith, ints)

-- a move more fits
pub more_fits : (plan : Plan) (n : ℕ) (moves : List Move) (changes : List LineChange) (o : Option LineMove) → MadeSoFar plan n moves changes → IfSome o IsSmall →
    IfSome o (λ m. (line year : ℕ) → AreHeld (row_plus (changes_at changes line year) (move_row m)))
more_fits plan n moves changes None s small = tt
more_fits plan n moves changes (Some m) s small = λ line year.
    subst (λ (r : Row). AreHeld (row_plus r (move_row m))) (sym (s.make.made line year))
    (record {
      original = nothing_fits;
      appropriated = nothing_fits;
      held = fits_more n (moves_row plan (take n moves) line year).held m.held s.few (s.held line year) small.held;
      encumbered = fits_more n (moves_row plan (take n moves) line year).encumbered m.encumbered s.few (s.encumbered line year) small.encumbered;
      expended = fits_more n (moves_row plan (take n moves) line year).expended m.expended s.few (s.expended line year) small.expended;
    })

abbrev Number : Type 0
Number = Row → ℤ

few_row : (plan : Plan) (line year n : ℕ) (r : Row) (o : Option LineMove) (f : Number) → ((a b : Row) → f (row_plus a b) ≡ f a +ℤ f b) → f zero_row ≡ pos 0 →
    IfSome o (λ m. unsigned_abs (f (move_row m)) < 2 ^ 64) → IsFew n (f r) → IsFew (n + 1) (f (row_plus r (row_if plan line year o)))
few_row plan line year n r None f adds at_zero small s = subst (IsFew (n + 1)) (sym (adds r zero_row ∙ ap (λ z. f r +ℤ z) at_zero)) (few_same n (f r) s)
few_row plan line year n r (Some m) f adds at_zero small s = by_test (counts plan line year m.account m.year)
  where
    by_test : (b : Bool) → IsFew (n + 1) (f (row_plus r (if b then move_row m else zero_row)))
    by_test true = subst (IsFew (n + 1)) (sym (adds r (move_row m))) (few_more n (f r) (f (move_row m)) s small)
    by_test false = subst (IsFew (n + 1)) (sym (adds r zero_row ∙ ap (λ z. f r +ℤ z) at_zero)) (few_same n (f r) s)

one_of : (o : Option LineMove) (P : LineMove → Type 0) → ((m : LineMove) → IsSmall m → P m) → IfSome o IsSmall → IfSome o P
one_of None P h small = tt
one_of (Some m) P h small = h m small

pub made_more : (plan : Plan) (n : ℕ) (moves : List Move) (before after : List LineChange) (o : Option LineMove) → n < length moves → length moves ≤ 64 → o ≡ option_map line_move (slice_get moves n) → IfSome o IsSmall →
    MadeSoFar plan n moves before → length after ≤ length before + 1 → is_distinct same_place after ≡ true → list_all (λ c. is_inside plan c.line.number c.year) after ≡ true →
    ((m z : ℕ) → changes_at after m z ≡ row_plus (changes_at before m z) (row_if plan m z o)) → MadeSoFar plan (n + 1) moves after
made_more plan n moves before after o l few is small s more apart inside adds =
    let next : (line year : ℕ) → row_plus (moves_row plan (take n moves) line year) (row_if plan line year o) ≡ moves_row plan (take (n + 1) moves) line year =
    λ line year. ap (λ (p : Option LineMove). row_plus (moves_row plan (take n moves) line year) (row_if plan line year p)) is ∙ sym (rows_next plan line year n moves l) in
    record {
      make = record { apart = apart; inside = inside; made = λ line year. adds line year ∙ ap (λ (r : Row). row_plus r (row_if plan line year o)) (s.make.made line year) ∙ next line year };
      few = omega (arith, l, few);
      places = omega (arith, more, s.places);
      held = λ line year. subst (λ (r : Row). IsFew (n + 1) r.held) (next line year)
          (few_row plan line year n (moves_row plan (take n moves) line year) o (λ r. r.held) (λ a b. refl) refl (one_of o (λ m. unsigned_abs m.held < 2 ^ 64) (λ m t. t.held) small) (s.held line year));
      encumbered = λ line year. subst (λ (r : Row). IsFew (n + 1) r.encumbered) (next line year)
          (few_row plan line year n (moves_row plan (take n moves) line year) o (λ r. r.encumbered) (λ a b. refl) refl (one_of o (λ m. unsigned_abs m.encumbered < 2 ^ 64) (λ m t. t.encumbered) small) (s.encumbered line year));
      expended = λ line year. subst (λ (r : Row). IsFew (n + 1) r.expended) (next line year)
          (few_row plan line year n (moves_row plan (take n moves) line year) o (λ r. r.expended) (λ a b. refl) refl (one_of o (λ m. unsigned_abs m.expended < 2 ^ 64) (λ m t. t.expended) small) (s.expended line year));
    }

-- ---- what all moves make of a line and year is small

small : (n : ℕ) (z : ℤ) → n ≤ 64 → IsFew n z → IsSmallSum z
small n z few s = record { least = omega (arith, ints, few, s.least); most = omega (arith, ints, few, s.most) }

pub made_small : (plan : Plan) (n : ℕ) (moves : List Move) (changes : List LineChange) → MadeSoFar plan n moves changes → All (λ c. AreSmallSums c.by) changes
made_small plan n moves changes s k d l =
    let c : LineChange = get_or changes k d in
    let line = c.line.number in
    let year = c.year in
    let is : moves_row plan (take n moves) line year ≡ c.by = sym (s.make.made line year) ∙ only_at changes k d l s.make.apart in
    subst AreSmallSums is (record {
      held = small n (moves_row plan (take n moves) line year).held s.few (s.held line year);
      encumbered = small n (moves_row plan (take n moves) line year).encumbered s.few (s.encumbered line year);
      expended = small n (moves_row plan (take n moves) line year).expended s.few (s.expended line year);
    })
