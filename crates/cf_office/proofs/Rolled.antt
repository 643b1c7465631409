-- The changes of a roll, line by line, make what the entry that rolls the year changes.
use Rattle.std.proofs.Common.{◌≡◌, ◌⊎◌, inl, inr, ℕ, zero, suc, ◌+◌, ◌<◌, ◌≤◌, Bool, true, false, if◌then◌else◌, ◌==◌, ◌&&◌, nat_lt, List, [], ◌∷◌, ◌++◌, length, Some, pos, ◌+ℤ◌, ◌-ℤ◌, refl, sym, ap, subst, ◌∙◌, arith, filter}
use Rattle.cf_base.proofs.Common.{list_any, list_all, AllByRecursion, cases_lt, eqb_tells, common_steps}
use Rattle.cf_model.specs.Common.{Day, Act, Close, Period, Entry, is_year, rolled_year, rolls, Documents, documents_of, encumbered, encumbered_sum, held_sum, Move, carried_by, carried_to, lapses_of, moved_sum, release_move, roll_moves, Registers, registers_of}
use Rattle.cf_calls.specs.Common.{is_distinct, IsActInForm}
use Rattle.cf_chart.specs.Common.{Plan}
use Rattle.cf_budget.specs.declared.changes.LineChange.{LineChange}
use Rattle.cf_budget.specs.declared.row.Row.{Row}
use Rattle.cf_budget.specs.Changes.{change_at, changes_at, same_place}
use Rattle.cf_budget.specs.Tables.{carry_row, row_plus, zero_row}
use Rattle.cf_budget.proofs.Rows.{plus_zero, zero_plus, plus_regroup}
use Rattle.cf_model.specs.LineNumbers.{held}
use Rattle.cf_model.proofs.Common.{first, last, moved_append, moved_none, none_both, rolls_none, documents_are, encumbers_to, none_carried, none_encumbered, none_held, roll_carries, roll_encumbers, roll_releases, all_append as all_both, distinct_append, rolled_below}
use Rattle.cf_registers.specs.Moved.{Make, is_inside, moved_by}
use Rattle.cf_office.specs.Rolled.{changes_to, cleared_row, line_changes}
use Rattle.cf_registers.proofs.Lending.{are_touched}
use Rattle.cf_registers.proofs.Moved.{inside_at, less_none}

-- ---- the list of changes

at_append : (xs ys : List LineChange) (m z : ℕ) → changes_at (xs ++ ys) m z ≡ row_plus (changes_at xs m z) (changes_at ys m z)
at_append [] ys m z = sym (zero_plus (changes_at ys m z))
at_append (x ∷ xs) ys m z = ap (row_plus (change_at x m z)) (at_append xs ys m z) ∙ plus_regroup (change_at x m z) (changes_at xs m z) (changes_at ys m z)

-- what a line's changes make of a line and year
module _ (plan : Plan) (h : List Entry) (year : ℕ) where
  abbrev own : ℕ → ℕ → Row
  own line z = if year == z then cleared_row (held plan line year h) (encumbered plan line year h) else (if year + 1 == z then carry_row (carried_to plan line year (documents_of plan h).items) else zero_row)

  of_line : (line m z : ℕ) → changes_at (line_changes plan h year line) m z ≡ (if line == m then own line z else zero_row)
  of_line line m z = by_tests (line == m) (year == z) (year + 1 == z) (eqb_tells year z) (eqb_tells (year + 1) z)
    where
      a : Row
      a = cleared_row (held plan line year h) (encumbered plan line year h)

      b : Row
      b = carry_row (carried_to plan line year (documents_of plan h).items)

      by_tests : (l y n : Bool) → ((y ≡ true) × (year ≡ z)) ⊎ ((y ≡ false) × (year ≡ z → ⊥)) → ((n ≡ true) × (year + 1 ≡ z)) ⊎ ((n ≡ false) × (year + 1 ≡ z → ⊥)) →
          row_plus (if l && y then a else zero_row) (row_plus (if l && n then b else zero_row) zero_row) ≡ (if l then (if y then a else (if n then b else zero_row)) else zero_row)
      by_tests false y n p q = zero_plus (row_plus zero_row zero_row) ∙ zero_plus zero_row
      by_tests true true true (inl p) (inl q) = absurd (omega (arith, p.1, q.1))
      by_tests true true true p (inr q) = cc
      by_tests true true true (inr p) q = cc
      by_tests true true false p q = ap (row_plus a) (zero_plus zero_row) ∙ plus_zero a
      by_tests true false true p q = zero_plus (row_plus b zero_row) ∙ plus_zero b
      by_tests true false false p q = zero_plus (row_plus zero_row zero_row) ∙ zero_plus zero_row

  to_at : (n m z : ℕ) → changes_at (changes_to plan h year n) m z ≡ (if nat_lt m n then own m z else zero_row)
  to_at zero m z = ap (λ (b : Bool). if b then own m z else zero_row) (sym (none_below m))
    where
      none_below : (m : ℕ) → nat_lt m 0 ≡ false
      none_below m = grind (arith, common_steps)
  to_at (suc n) m z =
      at_append (changes_to plan h year n) (line_changes plan h year n) m z
      ∙ (λ i. row_plus (to_at n m z i) (of_line n m z i))
      ∙ by_tests (cases_lt m n) (eqb_tells n m)
    where
      below : (m n : ℕ) → m < n → nat_lt m n ≡ true
      below m n l = grind (arith, common_steps)

      above : (m n : ℕ) → n ≤ m → nat_lt m n ≡ false
      above m n l = grind (arith, common_steps)

      by_tests : (m < n) ⊎ (n ≤ m) → (((n == m) ≡ true) × (n ≡ m)) ⊎ (((n == m) ≡ false) × (n ≡ m → ⊥)) →
          row_plus (if nat_lt m n then own m z else zero_row) (if n == m then own n z else zero_row) ≡ (if nat_lt m (suc n) then own m z else zero_row)
      by_tests (inl l) (inl e) = absurd (omega (arith, l, e.1))
      by_tests (inl l) (inr e) = rw (below m n l, e.0, below m (suc n) (omega (arith, l))) (plus_zero (own m z))
      by_tests (inr l) (inl e) = rw (above m n l, e.0, below m (suc n) (omega (arith, e.1))) (zero_plus (own n z) ∙ ap (λ k. own k z) e.1)
      by_tests (inr l) (inr e) = rw (above m n l, e.0, above m (suc n) (at_least l e.1)) (zero_plus zero_row)
        where
          at_least : n ≤ m → (n ≡ m → ⊥) → suc n ≤ m
          at_least l d = elim (cases_lt n m) [ inl lt ↦ lt | inr ge ↦ absurd (d (omega (arith, l, ge))) ]

  -- each line is there, in a year that has numbers
  all_inside : (n : ℕ) → n ≤ length plan.lines → year < 2200 → list_all (λ c. is_inside plan c.line.number c.year) (changes_to plan h year n) ≡ true
  all_inside zero l y = refl
  all_inside (suc n) l y =
      all_append (λ (c : LineChange). is_inside plan c.line.number c.year) (changes_to plan h year n) (line_changes plan h year n) (all_inside n (omega (arith, l)) y)
      (λ i. inside_at plan n year (omega (arith, l)) (omega (arith, y)) i && (inside_at plan n (year + 1) (omega (arith, l)) (omega (arith, y)) i && true))
    where
      all_append : (p : LineChange → Bool) (xs ys : List LineChange) → list_all p xs ≡ true → list_all p ys ≡ true → list_all p (xs ++ ys) ≡ true
      all_append p [] ys a b = b
      all_append p (x ∷ xs) ys a b = by_test (p x) a (λ r. all_append p xs ys r b)
        where
          by_test : (t : Bool) → (t && list_all p xs) ≡ true → (list_all p xs ≡ true → list_all p (xs ++ ys) ≡ true) → (t && list_all p (xs ++ ys)) ≡ true
          by_test true e more = more e
          by_test false e more = cc

  lines_below : (n most : ℕ) → n ≤ most → AllByRecursion (λ (c : LineChange). c.line.number < most) (changes_to plan h year n)
  lines_below zero most l = tt
  lines_below (suc n) most l = all_both (λ (c : LineChange). c.line.number < most) (changes_to plan h year n) (line_changes plan h year n) (lines_below n most (omega (arith, l))) (omega (arith, l), (omega (arith, l), tt))

  -- no two are of one line and year
  all_apart : (n : ℕ) → is_distinct same_place (changes_to plan h year n) ≡ true
  all_apart zero = refl
  all_apart (suc n) = distinct_append same_place (changes_to plan h year n) (line_changes plan h year n) (all_apart n) (rw (self n year) refl) (apart (changes_to plan h year n) (lines_below n n (omega arith)))
    where
      other : (a b : ℕ) (t : Bool) → a < b → ((a == b) && t) ≡ false
      other a b t l = grind (arith, common_steps)

      self : (n y : ℕ) → ((n == n) && (y == y + 1)) ≡ false
      self n y = grind (arith, common_steps)

      apart : (xs : List LineChange) → AllByRecursion (λ (c : LineChange). c.line.number < n) xs → AllByRecursion (λ x. list_any (same_place x) (line_changes plan h year n) ≡ false) xs
      apart [] all = tt
      apart (x ∷ xs) all = (rw (other x.line.number n (x.year == year) all.0, other x.line.number n (x.year == year + 1) all.0) refl, apart xs all.1)

-- ---- what the entry changes

close_of : (plan : Plan) (act : Act) (year : ℕ) → rolled_year plan act ≡ Some year → (p : Period) × (act ≡ Close p)
close_of plan (Close p) year e = (p, refl)
close_of plan _ year e = cc

no_more : (n : ℕ) → 0 + n ≡ n
no_more n = omega arith

module _ (plan : Plan) (h : List Entry) (on : Day) (p : Period) (year : ℕ) (is : rolled_year plan (Close p) ≡ Some year) (line z : ℕ) where
  abbrev s : Registers
  s = registers_of plan h

  abbrev falls : List Move
  falls = lapses_of plan (Close p) s.documents.holds

  abbrev rises : List Move
  rises = roll_moves plan (Close p) s.documents.items

  abbrev came : ℕ
  came = carried_to plan line year (documents_of plan h).items

  carried_now : carried_to plan line year s.documents.items ≡ came
  carried_now = ap (λ (d : Documents). carried_to plan line year d.items) (documents_are plan h)

  encumbered_now : encumbered_sum plan line year s.documents.items ≡ encumbered plan line year h
  encumbered_now = ap (λ (d : Documents). encumbered_sum plan line year d.items) (documents_are plan h)

  held_now : held_sum plan line year s.documents.holds ≡ held plan line year h
  held_now = ap (λ (d : Documents). held_sum plan line year d.holds) (documents_are plan h)

  held_is : moved_sum (λ m. m.held) plan line z (falls ++ rises) ≡ (if z == year then pos 0 -ℤ pos (held plan line year h) else pos 0)
  held_is =
      moved_append (λ m. m.held) plan line z falls rises
      ∙ (λ i. roll_releases plan (Close p) year line z is s.documents.holds i +ℤ rolls_none (λ m. m.held) plan line z (Close p) (λ x y w. refl) s.documents.items i)
      ∙ last _
      ∙ ap (λ n. if z == year then pos 0 -ℤ pos n else pos 0) held_now

  encumbered_is : moved_sum (λ m. m.encumbered) plan line z (falls ++ rises) ≡ encumbers_to (z == year) (encumbered plan line year h) (if z == year + 1 then came else 0)
  encumbered_is =
      moved_append (λ m. m.encumbered) plan line z falls rises
      ∙ (λ i. moved_none (λ m. m.encumbered) plan line z release_move (λ x. refl) (filter (λ x. rolls plan x.year (Close p)) s.documents.holds) i +ℤ roll_encumbers plan (Close p) year line z is s.documents.items i)
      ∙ first _
      ∙ (λ i. encumbers_to (z == year) (encumbered_now i) (if z == year + 1 then carried_now i else 0))

  expended_is : moved_sum (λ m. m.expended) plan line z (falls ++ rises) ≡ pos 0
  expended_is =
      none_both (λ m. m.expended) plan line z falls rises
      (moved_none (λ m. m.expended) plan line z release_move (λ x. refl) (filter (λ x. rolls plan x.year (Close p)) s.documents.holds))
      (rolls_none (λ m. m.expended) plan line z (Close p) (λ x y w. refl) s.documents.items)

  carried_is : 0 + carried_by plan s.documents line z (Close p) ≡ (if z == year + 1 then came else 0)
  carried_is = no_more (carried_by plan s.documents line z (Close p)) ∙ roll_carries plan (Close p) year line z is s.documents.items ∙ ap (λ (n : ℕ). if z == year + 1 then n else 0) carried_now

  shape : (t n : Bool) (a b c : ℕ) → (t ≡ true → n ≡ false) →
      (let r : Row = record { original = pos 0; appropriated = pos (if n then c else 0) -ℤ pos 0; held = if t then pos 0 -ℤ pos a else pos 0; encumbered = encumbers_to t b (if n then c else 0); expended = pos 0 } in r)
      ≡ (if t then cleared_row a b else (if n then carry_row c else zero_row))
  shape true true a b c e = let x : true ≡ false = e refl in cc
  shape true false a b c e = refl
  shape false true a b c e = λ i. record zero_row { appropriated = less_none c i; encumbered = less_none c i }
  shape false false a b c e = refl

  flip : (m n : ℕ) → (m == n) ≡ (n == m)
  flip m n = grind (arith, common_steps)

  not_next : (z year : ℕ) → (z == year) ≡ true → (z == year + 1) ≡ false
  not_next z year e = grind (arith, common_steps)

  roll_row : moved_by plan s on (Close p) line z ≡ own plan h year line z
  roll_row =
      (λ i. record { original = pos 0; appropriated = pos (carried_is i) -ℤ pos 0; held = held_is i; encumbered = encumbered_is i; expended = expended_is i })
      ∙ shape (z == year) (z == year + 1) (held plan line year h) (encumbered plan line year h) came (not_next z year)
      ∙ (λ i. if flip z year i then cleared_row (held plan line year h) (encumbered plan line year h) else (if flip z (year + 1) i then carry_row came else zero_row))

  -- a line that isn't there
  nothing_there : length plan.lines ≤ line → own plan h year line z ≡ zero_row
  nothing_there l =
      (λ i. if year == z then cleared_row ((sym held_now ∙ none_held plan line year l s.documents.holds) i) ((sym encumbered_now ∙ none_encumbered plan line year l s.documents.items) i)
      else (if year + 1 == z then carry_row ((sym carried_now ∙ none_carried plan line year l s.documents.items) i) else zero_row))
      ∙ by_tests (year == z) (year + 1 == z)
    where
      by_tests : (a b : Bool) → (if a then cleared_row 0 0 else (if b then carry_row 0 else zero_row)) ≡ zero_row
      by_tests true b = refl
      by_tests false true = refl
      by_tests false false = refl

-- the changes line by line make what an entry changes that rolls a year
pub roll_make : (plan : Plan) (h : List Entry) (on : Day) (act : Act) (year : ℕ) → rolled_year plan act ≡ Some year → year < 2200 → Make plan (moved_by plan (registers_of plan h) on act) (changes_to plan h year (length plan.lines))
roll_make plan h on act year is y =
    let c = close_of plan act year is in
    let now : rolled_year plan (Close c.0) ≡ Some year = sym (ap (rolled_year plan) c.1) ∙ is in
    subst (λ (a : Act). Make plan (moved_by plan (registers_of plan h) on a) (changes_to plan h year (length plan.lines))) (sym c.1)
    (record {
      apart = all_apart plan h year (length plan.lines);
      inside = all_inside plan h year (length plan.lines) (omega arith) y;
      made = λ line z. to_at plan h year (length plan.lines) line z ∙ there c.0 now line z (cases_lt line (length plan.lines));
    })
  where
    below : (m n : ℕ) → m < n → nat_lt m n ≡ true
    below m n l = grind (arith, common_steps)

    above : (m n : ℕ) → n ≤ m → nat_lt m n ≡ false
    above m n l = grind (arith, common_steps)

    there : (p : Period) → rolled_year plan (Close p) ≡ Some year → (line z : ℕ) → (line < length plan.lines) ⊎ (length plan.lines ≤ line) →
        (if nat_lt line (length plan.lines) then own plan h year line z else zero_row) ≡ moved_by plan (registers_of plan h) on (Close p) line z
    there p now line z (inl l) = rw (below line (length plan.lines) l) (sym (roll_row plan h on p year now line z))
    there p now line z (inr l) = rw (above line (length plan.lines) l) (sym (nothing_there plan h on p year now line z l) ∙ sym (roll_row plan h on p year now line z))

-- all stripes are touched
pub roll_touched : (plan : Plan) (h : List Entry) (act : Act) (year n : ℕ) → rolled_year plan act ≡ Some year → are_touched plan act (changes_to plan h year n) ≡ true
roll_touched plan h act year n is =
    let c = close_of plan act year is in
    subst (λ (a : Act). are_touched plan a (changes_to plan h year n) ≡ true) (sym c.1) (all c.0 (changes_to plan h year n))
  where
    all : (p : Period) (xs : List LineChange) → are_touched plan (Close p) xs ≡ true
    all p [] = refl
    all p (x ∷ xs) = all p xs

-- the year that is rolled has one after it
pub rolled_before : (plan : Plan) (on : Day) (act : Act) (year : ℕ) → IsActInForm on act → rolled_year plan act ≡ Some year → year < 2200
rolled_before plan on act year form is = rolled_below plan on act year form (ap (is_year year) is ∙ self year)
  where
    self : (n : ℕ) → (n == n) ≡ true
    self n = grind (arith, common_steps)
