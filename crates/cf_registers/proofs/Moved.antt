-- The changes of each kind of entry make what the entry changes.
use Rattle.std.proofs.Common.{◌≡◌, ◌≢◌, ℕ, ◌+◌, ◌<◌, Bool, true, false, not, if◌then◌else◌, ◌==◌, ◌&&◌, ◌||◌, nat_lt, List, [], ◌∷◌, ◌++◌, length, map, Option, Some, None, ℤ, pos, negsuc, ◌+ℤ◌, ◌-ℤ◌, refl, sym, ap, subst, ◌∙◌, arith}
use Rattle.cf_base.proofs.Common.{list_any, list_all, common_steps, ints, slice_get_within, sum_by-cons}
use Rattle.cf_model.specs.Common.{Day, Act, Adopt, Amend, Transfer, Adoption, Amendment, LineTransfer, LineAmount, Line, Documents, adopted_by, added_by, removed_by, amount_for, rise_of, fall_of, Name, name_refusal, unknown, line_name, fund_name, is_line_of, first_refusal, or_else, Registers}
use Rattle.cf_calls.specs.Common.{adoption_of, amendment_of, transfer_of, is_distinct, same_line, IsActInForm, IsAdoptionForm, IsYear}
use Rattle.cf_calls.specs.declared.names.NameKind.TheVariants as kind
use Rattle.cf_calls.specs.declared.refusal.Refusal.TheVariants as refusal
use Rattle.cf_chart.specs.Common.{Plan, line_at}
use Rattle.cf_budget.specs.declared.changes.LineChange.{LineChange}
use Rattle.cf_budget.specs.declared.row.Row.{Row}
use Rattle.cf_budget.specs.Changes.{changes_at, same_place}
use Rattle.cf_budget.specs.Tables.{row_plus, zero_row, adopt_row, amend_row}
use Rattle.cf_budget.proofs.Rows.{plus_zero, zero_plus}
use Rattle.cf_model.proofs.Common.{amended_line, or_else_none, refuse_none}
use Rattle.cf_registers.specs.Moved.{Make, plainly_moved, act_moves, moves_row, is_inside, change_of, adoption_changes, amendment_changes, transfer_changes}

-- what an act of the council changes, which moves no document
abbrev council_moves : Act → ℕ → ℕ → Row
council_moves act line year = record {
  original = pos (adopted_by line year act);
  appropriated = pos (added_by line year act) -ℤ pos (removed_by line year act);
  held = pos 0;
  encumbered = pos 0;
  expended = pos 0;
}

pub make_to : (plan : Plan) (m n : ℕ → ℕ → Row) (changes : List LineChange) → ((line year : ℕ) → m line year ≡ n line year) → Make plan m changes → Make plan n changes
make_to plan m n changes same make = record { apart = make.apart; inside = make.inside; made = λ line year. make.made line year ∙ same line year }

pub less_none : (n : ℕ) → pos n -ℤ pos 0 ≡ pos n
less_none n = omega (arith, ints)

two : (a b : ℕ) → pos a +ℤ pos b ≡ pos (a + b)
two a b = omega (arith, ints)

same : (n : ℕ) → (n == n) ≡ true
same n = grind (arith, common_steps)

and_true : (b : Bool) → (b && true) ≡ b
and_true true = refl
and_true false = refl

and_false : (b : Bool) → (b && false) ≡ false
and_false true = refl
and_false false = refl

-- ---- adoptions

rows_any : (year : ℕ) (r : LineAmount) (rows : List LineAmount) → list_any (same_place (change_of r.line year (adopt_row r.amount))) (adoption_changes year rows) ≡ list_any (same_line r) rows
rows_any year r [] = refl
rows_any year r (x ∷ rows) = λ i. (ap (λ b. (r.line == x.line) && b) (same year) ∙ and_true (r.line == x.line)) i || rows_any year r rows i

rows_apart : (year : ℕ) (rows : List LineAmount) → is_distinct same_place (adoption_changes year rows) ≡ is_distinct same_line rows
rows_apart year [] = refl
rows_apart year (r ∷ rows) = λ i. not (rows_any year r rows i) && rows_apart year rows i

no_less : (n : ℕ) → n ≡ 0 + n
no_less n = omega arith

plus_adopt : (b : Bool) (a n : ℕ) → row_plus (if b then adopt_row a else zero_row) (adopt_row n) ≡ adopt_row ((if b then a else 0) + n)
plus_adopt true a n = λ i. record zero_row { original = two a n i; appropriated = two a n i }
plus_adopt false a n = zero_plus (adopt_row n) ∙ ap adopt_row (no_less n)

rows_made : (year : ℕ) (rows : List LineAmount) (line z : ℕ) → changes_at (adoption_changes year rows) line z ≡ adopt_row (if year == z then amount_for line rows else 0)
rows_made year rows line z = by_year (year == z) refl rows
  where
    by_year : (b : Bool) → (year == z) ≡ b → (rows : List LineAmount) → changes_at (adoption_changes year rows) line z ≡ adopt_row (if b then amount_for line rows else 0)
    by_year true e [] = refl
    by_year false e [] = refl
    by_year true e (r ∷ rows) =
        (λ i. row_plus (if (ap (λ b. (r.line == line) && b) e ∙ and_true (r.line == line)) i then adopt_row r.amount else zero_row) (by_year true e rows i))
        ∙ plus_adopt (r.line == line) r.amount (amount_for line rows)
        ∙ ap adopt_row (sym (sum_by-cons (λ (r : LineAmount). if r.line == line then r.amount else 0) r rows))
    by_year false e (r ∷ rows) =
        (λ i. row_plus (if (ap (λ b. (r.line == line) && b) e ∙ and_false (r.line == line)) i then adopt_row r.amount else zero_row) (by_year false e rows i))
        ∙ zero_plus (adopt_row 0)

is_there : (plan : Plan) (s : Documents) (fund year line : ℕ) → unknown plan s (line_name fund year line) ≡ None → line < length plan.lines
is_there plan s fund year line e = by_line (line_at plan line) refl (not_false (is_line_of plan fund year (line_at plan line)) (refuse_none _ (refusal.UnknownName kind.Line line) e))
  where
    not_false : (b : Bool) → not b ≡ false → b ≡ true
    not_false true e = refl
    not_false false e = cc

    by_line : (l : Option Line) → line_at plan line ≡ l → is_line_of plan fund year l ≡ true → line < length plan.lines
    by_line None e t = cc
    by_line (Some l) e t = slice_get_within plan.lines line l e

below : (m n : ℕ) → m < n → nat_lt m n ≡ true
below m n l = grind (arith, common_steps)

pub inside_at : (plan : Plan) (line year : ℕ) → line < length plan.lines → year < 2201 → is_inside plan line year ≡ true
inside_at plan line year l y = λ i. below line (length plan.lines) l i && below year 2201 y i

rows_inside : (plan : Plan) (s : Documents) (fund year : ℕ) (rows : List LineAmount) (rest : List Name) → year < 2201 → first_refusal (unknown plan s) (map (λ r. line_name fund year r.line) rows ++ rest) ≡ None →
    list_all (λ c. is_inside plan c.line.number c.year) (adoption_changes year rows) ≡ true
rows_inside plan s fund year [] rest y e = refl
rows_inside plan s fund year (r ∷ rows) rest y e =
    let both = or_else_none (unknown plan s (line_name fund year r.line)) (first_refusal (unknown plan s) (map (λ r. line_name fund year r.line) rows ++ rest)) e in
    λ i. inside_at plan r.line year (is_there plan s fund year r.line both.0) y i && rows_inside plan s fund year rows rest y both.1 i

adopt_is : (act : Act) (a : Adoption) → adoption_of act ≡ Some a → act ≡ Adopt a
adopt_is (Adopt b) a e = cc
adopt_is _ a e = cc

amend_is : (act : Act) (a : Amendment) → amendment_of act ≡ Some a → act ≡ Amend a
amend_is (Amend b) a e = cc
amend_is _ a e = cc

transfer_is : (act : Act) (t : LineTransfer) → transfer_of act ≡ Some t → act ≡ Transfer t
transfer_is (Transfer u) t e = cc
transfer_is _ t e = cc

-- the year of an amendment, and of a transfer
pub amended_year : (on : Day) (act : Act) (a : Amendment) → amendment_of act ≡ Some a → IsActInForm on act → a.year < 2201
amended_year on act a is form =
    let f : IsActInForm on (Amend a) = subst (λ (x : Act). IsActInForm on x) (amend_is act a is) form in
    omega (arith, f.0.to)

pub transferred_year : (on : Day) (act : Act) (t : LineTransfer) → transfer_of act ≡ Some t → IsActInForm on act → t.year < 2201
transferred_year on act t is form =
    let f : IsActInForm on (Transfer t) = subst (λ (x : Act). IsActInForm on x) (transfer_is act t is) form in
    omega (arith, f.0.to)

adopt_make : (plan : Plan) (s : Documents) (on : Day) (a : Adoption) → IsAdoptionForm a → name_refusal plan s on (Adopt a) ≡ None → Make plan (council_moves (Adopt a)) (adoption_changes a.year a.lines)
adopt_make plan s on a form names = record {
  apart = rows_apart a.year a.lines ∙ form.lines;
  inside = rows_inside plan s a.fund a.year a.lines _ (omega (arith, form.year.to)) (or_else_none (unknown plan s (fund_name a.fund)) _ names).1;
  made = λ line year.
      let n : ℕ = if a.year == year then amount_for line a.lines else 0 in
      rows_made a.year a.lines line year
      ∙ (λ i. record { original = pos n; appropriated = sym (less_none n) i; held = pos 0; encumbered = pos 0; expended = pos 0 });
}

pub adoption_make : (plan : Plan) (s : Registers) (on : Day) (act : Act) (a : Adoption) → adoption_of act ≡ Some a → IsActInForm on act → name_refusal plan s.documents on act ≡ None →
    Make plan (plainly_moved plan s on act) (adoption_changes a.year a.lines)
adoption_make plan s on act a is form names =
    let here = adopt_is act a is in
    subst (λ (x : Act). Make plan (plainly_moved plan s on x) (adoption_changes a.year a.lines)) (sym here)
    (adopt_make plan s.documents on a (subst (λ (x : Act). IsActInForm on x) here form) (subst (λ (x : Act). name_refusal plan s.documents on x ≡ None) here names))

-- ---- amendments and transfers

by_parts : (by : ℤ) → by ≡ pos (rise_of by) -ℤ pos (fall_of by)
by_parts (pos n) = omega (arith, ints)
by_parts (negsuc n) = omega (arith, ints)

pub amendment_make : (plan : Plan) (s : Registers) (on : Day) (act : Act) (a : Amendment) → amendment_of act ≡ Some a → IsActInForm on act → name_refusal plan s.documents on act ≡ None →
    Make plan (plainly_moved plan s on act) (amendment_changes a)
amendment_make plan s on act a is form names =
    let here = amend_is act a is in
    let f : IsActInForm on (Amend a) = subst (λ (x : Act). IsActInForm on x) here form in
    subst (λ (x : Act). Make plan (plainly_moved plan s on x) (amendment_changes a)) (sym here)
    (record {
      apart = refl;
      inside = λ i. inside_at plan a.line a.year (amended_line plan s.documents on act a is names) (omega (arith, f.0.to)) i && true;
      made = λ line year. plus_zero _ ∙ by_test ((a.line == line) && (a.year == year));
    })
  where
    by_test : (b : Bool) → (if b then amend_row a.by else zero_row)
        ≡ (let r : Row = record { original = pos 0; appropriated = pos (if b then rise_of a.by else 0) -ℤ pos (if b then fall_of a.by else 0); held = pos 0; encumbered = pos 0; expended = pos 0 } in r)
    by_test true = λ i. record { original = pos 0; appropriated = by_parts a.by i; held = pos 0; encumbered = pos 0; expended = pos 0 }
    by_test false = λ i. record { original = pos 0; appropriated = sym (less_none 0) i; held = pos 0; encumbered = pos 0; expended = pos 0 }

other : (m n : ℕ) (b : Bool) → m ≢ n → ((m == n) && b) ≡ false
other m n b d = grind (arith, common_steps)

pub transfer_make : (plan : Plan) (s : Registers) (on : Day) (act : Act) (t : LineTransfer) → transfer_of act ≡ Some t → IsActInForm on act → name_refusal plan s.documents on act ≡ None →
    Make plan (plainly_moved plan s on act) (transfer_changes t)
transfer_make plan s on act t is form names =
    let here = transfer_is act t is in
    let f : IsYear t.year × (t.from ≢ t.to) = subst (λ (x : Act). IsActInForm on x) here form in
    let named : name_refusal plan s.documents on (Transfer t) ≡ None = subst (λ (x : Act). name_refusal plan s.documents on x ≡ None) here names in
    let fund = or_else_none (unknown plan s.documents (fund_name t.fund)) (or_else (unknown plan s.documents (line_name t.fund t.year t.from)) (or_else (unknown plan s.documents (line_name t.fund t.year t.to)) None)) named in
    let from = or_else_none (unknown plan s.documents (line_name t.fund t.year t.from)) (or_else (unknown plan s.documents (line_name t.fund t.year t.to)) None) fund.1 in
    let to = or_else_none (unknown plan s.documents (line_name t.fund t.year t.to)) None from.1 in
    let y : t.year < 2201 = omega (arith, f.0.to) in
    let apart : t.to ≢ t.from = λ e. f.1 (sym e) in
    subst (λ (x : Act). Make plan (plainly_moved plan s on x) (transfer_changes t)) (sym here)
    (record {
      apart = rw (other t.to t.from (t.year == t.year) apart) refl;
      inside = λ i. inside_at plan t.to t.year (is_there plan s.documents t.fund t.year t.to to.0) y i && (inside_at plan t.from t.year (is_there plan s.documents t.fund t.year t.from from.0) y i && true);
      made = λ line year. by_test ((t.to == line) && (t.year == year)) ((t.from == line) && (t.year == year));
    })
  where
    goes : (n : ℕ) → (pos 0 +ℤ ((pos 0 -ℤ pos n) +ℤ pos 0)) ≡ pos 0 -ℤ pos n
    goes n = omega (arith, ints)

    comes : (n : ℕ) → pos n +ℤ (pos 0 +ℤ pos 0) ≡ pos n -ℤ pos 0
    comes n = omega (arith, ints)

    meets : (n : ℕ) → pos n +ℤ ((pos 0 -ℤ pos n) +ℤ pos 0) ≡ pos n -ℤ pos n
    meets n = omega (arith, ints)

    by_test : (a b : Bool) → row_plus (if a then amend_row (pos t.amount) else zero_row) (row_plus (if b then amend_row (pos 0 -ℤ pos t.amount) else zero_row) zero_row)
        ≡ (let r : Row = record { original = pos 0; appropriated = pos (if a then t.amount else 0) -ℤ pos (if b then t.amount else 0); held = pos 0; encumbered = pos 0; expended = pos 0 } in r)
    by_test true true = λ i. record { original = pos 0; appropriated = meets t.amount i; held = pos 0; encumbered = pos 0; expended = pos 0 }
    by_test true false = λ i. record { original = pos 0; appropriated = comes t.amount i; held = pos 0; encumbered = pos 0; expended = pos 0 }
    by_test false true = λ i. record { original = pos 0; appropriated = goes t.amount i; held = pos 0; encumbered = pos 0; expended = pos 0 }
    by_test false false = λ i. record { original = pos 0; appropriated = pos 0; held = pos 0; encumbered = pos 0; expended = pos 0 }

-- ---- the other changes

pub moves_are : (plan : Plan) (s : Registers) (on : Day) (act : Act) → adoption_of act ≡ None → amendment_of act ≡ None → transfer_of act ≡ None → (line year : ℕ) →
    moves_row plan (act_moves plan s on act) line year ≡ plainly_moved plan s on act line year
moves_are plan s on (Adopt a) p q r line year = cc
moves_are plan s on (Amend a) p q r line year = cc
moves_are plan s on (Transfer t) p q r line year = cc
moves_are plan s on _ p q r line year = refl
