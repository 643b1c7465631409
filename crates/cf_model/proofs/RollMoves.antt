-- What the roll of a fiscal year makes of a line's numbers: nothing of the year stays held or
-- encumbered, and in the year after its line, which may be of another level, is encumbered by what
-- is carried onto it, with as much appropriation.
use Rattle.std.proofs.Common.{◌≡◌, ℕ, ◌+◌, ◌<◌, ◌≤◌, Bool, true, false, not, if◌then◌else◌, ◌==◌, ◌&&◌, List, [], ◌∷◌, ◌++◌, length, map, Option, Some, None, ℤ, pos, ◌+ℤ◌, ◌-ℤ◌, ◌-◌, refl, sym, ap, ◌∙◌, arith, filter, position}
use Rattle.cf_base.proofs.Common.{common_steps, position-Some, ints, sum_by-cons}
use Rattle.cf_calls.specs.declared.acts.Act.{Act}
use Rattle.cf_calls.specs.declared.items.AccountItem.{AccountItem}
use Rattle.cf_chart.specs.declared.rows.Line.{Line}
use Rattle.cf_chart.specs.declared.rows.LinePart.TheVariants as line_part
use Rattle.cf_chart.specs.declared.rows.Object.{Object}
use Rattle.cf_chart.specs.Common.{Plan, covers, is_later, line_for, object_at}
use Rattle.cf_model.specs.Common.{is_year, rolled_year, rolls, Hold, carried_sum, counts, encumbered_sum, held_amount, held_sum, is_line, is_on, Move, carried_to, goes_on, lapses_of, moved_sum, release_move, roll_moves, OrderItem, Carried, carried_of, is_live, lapses, liquidated_sum, open_of}
use Rattle.cf_model.proofs.Moved.{moved_append}

-- ---- one item

same_eq : (a b c : ℕ) → (a == b) ≡ true → (a == c) ≡ (c == b)
same_eq a b c e = grind (arith, common_steps)

next_eq : (a b c : ℕ) → (a == b) ≡ true → (a + 1 == c) ≡ (c == b + 1)
next_eq a b c e = grind (arith, common_steps)

not_live : (i : OrderItem) → is_live i ≡ false → open_of i ≡ 0
not_live i e = ap (λ (b : Bool). if b then i.base - liquidated_sum i.taken else 0) e

-- what the roll of a year makes of an amount that is encumbered in it, and of one that is carried
-- into the year after
abbrev pub encumbers_to : Bool → ℕ → ℕ → ℤ
encumbers_to at_year gone came = pos came -ℤ pos (if at_year then gone else 0)

-- ---- the line of an account

number_is : (m n : ℕ) → (m == n) ≡ true → m ≡ n
number_is m n e = grind (arith, common_steps)

on_line : (plan : Plan) (line year : ℕ) (a : AccountItem) → is_on plan line year a ≡ true → line < length plan.lines
on_line plan line year a on = by_object (object_at plan a.object) on
  where
    by_number : (o : Object) (p : Option ℕ) → position (covers a.fund a.dept (is_later plan a.fund year) o) plan.lines ≡ p → is_line line p ≡ true → line < length plan.lines
    by_number o None e t = cc
    by_number o (Some n) e t =
        let same : n ≡ line = number_is n line t in
        let d : Line = record { fund = 0; dept = 0; part = line_part.Department; later = false } in
        (position-Some (covers a.fund a.dept (is_later plan a.fund year) o) plan.lines line d (e ∙ ap Some same)).0

    by_object : (o : Option Object) → is_line line (line_for a.fund a.dept (is_later plan a.fund year) plan.lines o) ≡ true → line < length plan.lines
    by_object None t = cc
    by_object (Some o) t = by_number o (position (covers a.fund a.dept (is_later plan a.fund year) o) plan.lines) refl t

module _ (plan : Plan) (act : Act) (year line z : ℕ) (is : rolled_year plan act ≡ Some year) where
  rolls_is : (y : ℕ) → rolls plan y act ≡ (y == year)
  rolls_is y = ap (is_year y) is

  abbrev encumbers : Move → ℤ
  encumbers m = m.encumbered

  abbrev fall : OrderItem → Move
  fall i = record { account = i.account; year = i.year; held = pos 0; encumbered = pos 0 -ℤ pos (open_of i); expended = pos 0 }

  abbrev rise : OrderItem → Move
  rise i = record { account = i.account; year = i.year + 1; held = pos 0; encumbered = pos (open_of i); expended = pos 0 }

  abbrev carry : OrderItem → Carried
  carry i = record { account = i.account; year = i.year + 1; amount = open_of i }

  abbrev at : ℕ → AccountItem → ℤ → ℤ
  at y a n = if counts plan line z a y then n else pos 0

  -- what an item has encumbered of the line in the year
  abbrev out : OrderItem → ℕ
  out i = if counts plan line year i.account i.year then open_of i else 0

  -- what leaves the year of the look
  took : (i : OrderItem) → (if (i.year == year) && is_live i then (if counts plan line z i.account i.year then open_of i else 0) else 0) ≡ (if z == year then out i else 0)
  took i = by_tests (i.year == year) (is_live i) (i.year == z) (is_on plan line i.year i.account) (z == year) (open_of i) (same_eq i.year year z) (not_live i)
    where
      by_tests : (b live c on e : Bool) (n : ℕ) → (b ≡ true → c ≡ e) → (live ≡ false → n ≡ 0) → (if b && live then (if c && on then n else 0) else 0) ≡ (if e then (if b && on then n else 0) else 0)
      by_tests true true c on e n same idle = ap (λ t. if t && on then n else 0) (same refl) ∙ pick e
        where
          pick : (e : Bool) → (if e && on then n else 0) ≡ (if e then (if on then n else 0) else 0)
          pick true = refl
          pick false = refl
      by_tests true false c on e n same idle = sym (nothing e on n (idle refl))
        where
          nothing : (e on : Bool) (n : ℕ) → n ≡ 0 → (if e then (if on then n else 0) else 0) ≡ 0
          nothing true true n z = z
          nothing true false n z = refl
          nothing false on n z = refl
      by_tests false live c on true n same idle = refl
      by_tests false live c on false n same idle = refl

  abbrev comes : OrderItem → ℕ
  comes i = if (i.year == year) && is_live i && not (lapses plan i) then (if counts plan line z i.account (i.year + 1) then open_of i else 0) else 0

  -- what comes to the year of the look
  came : (i : OrderItem) → comes i ≡ (if z == year + 1 then (if goes_on plan line year i then open_of i else 0) else 0)
  came i = by_tests (i.year == year) (is_live i) (lapses plan i) (i.year + 1 == z) (is_on plan line (i.year + 1) i.account) (z == year + 1) (open_of i) (next_eq i.year year z)
    where
      by_tests : (b live l c on e : Bool) (n : ℕ) → (b ≡ true → c ≡ e) → (if b && live && not l then (if c && on then n else 0) else 0) ≡ (if e then (if b && live && not l && on then n else 0) else 0)
      by_tests true true true c on true n same = refl
      by_tests true true true c on false n same = refl
      by_tests true true false c on e n same = ap (λ t. if t && on then n else 0) (same refl) ∙ pick e
        where
          pick : (e : Bool) → (if e && on then n else 0) ≡ (if e then (if on then n else 0) else 0)
          pick true = refl
          pick false = refl
      by_tests true false l c on true n same = refl
      by_tests true false l c on false n same = refl
      by_tests false live l c on true n same = refl
      by_tests false live l c on false n same = refl

  carried_shape : (i : OrderItem) (rest : List Carried) (b : Bool) → carried_sum plan line z ((if b then carry i ∷ [] else []) ++ rest) ≡ (if b then (if counts plan line z i.account (i.year + 1) then open_of i else 0) else 0) + carried_sum plan line z rest
  carried_shape i rest true = sum_by-cons (λ (c : Carried). if counts plan line z c.account c.year then c.amount else 0) (carry i) rest
  carried_shape i rest false = no_more (carried_sum plan line z rest)
    where
      no_more : (n : ℕ) → n ≡ 0 + n
      no_more n = omega arith

  carried_item : (i : OrderItem) (items : List OrderItem) → carried_sum plan line z (carried_of plan act (i ∷ items)) ≡ comes i + carried_sum plan line z (carried_of plan act items)
  carried_item i items =
      carried_shape i (carried_of plan act items) (rolls plan i.year act && is_live i && not (lapses plan i))
      ∙ ap (λ (b : Bool). (if b && is_live i && not (lapses plan i) then (if counts plan line z i.account (i.year + 1) then open_of i else 0) else 0) + carried_sum plan line z (carried_of plan act items)) (rolls_is i.year)

  -- what is carried into it
  pub roll_carries : (items : List OrderItem) → carried_sum plan line z (carried_of plan act items) ≡ (if z == year + 1 then carried_to plan line year items else 0)
  roll_carries [] = nothing (z == year + 1)
    where
      nothing : (b : Bool) → ◌≡◌ {A = ℕ} 0 (if b then 0 else 0)
      nothing true = refl
      nothing false = refl
  roll_carries (i ∷ items) =
      carried_item i items
      ∙ (λ k. came i k + roll_carries items k)
      ∙ together (z == year + 1) (if goes_on plan line year i then open_of i else 0) (carried_to plan line year items)
      ∙ ap (λ (n : ℕ). if z == year + 1 then n else 0) (sym (sum_by-cons (λ (x : OrderItem). if goes_on plan line year x then open_of x else 0) i items))
    where
      together : (b : Bool) (m n : ℕ) → (if b then m else 0) + (if b then n else 0) ≡ (if b then m + n else 0)
      together true m n = refl
      together false m n = refl

  shaped : (i : OrderItem) (b l : Bool) → moved_sum encumbers plan line z (if b then fall i ∷ (if l then [] else rise i ∷ []) else [])
      ≡ (if b then at i.year i.account (pos 0 -ℤ pos (open_of i)) +ℤ (if l then pos 0 else at (i.year + 1) i.account (pos (open_of i)) +ℤ pos 0) else pos 0)
  shaped i true true = refl
  shaped i true false = refl
  shaped i false l = refl

  item_part : (i : OrderItem) → moved_sum encumbers plan line z (if rolls plan i.year act && is_live i then fall i ∷ (if lapses plan i then [] else rise i ∷ []) else [])
      ≡ pos (comes i) -ℤ pos (if z == year then out i else 0)
  item_part i =
      shaped i (rolls plan i.year act && is_live i) (lapses plan i)
      ∙ ap (λ (b : Bool). if b && is_live i then at i.year i.account (pos 0 -ℤ pos (open_of i)) +ℤ (if lapses plan i then pos 0 else at (i.year + 1) i.account (pos (open_of i)) +ℤ pos 0) else pos 0) (rolls_is i.year)
      ∙ parts ((i.year == year) && is_live i) (lapses plan i) (counts plan line z i.account i.year) (counts plan line z i.account (i.year + 1)) (open_of i)
      ∙ ap (λ (n : ℕ). pos (comes i) -ℤ pos n) (took i)
    where
      parts : (b l c d : Bool) (n : ℕ) → (if b then (if c then pos 0 -ℤ pos n else pos 0) +ℤ (if l then pos 0 else (if d then pos n else pos 0) +ℤ pos 0) else pos 0)
          ≡ pos (if b && not l then (if d then n else 0) else 0) -ℤ pos (if b then (if c then n else 0) else 0)
      parts true true true d n = omega (arith, ints)
      parts true true false d n = omega (arith, ints)
      parts true false true true n = omega (arith, ints)
      parts true false true false n = omega (arith, ints)
      parts true false false true n = omega (arith, ints)
      parts true false false false n = omega (arith, ints)
      parts false l c d n = omega (arith, ints)

  -- what leaves the year's encumbrances, and what comes to those of the year after
  pub roll_encumbers : (items : List OrderItem) → moved_sum encumbers plan line z (roll_moves plan act items) ≡ encumbers_to (z == year) (encumbered_sum plan line year items) (if z == year + 1 then carried_to plan line year items else 0)
  roll_encumbers items = all items ∙ ap (λ (n : ℕ). encumbers_to (z == year) (encumbered_sum plan line year items) n) (roll_carries items)
    where
      together : (b : Bool) (m n p q : ℕ) → (pos m -ℤ pos (if b then p else 0)) +ℤ (pos n -ℤ pos (if b then q else 0)) ≡ pos (m + n) -ℤ pos (if b then p + q else 0)
      together true m n p q = omega (arith, ints)
      together false m n p q = omega (arith, ints)

      all : (items : List OrderItem) → moved_sum encumbers plan line z (roll_moves plan act items) ≡ encumbers_to (z == year) (encumbered_sum plan line year items) (carried_sum plan line z (carried_of plan act items))
      all [] = nothing (z == year)
        where
          nothing : (b : Bool) → pos 0 ≡ pos 0 -ℤ pos (if b then 0 else 0)
          nothing true = omega (arith, ints)
          nothing false = omega (arith, ints)
      all (i ∷ items) =
          moved_append encumbers plan line z (if rolls plan i.year act && is_live i then fall i ∷ (if lapses plan i then [] else rise i ∷ []) else []) (roll_moves plan act items)
          ∙ (λ k. item_part i k +ℤ all items k)
          ∙ together (z == year) (comes i) (carried_sum plan line z (carried_of plan act items)) (out i) (encumbered_sum plan line year items)
          ∙ (λ k. encumbers_to (z == year) (sym (sum_by-cons (λ (x : OrderItem). if counts plan line year x.account x.year then open_of x else 0) i items) k) (sym (carried_item i items) k))

  abbrev holds : Move → ℤ
  holds m = m.held

  release_part : (fy fz tz on : Bool) (n m : ℕ) (rest : ℤ) → (fy ≡ true → fz ≡ tz) → rest ≡ (if tz then pos 0 -ℤ pos m else pos 0) →
      (if fy then (if fz && on then pos 0 -ℤ pos n else pos 0) +ℤ rest else rest) ≡ (if tz then pos 0 -ℤ pos ((if fy && on then n else 0) + m) else pos 0)
  release_part false fz true on n m rest y e = omega (arith, ints, e)
  release_part false fz false on n m rest y e = e
  release_part true fz true true n m rest y e = rw (y refl) (omega (arith, ints, e))
  release_part true fz true false n m rest y e = rw (y refl) (omega (arith, ints, e))
  release_part true fz false on n m rest y e = rw (y refl) (omega (arith, ints, e))

  filtered : (h : Hold) (rest : List Hold) (b : Bool) → moved_sum holds plan line z (map release_move (if b then h ∷ rest else rest))
      ≡ (if b then at h.year h.account (pos 0 -ℤ pos (held_amount h.state h.account.amount)) +ℤ moved_sum holds plan line z (map release_move rest) else moved_sum holds plan line z (map release_move rest))
  filtered h rest true = refl
  filtered h rest false = refl

  -- what is released
  pub roll_releases : (hs : List Hold) → moved_sum holds plan line z (lapses_of plan act hs) ≡ (if z == year then pos 0 -ℤ pos (held_sum plan line year hs) else pos 0)
  roll_releases [] = nothing (z == year)
    where
      nothing : (b : Bool) → pos 0 ≡ (if b then pos 0 -ℤ pos 0 else pos 0)
      nothing true = omega (arith, ints)
      nothing false = refl
  roll_releases (h ∷ hs) =
      filtered h (filter (λ x. rolls plan x.year act) hs) (rolls plan h.year act)
      ∙ ap (λ (b : Bool). if b then at h.year h.account (pos 0 -ℤ pos (held_amount h.state h.account.amount)) +ℤ moved_sum holds plan line z (lapses_of plan act hs) else moved_sum holds plan line z (lapses_of plan act hs)) (rolls_is h.year)
      ∙ release_part (h.year == year) (h.year == z) (z == year) (is_on plan line h.year h.account) (held_amount h.state h.account.amount) (held_sum plan line year hs) (moved_sum holds plan line z (lapses_of plan act hs)) (same_eq h.year year z) (roll_releases hs)
      ∙ ap (λ (n : ℕ). if z == year then pos 0 -ℤ pos n else pos 0) (sym (sum_by-cons (λ (x : Hold). if counts plan line year x.account x.year then held_amount x.state x.account.amount else 0) h hs))

-- a line that isn't there has nothing
pub none_encumbered : (plan : Plan) (line year : ℕ) → length plan.lines ≤ line → (items : List OrderItem) → encumbered_sum plan line year items ≡ 0
none_encumbered plan line year l [] = refl
none_encumbered plan line year l (i ∷ items) =
    sum_by-cons (λ (x : OrderItem). if counts plan line year x.account x.year then open_of x else 0) i items ∙ by_test (i.year == year) (is_on plan line i.year i.account) refl (none_encumbered plan line year l items)
  where
    by_test : (b on : Bool) → is_on plan line i.year i.account ≡ on → encumbered_sum plan line year items ≡ 0 → (if b && on then open_of i else 0) + encumbered_sum plan line year items ≡ 0
    by_test b true e rest = absurd (omega (arith, on_line plan line i.year i.account e, l))
    by_test true false e rest = omega (arith, rest)
    by_test false false e rest = omega (arith, rest)

pub none_held : (plan : Plan) (line year : ℕ) → length plan.lines ≤ line → (hs : List Hold) → held_sum plan line year hs ≡ 0
none_held plan line year l [] = refl
none_held plan line year l (h ∷ hs) =
    sum_by-cons (λ (x : Hold). if counts plan line year x.account x.year then held_amount x.state x.account.amount else 0) h hs ∙ by_test (h.year == year) (is_on plan line h.year h.account) refl (none_held plan line year l hs)
  where
    by_test : (b on : Bool) → is_on plan line h.year h.account ≡ on → held_sum plan line year hs ≡ 0 → (if b && on then held_amount h.state h.account.amount else 0) + held_sum plan line year hs ≡ 0
    by_test b true e rest = absurd (omega (arith, on_line plan line h.year h.account e, l))
    by_test true false e rest = omega (arith, rest)
    by_test false false e rest = omega (arith, rest)

pub none_carried : (plan : Plan) (line year : ℕ) → length plan.lines ≤ line → (items : List OrderItem) → carried_to plan line year items ≡ 0
none_carried plan line year l [] = refl
none_carried plan line year l (i ∷ items) =
    sum_by-cons (λ (x : OrderItem). if goes_on plan line year x then open_of x else 0) i items
    ∙ by_test ((i.year == year) && is_live i && not (lapses plan i)) (is_on plan line (i.year + 1) i.account) refl (none_carried plan line year l items)
  where
    by_test : (b on : Bool) → is_on plan line (i.year + 1) i.account ≡ on → carried_to plan line year items ≡ 0 → (if b && on then open_of i else 0) + carried_to plan line year items ≡ 0
    by_test b true e rest = absurd (omega (arith, on_line plan line (i.year + 1) i.account e, l))
    by_test true false e rest = omega (arith, rest)
    by_test false false e rest = omega (arith, rest)
