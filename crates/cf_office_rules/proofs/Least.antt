-- The least line that is overspent, and its least year, found among the places of merged changes.
use Rattle.std.proofs.Common.{◌≡◌, ◌⊎◌, inl, inr, ℕ, ◌+◌, ◌<◌, ◌≤◌, Bool, true, false, if◌then◌else◌, ◌==◌, ◌&&◌, ◌||◌, nat_lt, List, [], ◌∷◌, length, Option, Some, None, ℤ, pos, ◌+ℤ◌, refl, sym, subst, arith, ◌∙◌, ap, drop, get_or, add-one, drop-cons}
use Rattle.cf_base.proofs.Common.{AllByRecursion, drop_all, common_steps, ints, recursion_from_All, AllPass-from_list_all}
use Rattle.cf_model.specs.Common.{Refusal, counts, Move, asks_of_moves, first_below}
use Rattle.cf_chart.specs.Common.{Plan}
use Rattle.cf_budget.specs.declared.changes.LineChange.{LineChange}
use Rattle.cf_budget.specs.Changes.{changes_at}
use Rattle.cf_budget.specs.Tables.{row_plus, zero_row}
use Rattle.cf_budget.proofs.Applies.{both, number}
use Rattle.cf_budget.proofs.Merges.{only_at}
use Rattle.cf_calls.specs.Common.{overspends}
use Rattle.cf_model.proofs.Common.{first_below_found, none_below}
use Rattle.cf_office_rules.specs.declared.exceeds.Excess.{Excess}
use Rattle.cf_office_rules.specs.Least.{is_before, lesser, least_from, excess_of, excess_by, refusal_in}
use Rattle.cf_registers.specs.Moved.{asks_of, is_inside, moves_row, Make}

pub least_from-drop : (f : LineChange → Option Excess) (best : Option Excess) (changes : List LineChange) (i : ℕ) (d : LineChange) → i < length changes →
    least_from f best (drop i changes) ≡ least_from f (lesser best (f (get_or changes i d))) (drop (i + 1) changes)
least_from-drop f best changes i d l = rw (add-one, drop-cons changes i d l) refl

pub least_from-past : (f : LineChange → Option Excess) (best : Option Excess) (changes : List LineChange) (i : ℕ) → length changes ≤ i → least_from f best (drop i changes) ≡ best
least_from-past f best changes i l = rw (drop_all i changes l) refl

-- a place before that of an excess: a lower line, or an earlier year of its line
abbrev Before : ℕ → ℕ → Excess → Type 0
Before line year x = (line < x.line) ⊎ ((line ≡ x.line) × (year < x.year))

-- the best of the places seen so far: it is refused, and none of them before it is
pub record IsBest (g : ℕ → ℕ → Option Refusal) (n m : ℕ) (seen : ℕ → ℕ → Type 0) (best : Option Excess) : Type 0 where
  pub none : best ≡ None → (k z : ℕ) → seen k z → g k z ≡ None
  pub found : (x : Excess) → best ≡ Some x → g x.line x.year ≡ Some x.refusal
  pub line : (x : Excess) → best ≡ Some x → x.line < n
  pub year : (x : Excess) → best ≡ Some x → x.year < m
  pub least : (x : Excess) → best ≡ Some x → (k z : ℕ) → seen k z → Before k z x → g k z ≡ None

-- the places seen, and one more
abbrev More : (ℕ → ℕ → Type 0) → ℕ → ℕ → ℕ → ℕ → Type 0
More seen line year k z = seen k z ⊎ ((line ≡ k) × (year ≡ z))

some_is : {A : Type 0} (a b : A) → (let x : Option A = Some a in x) ≡ Some b → a ≡ b
some_is a b e = cc

-- a place that isn't refused changes nothing
kept : (g : ℕ → ℕ → Option Refusal) (n m : ℕ) (seen : ℕ → ℕ → Type 0) (best : Option Excess) (line year : ℕ) → g line year ≡ None →
    IsBest g n m seen best → IsBest g n m (More seen line year) best
kept g n m seen best line year quiet b = record {
  none = λ e k z s. elim s [ inl old ↦ b.none e k z old | inr new ↦ (λ i. g (sym new.0 i) (sym new.1 i)) ∙ quiet ];
  found = b.found;
  line = b.line;
  year = b.year;
  least = λ x e k z s l. elim s [ inl old ↦ b.least x e k z old l | inr new ↦ (λ i. g (sym new.0 i) (sym new.1 i)) ∙ quiet ];
}

lesser_none : (best : Option Excess) → lesser best None ≡ best
lesser_none None = refl
lesser_none (Some x) = refl

-- no place is before itself
irreflexive : (k z l y : ℕ) (x : Excess) → l ≡ k → y ≡ z → l ≡ x.line → y ≡ x.year → Before k z x → ⊥
irreflexive k z l y x a b c d before = elim before [ inl lower ↦ absurd (omega (arith, a, b, c, d, lower)) | inr same ↦ absurd (omega (arith, a, b, c, d, same.1)) ]

first_found : (g : ℕ → ℕ → Option Refusal) (n m : ℕ) (seen : ℕ → ℕ → Type 0) (line year : ℕ) (r : Refusal) → g line year ≡ Some r → line < n → year < m →
    IsBest g n m seen None → IsBest g n m (More seen line year) (Some (record { line = line; year = year; refusal = r }))
first_found g n m seen line year r is l y b =
    let new : Excess = record { line = line; year = year; refusal = r } in
    record {
      none = λ e. cc;
      found = λ x e. subst (λ (w : Excess). g w.line w.year ≡ Some w.refusal) (some_is new x e) is;
      line = λ x e. subst (λ (w : Excess). w.line < n) (some_is new x e) l;
      year = λ x e. subst (λ (w : Excess). w.year < m) (some_is new x e) y;
      least = λ x e k z s before. elim s [
        | inl old ↦ b.none refl k z old
        | inr here ↦ absurd (irreflexive k z line year x here.0 here.1 (ap (λ (w : Excess). w.line) (some_is new x e)) (ap (λ (w : Excess). w.year) (some_is new x e)) before)
      ];
    }

-- what is before one that is before another is before the other
through : (k z : ℕ) (x y : Excess) → is_before x y ≡ true → Before k z x → Before k z y
through k z x y e before = by_test (nat_lt x.line y.line) refl (x.line == y.line) refl (nat_lt x.year y.year) refl e
  where
    lower : (a b : ℕ) → nat_lt a b ≡ true → a < b
    lower a b t = grind (arith, common_steps)

    same : (a b : ℕ) → (a == b) ≡ true → a ≡ b
    same a b t = grind (arith, common_steps)

    by_test : (a : Bool) → nat_lt x.line y.line ≡ a → (b : Bool) → (x.line == y.line) ≡ b → (c : Bool) → nat_lt x.year y.year ≡ c → (a || (b && c)) ≡ true → Before k z y
    by_test true p b q c r t =
        let l = lower x.line y.line p in
        elim before [ inl low ↦ inl (omega (arith, low, l)) | inr here ↦ inl (omega (arith, here.0, l)) ]
    by_test false p true q true r t =
        let l = same x.line y.line q in
        let w = lower x.year y.year r in
        elim before [ inl low ↦ inl (omega (arith, low, l)) | inr here ↦ inr (omega (arith, here.0, l), omega (arith, here.1, w)) ]
    by_test false p true q false r t = cc
    by_test false p false q c r t = cc

-- a place before one that isn't less than another's isn't the other's
not_itself : (k z : ℕ) (x new : Excess) → is_before new x ≡ false → new.line ≡ k → new.year ≡ z → Before k z x → ⊥
not_itself k z x new e a b before = elim before [
  | inl lower ↦ absurd (higher (nat_lt new.line x.line) refl ((new.line == x.line) && nat_lt new.year x.year) e (omega (arith, lower, a)))
  | inr here ↦ absurd (later (nat_lt new.line x.line) (new.line == x.line) refl (nat_lt new.year x.year) refl e (omega (arith, here.0, a)) (omega (arith, here.1, b)))
]
  where
    higher : (p : Bool) → nat_lt new.line x.line ≡ p → (q : Bool) → (p || q) ≡ false → new.line < x.line → ⊥
    higher true t q f l = cc
    higher false t q f l = absurd (not_lower new.line x.line t l)
      where
        not_lower : (m n : ℕ) → nat_lt m n ≡ false → m < n → ⊥
        not_lower m n t l = grind (arith, common_steps)

    later : (p q : Bool) → (new.line == x.line) ≡ q → (r : Bool) → nat_lt new.year x.year ≡ r → (p || (q && r)) ≡ false → new.line ≡ x.line → new.year < x.year → ⊥
    later true q t r u f l y = cc
    later false true t true u f l y = cc
    later false true t false u f l y = absurd (not_lower new.year x.year u y)
      where
        not_lower : (m n : ℕ) → nat_lt m n ≡ false → m < n → ⊥
        not_lower m n t l = grind (arith, common_steps)
    later false false t r u f l y = absurd (not_other new.line x.line t l)
      where
        not_other : (m n : ℕ) → (m == n) ≡ false → m ≡ n → ⊥
        not_other m n t l = grind (arith, common_steps)

-- a place that is refused takes the place of one that is after it
more_found : (g : ℕ → ℕ → Option Refusal) (n m : ℕ) (seen : ℕ → ℕ → Type 0) (old : Excess) (line year : ℕ) (r : Refusal) → g line year ≡ Some r → line < n → year < m →
    IsBest g n m seen (Some old) → IsBest g n m (More seen line year) (if is_before (record { line = line; year = year; refusal = r }) old then Some (record { line = line; year = year; refusal = r }) else Some old)
more_found g n m seen old line year r is l y b = by_test (is_before (record { line = line; year = year; refusal = r }) old) refl
  where
    by_test : (t : Bool) → is_before (record { line = line; year = year; refusal = r }) old ≡ t →
        IsBest g n m (More seen line year) (if t then Some (record { line = line; year = year; refusal = r }) else Some old)
    by_test true lower =
        let new : Excess = record { line = line; year = year; refusal = r } in
        record {
          none = λ e. cc;
          found = λ x e. subst (λ (w : Excess). g w.line w.year ≡ Some w.refusal) (some_is new x e) is;
          line = λ x e. subst (λ (w : Excess). w.line < n) (some_is new x e) l;
          year = λ x e. subst (λ (w : Excess). w.year < m) (some_is new x e) y;
          least = λ x e k z s before. elim s [
            | inl seen_before ↦ b.least old refl k z seen_before (through k z new old lower (subst (λ (w : Excess). Before k z w) (sym (some_is new x e)) before))
            | inr here ↦ absurd (irreflexive k z line year x here.0 here.1 (ap (λ (w : Excess). w.line) (some_is new x e)) (ap (λ (w : Excess). w.year) (some_is new x e)) before)
          ];
        }
    by_test false higher = record {
      none = λ e. cc;
      found = b.found;
      line = b.line;
      year = b.year;
      least = λ x e k z s before. elim s [
        | inl seen_before ↦ b.least x e k z seen_before before
        | inr here ↦ absurd (not_itself k z old (record { line = line; year = year; refusal = r }) higher here.0 here.1 (subst (λ (w : Excess). Before k z w) (sym (some_is old x e)) before))
      ];
    }

-- one place more
best_more : (g : ℕ → ℕ → Option Refusal) (n m : ℕ) (seen : ℕ → ℕ → Type 0) (best : Option Excess) (line year : ℕ) → line < n → year < m →
    IsBest g n m seen best → IsBest g n m (More seen line year) (lesser best (excess_of line year (g line year)))
best_more g n m seen best line year l y b = by_refusal (g line year) refl best b
  where
    by_refusal : (r : Option Refusal) → g line year ≡ r → (best : Option Excess) → IsBest g n m seen best → IsBest g n m (More seen line year) (lesser best (excess_of line year r))
    by_refusal None is best b = subst (λ (x : Option Excess). IsBest g n m (More seen line year) x) (sym (lesser_none best)) (kept g n m seen best line year is b)
    by_refusal (Some r) is None b = first_found g n m seen line year r is l y b
    by_refusal (Some r) is (Some old) b = more_found g n m seen old line year r is l y b

-- the places of these changes, and those seen before
abbrev Seen : List LineChange → (ℕ → ℕ → Type 0) → ℕ → ℕ → Type 0
Seen [] seen = seen
Seen (c ∷ changes) seen = Seen changes (More seen c.line.number c.year)

-- a change of a line and year, which is judged by their test
record IsTested (g : ℕ → ℕ → Option Refusal) (n m : ℕ) (f : LineChange → Option Excess) (c : LineChange) : Type 0 where
  line : c.line.number < n
  year : c.year < m
  test : f c ≡ excess_of c.line.number c.year (g c.line.number c.year)

best_of : (g : ℕ → ℕ → Option Refusal) (n m : ℕ) (f : LineChange → Option Excess) (changes : List LineChange) → AllByRecursion (IsTested g n m f) changes →
    (seen : ℕ → ℕ → Type 0) (best : Option Excess) → IsBest g n m seen best → IsBest g n m (Seen changes seen) (least_from f best changes)
best_of g n m f [] tested seen best b = b
best_of g n m f (c ∷ changes) tested seen best b =
    best_of g n m f changes tested.1 (More seen c.line.number c.year) (lesser best (f c))
    (subst (λ (x : Option Excess). IsBest g n m (More seen c.line.number c.year) (lesser best x)) (sym tested.0.test)
    (best_more g n m seen best c.line.number c.year tested.0.line tested.0.year b))

-- the best is the least, where every place that isn't seen is quiet
best_is : (g : ℕ → ℕ → Option Refusal) (n m : ℕ) (seen : ℕ → ℕ → Type 0) (best : Option Excess) → IsBest g n m seen best → ((k z : ℕ) → seen k z ⊎ (g k z ≡ None)) →
    refusal_in best ≡ first_below (λ k. first_below (g k) m) n
best_is g n m seen None b cover =
    sym (none_below (λ k. first_below (g k) m) n (λ k l. none_below (g k) m (λ z w. elim (cover k z) [ inl here ↦ b.none refl k z here | inr quiet ↦ quiet ])))
best_is g n m seen (Some x) b cover =
    sym (first_below_found (λ k. first_below (g k) m) n x.line x.refusal (b.line x refl)
    (λ k l. none_below (g k) m (λ z w. elim (cover k z) [ inl here ↦ b.least x refl k z here (inl l) | inr quiet ↦ quiet ]))
    (first_below_found (g x.line) m x.year x.refusal (b.year x refl) (λ z w. elim (cover x.line z) [ inl here ↦ b.least x refl x.line z here (inr (refl, w)) | inr quiet ↦ quiet ]) (b.found x refl)))

-- ---- merged changes

seen_before : (changes : List LineChange) (seen : ℕ → ℕ → Type 0) (k z : ℕ) → seen k z → Seen changes seen k z
seen_before [] seen k z s = s
seen_before (c ∷ changes) seen k z s = seen_before changes (More seen c.line.number c.year) k z (inl s)

-- a place that no change is of isn't changed
cover : (changes : List LineChange) (seen : ℕ → ℕ → Type 0) (k z : ℕ) → Seen changes seen k z ⊎ (changes_at changes k z ≡ zero_row)
cover [] seen k z = inr refl
cover (c ∷ changes) seen k z = by_place ((c.line.number == k) && (c.year == z)) refl (cover changes (More seen c.line.number c.year) k z)
  where
    by_place : (t : Bool) → ((c.line.number == k) && (c.year == z)) ≡ t → Seen changes (More seen c.line.number c.year) k z ⊎ (changes_at changes k z ≡ zero_row) →
        Seen changes (More seen c.line.number c.year) k z ⊎ (row_plus (if t then c.by else zero_row) (changes_at changes k z) ≡ zero_row)
    by_place true e rest =
        let at = both (c.line.number == k) (c.year == z) e in
        inl (seen_before changes (More seen c.line.number c.year) k z (inr (number c.line.number k at.0, number c.year z at.1)))
    by_place false e rest = elim rest [ inl there ↦ inl there | inr none ↦ inr (rw none refl) ]

-- what moves ask of a line and year is what their row asks
asks_together : (plan : Plan) (line year : ℕ) (moves : List Move) → asks_of (moves_row plan moves line year) ≡ asks_of_moves plan line year moves
asks_together plan line year [] = refl
asks_together plan line year (m ∷ moves) =
    by_test (counts plan line year m.account m.year) (moves_row plan moves line year).held (moves_row plan moves line year).encumbered (moves_row plan moves line year).expended (asks_of_moves plan line year moves)
    (asks_together plan line year moves)
  where
    by_test : (b : Bool) (p q r all : ℤ) → (p +ℤ q) +ℤ r ≡ all →
        (((if b then m.held else pos 0) +ℤ p) +ℤ ((if b then m.encumbered else pos 0) +ℤ q)) +ℤ ((if b then m.expended else pos 0) +ℤ r) ≡ (if b then (m.held +ℤ m.encumbered) +ℤ m.expended else pos 0) +ℤ all
    by_test true p q r all e = omega (arith, ints, e)
    by_test false p q r all e = omega (arith, ints, e)

lower : (a b : ℕ) → nat_lt a b ≡ true → a < b
lower a b e = grind (arith, common_steps)

-- the least excess among merged changes is the least of all lines and years
pub merged_least : (plan : Plan) (rooms : ℕ → ℕ → ℤ) (moves : List Move) (changes : List LineChange) → Make plan (moves_row plan moves) changes →
    refusal_in (least_from (excess_by rooms) None changes) ≡ first_below (λ line. first_below (λ year. overspends line (asks_of_moves plan line year moves) (rooms line year)) 2201) (length plan.lines)
merged_least plan rooms moves changes make =
    let g : ℕ → ℕ → Option Refusal = λ line year. overspends line (asks_of_moves plan line year moves) (rooms line year) in
    let nothing : ℕ → ℕ → Type 0 = λ k z. ⊥ in
    let start : IsBest g (length plan.lines) 2201 nothing None = record { none = λ e k z s. absurd s; found = λ x e. cc; line = λ x e. cc; year = λ x e. cc; least = λ x e k z s l. absurd s } in
    let tested : AllByRecursion (IsTested g (length plan.lines) 2201 (excess_by rooms)) changes =
    recursion_from_All (IsTested g (length plan.lines) 2201 (excess_by rooms)) changes (λ k d l.
    let c : LineChange = get_or changes k d in
    let here = both _ _ (AllPass-from_list_all (λ (x : LineChange). is_inside plan x.line.number x.year) changes make.inside k d l) in
    let row : c.by ≡ moves_row plan moves c.line.number c.year = sym (only_at changes k d l make.apart) ∙ make.made c.line.number c.year in
    record {
      line = lower _ _ here.0;
      year = lower _ _ here.1;
      test = ap (λ z. excess_of c.line.number c.year (overspends c.line.number z (rooms c.line.number c.year))) (ap asks_of row ∙ asks_together plan c.line.number c.year moves);
    }) in
    best_is g (length plan.lines) 2201 (Seen changes nothing) (least_from (excess_by rooms) None changes) (best_of g (length plan.lines) 2201 (excess_by rooms) changes tested nothing None start)
    (λ k z. elim (cover changes nothing k z) [
      | inl here ↦ inl here
      | inr none ↦ inr (ap (λ a. overspends k a (rooms k z)) (sym (asks_together plan k z moves) ∙ ap asks_of (sym (make.made k z) ∙ none)))
    ])
