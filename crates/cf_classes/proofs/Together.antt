-- Elements together: in any grouping, and each small.
use Rattle.std.proofs.Common.{◌≡◌, ℕ, ◌+◌, ◌*◌, ◌≤◌, ℤ, ◌+ℤ◌, ◌-ℤ◌, unsigned_abs, List, ◌∷◌, ◌++◌, append_assoc, drop, ap, sym, subst, ◌∙◌, arith}
use Rattle.cf_base.proofs.Common.{ints}
use Rattle.cf_chart.specs.Common.{Plan}
use Rattle.cf_chart.specs.declared.rows.Fund.{Fund}
use Rattle.cf_model.specs.Common.{Row}
use Rattle.cf_statements.specs.Sums.{Sums}
use Rattle.cf_classes.specs.declared.elements.Elements.{Elements}
use Rattle.cf_classes.specs.Major.{AreWithin, FundsSum, less, major_of, over, plus, total_of}

grouped : (x y z : ℤ) → (x +ℤ y) +ℤ z ≡ x +ℤ (y +ℤ z)
grouped x y z = omega (arith, ints)

plus_assoc : (a b c : Elements) → plus (plus a b) c ≡ plus a (plus b c)
plus_assoc a b c = λ i. record {
  assets = grouped a.assets b.assets c.assets i;
  liabilities = grouped a.liabilities b.liabilities c.liabilities i;
  revenues = grouped a.revenues b.revenues c.revenues i;
  expenditures = grouped a.expenditures b.expenditures c.expenditures i;
}

one_more : (n : ℕ) (x y : ℤ) → unsigned_abs x ≤ n * 20769187434139310514121985316880384 → unsigned_abs y ≤ 20769187434139310514121985316880384 →
    unsigned_abs (x +ℤ y) ≤ (n + 1) * 20769187434139310514121985316880384
one_more n x y l m = omega (arith, ints, l, m)

-- the elements of one fund more (2 ^ 114 is what one may have)
within_more : (n : ℕ) (t a : Elements) → AreWithin (n * 20769187434139310514121985316880384) t → AreWithin 20769187434139310514121985316880384 a →
    AreWithin ((n + 1) * 20769187434139310514121985316880384) (plus t a)
within_more n t a l m = record {
  assets = one_more n t.assets a.assets l.assets m.assets;
  liabilities = one_more n t.liabilities a.liabilities l.liabilities m.liabilities;
  revenues = one_more n t.revenues a.revenues l.revenues m.revenues;
  expenditures = one_more n t.expenditures a.expenditures l.expenditures m.expenditures;
}

-- what was added of the funds, and what is still to come
pub record AreAdded (f : Fund → Elements) (funds : List Fund) (i : ℕ) (total : Elements) : Type 0 where
  pub sum : plus total (over f (drop i funds)) ≡ over f funds
  pub small : AreWithin (i * 20769187434139310514121985316880384) total

pub one_added : (f : Fund → Elements) (funds : List Fund) (i : ℕ) (fund : Fund) (total one next : Elements) → fund ∷ drop (i + 1) funds ≡ drop i funds → one ≡ f fund
    → AreWithin 20769187434139310514121985316880384 one → next ≡ plus total one → AreAdded f funds i total → AreAdded f funds (i + 1) next
one_added f funds i fund total one next rest is small added was = record {
  sum = ap (λ a. plus a (over f (drop (i + 1) funds))) added ∙ plus_assoc total one (over f (drop (i + 1) funds))
      ∙ ap (λ a. plus total (plus a (over f (drop (i + 1) funds)))) is ∙ ap (λ l. plus total (over f l)) rest ∙ was.sum;
  small = subst (AreWithin ((i + 1) * 20769187434139310514121985316880384)) (sym added) (within_more i total one was.small small);
}

-- ---- the major funds and the others come to all

others_whole : (a b : Elements) → plus b (less a b) ≡ a
others_whole a b = λ i. record {
  assets = back a.assets b.assets i;
  liabilities = back a.liabilities b.liabilities i;
  revenues = back a.revenues b.revenues i;
  expenditures = back a.expenditures b.expenditures i;
}
  where
    back : (x y : ℤ) → y +ℤ (x -ℤ y) ≡ x
    back x y = omega (arith, ints)

pub funds_sum : (plan : Plan) (sums : Sums) (year : ℕ) → FundsSum plan sums year
funds_sum plan sums year = others_whole (total_of plan sums year) (major_of plan sums year)

-- rows that are added in two steps
pub two_added : (old new last a b : List Row) → new ≡ old ++ a → last ≡ new ++ b → last ≡ old ++ (a ++ b)
two_added old new last a b p q = q ∙ ap (λ t. t ++ b) p ∙ append_assoc old a b
