-- Activities together: in any grouping, and each small.
use Rattle.std.proofs.Common.{◌≡◌, ℕ, ◌+◌, ◌*◌, ◌≤◌, ℤ, ◌+ℤ◌, unsigned_abs, arith}
use Rattle.cf_base.proofs.Common.{ints}
use Rattle.cf_statements.specs.declared.activity.Activity.{Activity}
use Rattle.cf_statements.specs.Activities.{AreWithin, plus}

grouped : (x y z : ℤ) → (x +ℤ y) +ℤ z ≡ x +ℤ (y +ℤ z)
grouped x y z = omega (arith, ints)

pub plus_assoc : (a b c : Activity) → plus (plus a b) c ≡ plus a (plus b c)
plus_assoc a b c = λ i. record {
  expenses = grouped a.expenses b.expenses c.expenses i;
  charges = grouped a.charges b.charges c.charges i;
  operating_grants = grouped a.operating_grants b.operating_grants c.operating_grants i;
  capital_grants = grouped a.capital_grants b.capital_grants c.capital_grants i;
}

one_more : (n : ℕ) (x y : ℤ) → unsigned_abs x ≤ n * 10425158536276958597908887161012224 → unsigned_abs y ≤ 10425158536276958597908887161012224 →
    unsigned_abs (x +ℤ y) ≤ (n + 1) * 10425158536276958597908887161012224
one_more n x y l m = omega (arith, ints, l, m)

-- one activity more (257 * 2 ^ 105 is what one may have)
pub within_more : (n : ℕ) (t a : Activity) → AreWithin (n * 10425158536276958597908887161012224) t → AreWithin 10425158536276958597908887161012224 a →
    AreWithin ((n + 1) * 10425158536276958597908887161012224) (plus t a)
within_more n t a l m = record {
  expenses = one_more n t.expenses a.expenses l.expenses m.expenses;
  charges = one_more n t.charges a.charges l.charges m.charges;
  operating_grants = one_more n t.operating_grants a.operating_grants l.operating_grants m.operating_grants;
  capital_grants = one_more n t.capital_grants a.capital_grants l.capital_grants m.capital_grants;
}
