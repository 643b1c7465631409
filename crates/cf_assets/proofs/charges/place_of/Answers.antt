use Rattle.std.proofs.Common.{◌+◌, ◌-◌, ◌/◌, ◌<◌, ◌≡◌, ◌≤◌, ℕ, length, sym, subst, arith}
use Rattle.cf_model.specs.Common.{Function}
use Rattle.cf_assets.proofs.Charged.{halve_up, halve_down}
use Rattle.cf_assets.proofs.charges.place_of.Goals as goal

strictly : (a b : ℕ) → a ≤ b → (b ≡ a → ⊥) → a < b
strictly a b l n = grind arith

pub halving-preserved-then-found-id-2 : goal.halving-preserved-then-found-id-2
halving-preserved-then-found-id-2 c =
    let m = c.halving.low + (c.halving.high - c.halving.low) / 2 in
    let l : m < length c.args.functions.now = omega (arith, c.halving-test.true, c.halving.invariant.within) in
    record {
      within = c.halving.invariant.within;
      below = halve_up c.args.functions.now c.args.id m c.index-functions-middle.result c.requires l c.index-functions-middle.is (subst (λ (f : Function). f.id < c.args.id) (sym c.index-functions-middle.is) c.if-found-id-2.true);
      above = c.halving.invariant.above;
    }

pub halving-preserved : goal.halving-preserved
halving-preserved c =
    let m = c.halving.low + (c.halving.high - c.halving.low) / 2 in
    let l : m < length c.args.functions.now = omega (arith, c.halving-test.true, c.halving.invariant.within) in
    record {
      within = omega (arith, l);
      below = c.halving.invariant.below;
      above = halve_down c.args.functions.now c.args.id m c.index-functions-middle.result c.requires l c.index-functions-middle.is (subst (λ (f : Function). c.args.id < f.id) (sym c.index-functions-middle.is) (strictly _ _ c.if-found-id-2.false c.if-found-id.false));
    }
