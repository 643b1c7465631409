use Rattle.std.proofs.Common.{arith, refl}
use Rattle.cf_register_parts.proofs.Cells.{none_years}
use Rattle.cf_assets.proofs.inventory.Inventory.new.Goals as goal

pub invariant_of-result : goal.invariant_of-result
invariant_of-result c = record {
  few = rw c.new.ensures.items (omega arith);
  months = rw c.new-3.ensures.items (omega arith);
  rows = rw (c.new.ensures.items, c.new-3.ensures.items) (λ k d l. absurd (omega arith));
  serving = rw (c.new.ensures.items, c.new-2.ensures.items) tt;
  accumulated = rw (c.new.ensures.items, c.new-3.ensures.items) (λ n l. absurd (omega arith));
  outlay = rw (c.new.ensures.items, c.no_years.ensures) (none_years (λ y. 0) (λ y. refl));
  donated = rw (c.new.ensures.items, c.no_years-2.ensures) (none_years (λ y. 0) (λ y. refl));
  leased = rw (c.new.ensures.items, c.no_years-3.ensures) (none_years (λ y. 0) (λ y. refl));
  disposals = rw (c.new.ensures.items, c.no_years-4.ensures) (none_years (λ y. 0) (λ y. refl));
}
