use Rattle.std.proofs.Common.{arith, refl}
use Rattle.cf_assets.proofs.Standing.{extents_none}
use Rattle.cf_assets.proofs.assets.Assets.new.Goals as goal

pub invariant_of-result : goal.invariant_of-result
invariant_of-result c = record {
  acts = omega arith;
  few = rw c.new.ensures.assets (omega arith);
  closed = rw c.new.ensures.closed (omega arith);
  vouchers = rw c.new-2.ensures.items (omega arith);
  extents = rw (c.new-2.ensures.items, c.new.ensures.assets) extents_none;
  amortized = rw (c.new.ensures.assets, c.new.ensures.closed, c.new-3.ensures.items) (record { count = refl; are = λ n l. absurd (omega arith) });
}
