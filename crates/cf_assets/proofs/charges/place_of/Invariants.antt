use Rattle.std.proofs.Common.{◌≤◌, ◌<◌, ◌-◌, ℕ, length, get_or}
use Rattle.cf_model.specs.Common.{Function}
use Rattle.cf_assets.proofs.charges.place_of.Given as goal

abbrev pub invariant-halving : goal.invariant-halving
invariant-halving l = record {
  within : l.high ≤ length l.functions;
  below : (k : ℕ) (d : Function) → k < length l.functions → k < l.low → (get_or l.functions k d).id < l.id;
  above : (k : ℕ) (d : Function) → k < length l.functions → l.high ≤ k → l.id < (get_or l.functions k d).id;
}

abbrev pub decreases-halving : goal.decreases-halving
decreases-halving l = l.high - l.low
