use Rattle.std.proofs.Common.{◌≡◌, ◌<◌, ◌≢◌, ℕ, IfSome, None}
use Rattle.cf_base.specs.Common.{HasFloor, IsAhead}
use Rattle.cf_base.proofs.shares.next_place.Given as goal

-- what is said of the best place, of the places below i
abbrev pub invariant-loop-i : goal.invariant-loop-i
invariant-loop-i l = record {
  place : IfSome l.best (λ b. b < l.i);
  floor : IfSome l.best (λ b. HasFloor l.total l.all l.weights l.out b);
  first : IfSome l.best (λ b. (k : ℕ) → k < l.i → k ≢ b → HasFloor l.total l.all l.weights l.out k → IsAhead l.total l.all l.weights b k);
  none : l.best ≡ None → (k : ℕ) → k < l.i → HasFloor l.total l.all l.weights l.out k → ⊥;
}
