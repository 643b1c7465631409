use Rattle.std.proofs.Common.{◌≡◌, true, Some, take}
use Rattle.cf_base.proofs.Common.{list_any, contains}
use Rattle.cf_calls.specs.Common.{is_distinct}
use Rattle.cf_calls.specs.Keys.{same_key}
use Rattle.cf_calls.proofs.distinct.are_distinct.Given as goal

abbrev pub invariant-loop-key : goal.invariant-loop-key
invariant-loop-key g l = record {
  seen : (q : _) → contains g.K.Ord.cmp l.seen q ≡ list_any (λ k. same_key g.K.PartialEq.eq k (Some q)) (take l.key-index l.keys);
  apart : is_distinct (same_key g.K.PartialEq.eq) (take l.key-index l.keys) ≡ true;
}
