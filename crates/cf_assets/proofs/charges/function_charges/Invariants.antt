use Rattle.std.proofs.Common.{◌≡◌, ◌≤◌, ◌<◌, ◌*◌, ℕ, true, false, length, get_or, take, sum_by}
use Rattle.cf_model.specs.Common.{Function}
use Rattle.cf_assets.proofs.Charged.{at_place, part_of}
use Rattle.cf_assets.proofs.charges.function_charges.Given as goal
use Rattle.cf_base.specs.Common.{most_cents}

abbrev pub invariant-loop-at : goal.invariant-loop-at
invariant-loop-at l = record {
  owned : (k : ℕ) (d : Function) → k < length l.functions → get_or l.charges.owned k 0 ≡ sum_by (at_place (part_of false l.closed (get_or l.functions k d).id) l.rows) (take l.at-index l.serving);
  leased : (k : ℕ) (d : Function) → k < length l.functions → get_or l.charges.leased k 0 ≡ sum_by (at_place (part_of true l.closed (get_or l.functions k d).id) l.rows) (take l.at-index l.serving);
  small : (k : ℕ) → get_or l.charges.owned k 0 ≤ l.at-index * most_cents;
  less : (k : ℕ) → get_or l.charges.leased k 0 ≤ l.at-index * most_cents;
}
