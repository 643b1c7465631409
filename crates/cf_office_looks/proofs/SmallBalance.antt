-- A balance of a legal history is far smaller than 128 bits allow.
use Rattle.std.proofs.Common.{ℕ, ◌≤◌, ◌<◌, ◌^◌, ◌&&◌, nat_le, List, length, unsigned_abs, arith}
use Rattle.cf_base.specs.Common.{most_entries}
use Rattle.cf_model.specs.Common.{Entry, Basis, balance_of, posts_in, IsLegal}
use Rattle.cf_chart.specs.Common.{Plan}
use Rattle.cf_ledger.specs.Posts.{is_of}
use Rattle.cf_ledger.proofs.Sums.{within_sizes}
use Rattle.cf_model.proofs.Common.{IsWhole, posts_small}

pub small_balance : (basis : Basis) (plan : Plan) (h : List Entry) (year fund account : ℕ) → IsWhole plan → IsLegal plan h → length h ≤ most_entries →
    unsigned_abs (balance_of basis plan year fund account h) < 2 ^ 104
small_balance basis plan h year fund account whole legal few =
    omega (arith, within_sizes (λ p. is_of fund account p && nat_le p.year year) (posts_in basis plan h), posts_small basis plan h whole.few_functions legal, few)
