use Rattle.std.proofs.Common.{◌≡◌, ◌++◌, drop}
use Rattle.cf_pool_cash.specs.Moves.{day_moves}
use Rattle.cf_pool_cash.proofs.moves.put_moves.Given as goal

-- what was appended, and what is still to come
abbrev pub invariant-loop-post : goal.invariant-loop-post
invariant-loop-post l = l.moves.items ++ day_moves l.on (drop l.post-index l.posts) ≡ l.initial.moves.items ++ day_moves l.on l.posts
