-- The sizes of a history's movements of cash.
use Rattle.std.proofs.Common.{◌≡◌, ℕ, ◌+◌, ◌^◌, ◌<◌, ◌≤◌, ◌==◌, Bool, true, false, if◌then◌else◌, List, [], ◌∷◌, ◌++◌, length, unsigned_abs, arith}
use Rattle.cf_base.proofs.Common.{sum_by-cons, sum_by-append}
use Rattle.cf_model.specs.Common.{Day, Entry, act_posts, posts_after, Registers, registers_step, no_registers, IsSoundState}
use Rattle.cf_calls.specs.declared.read.Basis.TheVariants.{Fund as FundBasis}
use Rattle.cf_chart.specs.Common.{Plan}
use Rattle.cf_ledger.specs.declared.post.Post.{Post}
use Rattle.cf_ledger.specs.Posts.{sizes}
use Rattle.cf_model.proofs.Common.{posts_small}
use Rattle.cf_journal_book.specs.Watching.{posted_after}
use Rattle.cf_pool.specs.declared.days.CashMove.{CashMove}
use Rattle.cf_pool.specs.Balances.{sizes as move_sizes}
use Rattle.cf_post.specs.Accounts as account
use Rattle.cf_pool_cash.specs.Moves.{move_of, day_moves, moves_in, moves_of}

day_small : (on : Day) (posts : List Post) → move_sizes (day_moves on posts) ≤ sizes posts
day_small on [] = omega arith
day_small on (p ∷ posts) = by (p.account == account.cash) (day_small on posts)
  where
    whole : sizes (p ∷ posts) ≡ unsigned_abs p.amount + sizes posts
    whole = sum_by-cons (λ (q : Post). unsigned_abs q.amount) p posts

    one : move_sizes (move_of on p ∷ day_moves on posts) ≡ unsigned_abs p.amount + move_sizes (day_moves on posts)
    one = sum_by-cons (λ (m : CashMove). unsigned_abs m.amount) (move_of on p) (day_moves on posts)

    by : (b : Bool) → move_sizes (day_moves on posts) ≤ sizes posts → move_sizes ((if b then move_of on p ∷ [] else []) ++ day_moves on posts) ≤ sizes (p ∷ posts)
    by true later = omega (arith, whole, one, later)
    by false later = omega (arith, whole, later)

days_small : (plan : Plan) (s : Registers) (place : ℕ) (h : List Entry) → move_sizes (moves_in (posted_after plan s place h)) ≤ sizes (posts_after FundBasis plan s h)
days_small plan s place [] = omega arith
days_small plan s place (e ∷ later) =
    let posts = act_posts FundBasis plan s e.change.on e.change.act in
    let moves = sum_by-append (λ (m : CashMove). unsigned_abs m.amount) (day_moves e.change.on posts) (moves_in (posted_after plan (registers_step plan s e) (place + 1) later)) in
    let posted = sum_by-append (λ (p : Post). unsigned_abs p.amount) posts (posts_after FundBasis plan (registers_step plan s e) later) in
    omega (arith, moves, posted, day_small e.change.on posts, days_small plan (registers_step plan s e) (place + 1) later)

pub moves_fit : (plan : Plan) (h : List Entry) → length plan.functions ≤ 64 → IsSoundState (record { plan = plan; entries = h }) → move_sizes (moves_of plan h) < 2 ^ 120
moves_fit plan h functions sound = omega (arith, days_small plan no_registers 1 h, posts_small FundBasis plan h functions sound.legal, sound.few)
