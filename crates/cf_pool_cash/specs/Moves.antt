-- The movements of funds' cash in a history: its fund posts on cash, each on the day of its entry.
use Rattle.std.specs.Prelude.{◌==◌, if◌then◌else◌, List, [], ◌∷◌, ◌++◌}
use Rattle.cf_model.specs.Common.{Day, Entry}
use Rattle.cf_journal_book.specs.Watching.{Posted, all_posted}
use Rattle.cf_chart.specs.Common.{Plan}
use Rattle.cf_ledger.specs.declared.post.Post.{Post}
use Rattle.cf_pool.specs.declared.days.CashMove.{CashMove}
use Rattle.cf_post.specs.Accounts as account

abbrev pub move_of : Day → Post → CashMove
move_of on p = record { on = on; fund = p.fund; amount = p.amount }

-- a post to cash moves it
abbrev pub post_moves : Day → Post → List CashMove
post_moves on p = if p.account == account.cash then move_of on p ∷ [] else []

-- what the posts of a day move of cash
abbrev pub day_moves : Day → List Post → List CashMove
day_moves on [] = []
day_moves on (p ∷ posts) = post_moves on p ++ day_moves on posts

-- what entries move, by their posts on the fund basis
abbrev pub moves_in : List Posted → List CashMove
moves_in [] = []
moves_in (x ∷ posted) = day_moves x.entry.change.on x.fund ++ moves_in posted

-- all that a history moves of cash, oldest first
abbrev pub moves_of : Plan → List Entry → List CashMove
moves_of plan history = moves_in (all_posted plan history)
