-- What is gathered of one entry more.
use Rattle.std.proofs.Common.{◌≡◌, List, [], ◌∷◌, ◌++◌, sym, ap, ◌∙◌, append_assoc, append-nil}
use Rattle.cf_journal_book.specs.Watching.{Posted}
use Rattle.cf_pool_cash.specs.Moves.{day_moves, moves_in}

pub moves_push : (seen : List Posted) (x : Posted) → moves_in (seen ++ x ∷ []) ≡ moves_in seen ++ day_moves x.entry.change.on x.fund
moves_push [] x = append-nil (day_moves x.entry.change.on x.fund)
moves_push (y ∷ seen) x = ap (λ t. day_moves y.entry.change.on y.fund ++ t) (moves_push seen x) ∙ sym (append_assoc (day_moves y.entry.change.on y.fund) (moves_in seen) (day_moves x.entry.change.on x.fund))
