-- What is gathered of one entry more.
use Rattle.std.proofs.Common.{◌≡◌, List, [], ◌∷◌, ◌++◌, sym, ap, ◌∙◌, append_assoc, append-nil}
use Rattle.cf_journal_book.specs.Watching.{Posted}
use Rattle.cf_books_lists.specs.Posts.{placed_in, placed_of}

pub placed_push : (seen : List Posted) (x : Posted) → placed_in (seen ++ x ∷ []) ≡ placed_in seen ++ placed_of x
placed_push [] x = append-nil (placed_of x)
placed_push (y ∷ seen) x = ap (λ t. placed_of y ++ t) (placed_push seen x) ∙ sym (append_assoc (placed_of y) (placed_in seen) (placed_of x))
