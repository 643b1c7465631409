-- What running numbers stand for.
use Rattle.std.specs.Prelude.{◌≡◌, ℕ, ◌<◌, ◌^◌, length}
use Rattle.std.specs.List.{All}
use Rattle.std.specs.Map.{keys_of}
use Rattle.cf_ledger.specs.declared.book.Book.TheInside.{Inside}
use Rattle.cf_ledger.specs.Books.{Posted}
use Rattle.cf_ledger.specs.Places.{AreCounted, cells_at}
use Rattle.cf_ledger.specs.Posts.{is_of, is_in_total, sizes, IsInYears}
use Rattle.cf_ledger.specs.Years.{StandsFor}

abbrev pub posted : Inside → Posted
posted a = record { posts = a.history.items; places = keys_of a.rows.entries }

-- the cells stand for the posts, and each sum of them fits
pub record IsSound (a : Inside) : Type 0 where
  pub years : All IsInYears a.history.items
  pub small : sizes a.history.items < 2 ^ 127
  pub count : length a.totals ≡ 231
  pub totals : StandsFor is_in_total a.history.items a.totals
  pub counted : AreCounted a.rows.entries
  pub rows : (fund account : ℕ)
      → StandsFor (is_of fund account) a.history.items (cells_at a.rows.entries fund account)
