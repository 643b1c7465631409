-- The books of both bases of accounting (GASB Statement 34).
use Rattle.std.specs.Prelude.{◌≡◌, ℕ, Bool, true, ◌==◌, ◌&&◌, List}
use Rattle.std.specs.List.{All, list_any}
use Rattle.cf_calls.specs.declared.read.Basis.{Basis}
use Rattle.cf_calls.specs.declared.read.Basis.TheVariants.{Fund, Gov}
use Rattle.cf_ledger.specs.declared.places.Place.{Place}
use Rattle.cf_ledger.specs.declared.post.Post.{Post}

-- a book of one basis: the posts that were added, oldest first, and the places that are reserved
-- for more
pub record Posted : Type 0 where
  pub posts : List Post
  pub places : List Place

-- the books of both
pub record Books : Type 0 where
  pub fund : Posted
  pub gov : Posted

abbrev pub book_of : Books → Basis → Posted
book_of books Fund = books.fund
book_of books Gov = books.gov

-- the posts that were added on a basis, oldest first
abbrev pub posts_of : Books → Basis → List Post
posts_of books basis = (book_of books basis).posts

abbrev pub other : Basis → Basis
other Fund = Gov
other Gov = Fund

-- whether a post to an account of a fund takes no memory
abbrev pub has_place : Posted → ℕ → ℕ → Bool
has_place book fund account = list_any (λ p. (fund == p.fund) && (account == p.account)) book.places

abbrev pub HasPlaces : Posted → List Post → Type 0
HasPlaces book posts = All (λ p. has_place book p.fund p.account ≡ true) posts

-- no place goes
abbrev pub KeepsPlaces : Posted → Posted → Type 0
KeepsPlaces old new = (fund account : ℕ) → has_place old fund account ≡ true
    → has_place new fund account ≡ true

-- adding these posts on a basis takes no memory
abbrev pub AreReserved : Books → Basis → List Post → Type 0
AreReserved books basis posts = HasPlaces (book_of books basis) posts

-- what was reserved stays so
abbrev pub KeepsReserved : Books → Books → Type 0
KeepsReserved old new = (basis : Basis) → KeepsPlaces (book_of old basis) (book_of new basis)
