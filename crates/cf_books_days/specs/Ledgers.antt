-- The posts of a ledger that sums fund balances.
use Rattle.std.specs.Prelude.{List, map}
use Rattle.std.specs.List.{filter}
use Rattle.cf_ledger.specs.declared.post.Post.{Post}
use Rattle.cf_ledger.specs.Posts.{is_in_total}

-- a post as of the account 0 of its fund
abbrev pub as_balance : Post → Post
as_balance p = record p { account = 0 }

-- the posts that make up fund balances, each as of one account of its fund
abbrev pub in_balance : List Post → List Post
in_balance posts = map as_balance (filter is_in_total posts)
