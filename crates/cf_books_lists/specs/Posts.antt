-- Each post of each entry of a history, on both bases of accounting (GASB Statement 34), as
-- records.
use Rattle.std.specs.Prelude.{ℕ, Bool, true, ◌-◌, ◌==◌, ◌&&◌, if◌then◌else◌, List, [], ◌∷◌, ◌++◌, Option, Some, None, codes, decimal, flat_map, map, slice_get}
use Rattle.cf_base.specs.Common.{money_of, day_text}
use Rattle.cf_journal_book.specs.Watching.{Posted, all_posted}
use Rattle.cf_json_calls.specs.CallText.{call_word}
use Rattle.cf_model.specs.Common.{Entry, Basis}
use Rattle.cf_calls.specs.declared.read.Basis.TheVariants as basis
use Rattle.cf_chart.specs.Common.{Plan, fund_at}
use Rattle.cf_ledger.specs.declared.post.Post.{Post}
use Rattle.cf_books_words.specs.declared.words.PostFilter.{PostFilter}
use Rattle.cf_books_lists.specs.declared.posts.PlacedPost.{PlacedPost}
use Rattle.cf_books_lists.specs.Names.{account_text, basis_word, fund_name}
use Rattle.cf_books_lists.specs.Records.{drawn_text, head_text, record_text}

-- whether a number is the one that is asked for, or none is
abbrev pub is_asked : Option ℕ → ℕ → Bool
is_asked None n = true
is_asked (Some m) n = m == n

abbrev pub is_wanted : PostFilter → Post → Bool
is_wanted filter p = is_asked filter.year p.year
    && (is_asked filter.fund p.fund && is_asked filter.account p.account)

-- the names of the columns
abbrev pub head : List (List ℕ)
head =
    codes "place" ∷ codes "day" ∷ codes "desk" ∷ codes "key" ∷ codes "call" ∷ codes "number"
    ∷ codes "basis" ∷ codes "year"
    ∷ codes "fund" ∷ codes "fund_name" ∷ codes "account" ∷ codes "account_name" ∷ codes "amount"
    ∷ []

-- a post of the entry at a place, which is counted from 1
abbrev pub post_row : Plan → ℕ → Entry → Basis → Post → List (List ℕ)
post_row plan place e on p =
    decimal place ∷ day_text e.change.on ∷ decimal e.change.desk ∷ e.change.key
    ∷ call_word e.change.act ∷ drawn_text e.drawn.number
    ∷ basis_word on ∷ decimal p.year ∷ decimal p.fund ∷ fund_name (fund_at plan p.fund)
    ∷ decimal p.account ∷ account_text plan p.account
    ∷ money_of p.amount ∷ []

abbrev pub post_text : Bool → PostFilter → Plan → ℕ → Entry → Basis → Post → List ℕ
post_text csv filter plan place e on p = if is_wanted filter p
    then record_text csv (post_row plan place e on p) else []

-- a post of one of these entries, where it is asked for
abbrev pub entry_text : Bool → PostFilter → Plan → Option Entry → PlacedPost → List ℕ
entry_text csv filter plan None x = []
entry_text csv filter plan (Some e) x = post_text csv filter plan x.place e x.basis x.post

abbrev pub placed_text : Bool → PostFilter → Plan → List Entry → PlacedPost → List ℕ
placed_text csv filter plan history x =
    entry_text csv filter plan (slice_get history (x.place - 1)) x

abbrev pub rows_text : Bool → PostFilter → Plan → List Entry → List PlacedPost → List ℕ
rows_text csv filter plan history posts = flat_map (placed_text csv filter plan history) posts

-- the names of the columns, and the posts of entries
abbrev pub text_of : Bool → PostFilter → Plan → List Entry → List PlacedPost → List ℕ
text_of csv filter plan history posts =
    head_text csv head ++ rows_text csv filter plan history posts

-- ---- the posts of a history, oldest first, and of each entry those on the fund basis before the
-- others

abbrev pub placed : ℕ → Basis → List Post → List PlacedPost
placed place on posts = map (λ p. record { place = place; basis = on; post = p }) posts

abbrev pub placed_of : Posted → List PlacedPost
placed_of x = placed x.place basis.Fund x.fund ++ placed x.place basis.Gov x.gov

abbrev pub placed_in : List Posted → List PlacedPost
placed_in posted = flat_map placed_of posted

abbrev pub posts_of : Bool → PostFilter → Plan → List Entry → List ℕ
posts_of csv filter plan history =
    text_of csv filter plan history (placed_in (all_posted plan history))
