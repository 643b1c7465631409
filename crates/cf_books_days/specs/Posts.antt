-- The posts of the entries that are dated through a day, as records.
use Rattle.std.specs.Prelude.{ℕ, ◌-◌, Bool, false, List, Option, Some, None, slice_get}
use Rattle.std.specs.List.{filter}
use Rattle.cf_model.specs.Common.{Day, Entry}
use Rattle.cf_chart.specs.Common.{Plan}
use Rattle.cf_books_words.specs.declared.words.PostFilter.{PostFilter}
use Rattle.cf_books_lists.specs.declared.posts.PlacedPost.{PlacedPost}
use Rattle.cf_books_lists.specs.Posts.{placed_in, text_of}
use Rattle.cf_books_days.specs.Through.{is_through, seen_through}

-- whether there is an entry, and it is dated through a day
abbrev pub is_dated : Day → Option Entry → Bool
is_dated day None = false
is_dated day (Some e) = is_through day e.change.on

-- whether the entry of a post is one of these, and is dated through a day
abbrev pub is_kept : Day → List Entry → PlacedPost → Bool
is_kept day history x = is_dated day (slice_get history (x.place - 1))

-- the posts of those of these entries that are dated through a day
abbrev pub kept : Day → List Entry → List PlacedPost → List PlacedPost
kept day history posts = filter (is_kept day history) posts

abbrev pub posts_text_through : Bool → PostFilter → Day → Plan → List Entry → List ℕ
posts_text_through csv filter day plan history =
    text_of csv filter plan history (placed_in (seen_through plan day history))
