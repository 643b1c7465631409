-- What is gathered of a journal that is opened: each post and each change of line numbers with the
-- day of its entry.
use Rattle.std.specs.Prelude.{◌≡◌, ℕ, if◌then◌else◌, List, [], ◌∷◌, flat_map, map}
use Rattle.std.specs.List.{filter}
use Rattle.cf_model.specs.Common.{Day}
use Rattle.cf_journal_book.specs.Watching.{Posted}
use Rattle.cf_budget.specs.declared.changes.LineChange.{LineChange}
use Rattle.cf_budget.specs.declared.row.Row.{Row}
use Rattle.cf_budget.specs.Changes.{change_at}
use Rattle.cf_budget.specs.Tables.{row_plus, zero_row}
use Rattle.cf_chart.specs.Common.{Plan}
use Rattle.cf_ledger.specs.declared.post.Post.{Post}
use Rattle.cf_books_days.specs.declared.gathered.Dated.{Dated}
use Rattle.cf_books_days.specs.declared.gathered.DatedChange.{DatedChange}
use Rattle.cf_books_days.specs.declared.gathered.DatedPost.{DatedPost}
use Rattle.cf_books_days.specs.Through.{dated_through, is_through, moved_in}

abbrev pub posts_on : Day → List Post → List DatedPost
posts_on on posts = map (λ p. record { on = on; post = p }) posts

abbrev pub fund_dated : List Posted → List DatedPost
fund_dated posted = flat_map (λ x. posts_on x.entry.change.on x.fund) posted

abbrev pub gov_dated : List Posted → List DatedPost
gov_dated posted = flat_map (λ x. posts_on x.entry.change.on x.gov) posted

abbrev pub changes_on : Day → List LineChange → List DatedChange
changes_on on changes = map (λ c. record { on = on; change = c }) changes

-- the posts that are dated through a day
abbrev pub posts_through : Day → List DatedPost → List Post
posts_through day dated = map (λ d. d.post) (filter (λ d. is_through day d.on) dated)

-- what the changes that are dated through a day make of a line and year
abbrev pub changed_through : Day → ℕ → ℕ → List DatedChange → Row
changed_through day line year [] = zero_row
changed_through day line year (d ∷ dated) =
    row_plus (if is_through day d.on then change_at d.change line year else zero_row)
    (changed_through day line year dated)

-- all that entries post and change was gathered
pub record IsOf (plan : Plan) (seen : List Posted) (d : Dated) : Type 0 where
  pub fund : d.fund.items ≡ fund_dated seen
  pub gov : d.gov.items ≡ gov_dated seen
  pub changes : (day : Day) (line year : ℕ)
      → changed_through day line year d.changes.items
      ≡ moved_in plan line year (dated_through day seen)
