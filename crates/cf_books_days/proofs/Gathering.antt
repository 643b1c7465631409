-- What is gathered of one entry more, and what of it is dated through a day.
use Rattle.std.proofs.Common.{◌≡◌, ℕ, Bool, true, false, cond, if◌then◌else◌, List, [], ◌∷◌, ◌++◌, map, refl, sym, ap, ◌∙◌, append-nil, filter}
use Rattle.cf_base.proofs.Common.{flat_map-append}
use Rattle.cf_model.specs.Common.{Day}
use Rattle.cf_journal_book.specs.Watching.{Posted}
use Rattle.cf_budget.specs.declared.changes.LineChange.{LineChange}
use Rattle.cf_budget.specs.declared.row.Row.{Row}
use Rattle.cf_budget.specs.Changes.{change_at, changes_at}
use Rattle.cf_budget.specs.Tables.{row_plus, zero_row}
use Rattle.cf_budget.proofs.Rows.{plus_regroup, plus_zero, zero_plus}
use Rattle.cf_chart.specs.Common.{Plan}
use Rattle.cf_ledger.specs.declared.post.Post.{Post}
use Rattle.cf_registers.specs.Moved.{moved_by}
use Rattle.cf_books_days.specs.declared.gathered.DatedChange.{DatedChange}
use Rattle.cf_books_days.specs.declared.gathered.DatedPost.{DatedPost}
use Rattle.cf_books_days.specs.Gathered.{changed_through, changes_on, fund_dated, gov_dated, posts_on, posts_through}
use Rattle.cf_books_days.specs.Through.{dated_through, fund_posts, gov_posts, is_through, moved_in}
use Rattle.cf_books_days.proofs.Pushed.{if_through, moved_append, through_push}

-- ---- one entry more

pub fund_push : (seen : List Posted) (x : Posted) → fund_dated (seen ++ x ∷ []) ≡ fund_dated seen ++ posts_on x.entry.change.on x.fund
fund_push seen x = flat_map-append (λ (y : Posted). posts_on y.entry.change.on y.fund) seen (x ∷ []) ∙ ap (λ t. fund_dated seen ++ t) (append-nil (posts_on x.entry.change.on x.fund))

pub gov_push : (seen : List Posted) (x : Posted) → gov_dated (seen ++ x ∷ []) ≡ gov_dated seen ++ posts_on x.entry.change.on x.gov
gov_push seen x = flat_map-append (λ (y : Posted). posts_on y.entry.change.on y.gov) seen (x ∷ []) ∙ ap (λ t. gov_dated seen ++ t) (append-nil (posts_on x.entry.change.on x.gov))

changed_append : (day : Day) (line year : ℕ) (xs ys : List DatedChange) → changed_through day line year (xs ++ ys) ≡ row_plus (changed_through day line year xs) (changed_through day line year ys)
changed_append day line year [] ys = sym (zero_plus (changed_through day line year ys))
changed_append day line year (x ∷ xs) ys =
    let own : Row = if is_through day x.on then change_at x.change line year else zero_row in
    ap (row_plus own) (changed_append day line year xs ys) ∙ plus_regroup own (changed_through day line year xs) (changed_through day line year ys)

changed_on : (day on : Day) (line year : ℕ) (changes : List LineChange) → changed_through day line year (changes_on on changes) ≡ (if is_through day on then changes_at changes line year else zero_row)
changed_on day on line year [] = by_test (is_through day on)
  where
    by_test : (b : Bool) → zero_row ≡ (if b then zero_row else zero_row)
    by_test true = refl
    by_test false = refl
changed_on day on line year (c ∷ changes) = by_test (is_through day on) (changed_on day on line year changes)
  where
    by_test : (b : Bool) → changed_through day line year (changes_on on changes) ≡ (if b then changes_at changes line year else zero_row) →
        row_plus (if b then change_at c line year else zero_row) (changed_through day line year (changes_on on changes)) ≡ (if b then changes_at (c ∷ changes) line year else zero_row)
    by_test true later = ap (row_plus (change_at c line year)) later
    by_test false later = ap (row_plus zero_row) later ∙ zero_plus zero_row

moved_if : (plan : Plan) (day : Day) (line year : ℕ) (x : Posted) → moved_in plan line year (if_through day x) ≡ (if is_through day x.entry.change.on then moved_by plan x.before x.entry.change.on x.entry.change.act line year else zero_row)
moved_if plan day line year x = by_test (is_through day x.entry.change.on)
  where
    by_test : (b : Bool) → moved_in plan line year (cond b (x ∷ []) []) ≡ (if b then moved_by plan x.before x.entry.change.on x.entry.change.act line year else zero_row)
    by_test true = plus_zero (moved_by plan x.before x.entry.change.on x.entry.change.act line year)
    by_test false = refl

pub changes_push : (plan : Plan) (seen : List Posted) (x : Posted) (dated : List DatedChange) (changes : List LineChange) →
    ((day : Day) (line year : ℕ) → changed_through day line year dated ≡ moved_in plan line year (dated_through day seen)) →
    ((line year : ℕ) → changes_at changes line year ≡ moved_by plan x.before x.entry.change.on x.entry.change.act line year) →
    (day : Day) (line year : ℕ) → changed_through day line year (dated ++ changes_on x.entry.change.on changes) ≡ moved_in plan line year (dated_through day (seen ++ x ∷ []))
changes_push plan seen x dated changes was make day line year =
    let b = is_through day x.entry.change.on in
    changed_append day line year dated (changes_on x.entry.change.on changes)
    ∙ (λ i. row_plus (was day line year i) (changed_on day x.entry.change.on line year changes i))
    ∙ ap (λ (r : Row). row_plus (moved_in plan line year (dated_through day seen)) (if b then r else zero_row)) (make line year)
    ∙ ap (row_plus (moved_in plan line year (dated_through day seen))) (sym (moved_if plan day line year x))
    ∙ sym (moved_append plan line year (dated_through day seen) (if_through day x))
    ∙ ap (moved_in plan line year) (sym (through_push day seen x))

-- ---- the posts through a day

posts_both : (day on : Day) (posts : List Post) (later : List DatedPost) → posts_through day (posts_on on posts ++ later) ≡ cond (is_through day on) posts [] ++ posts_through day later
posts_both day on [] later = by_test (is_through day on)
  where
    by_test : (b : Bool) → posts_through day later ≡ cond b [] [] ++ posts_through day later
    by_test true = refl
    by_test false = refl
posts_both day on (p ∷ posts) later = by_test (is_through day on) (posts_both day on posts later)
  where
    by_test : (b : Bool) → posts_through day (posts_on on posts ++ later) ≡ cond b posts [] ++ posts_through day later →
        map (λ (d : DatedPost). d.post) (cond b (record { on = on; post = p } ∷ filter (λ d. is_through day d.on) (posts_on on posts ++ later)) (filter (λ d. is_through day d.on) (posts_on on posts ++ later)))
        ≡ cond b (p ∷ posts) [] ++ posts_through day later
    by_test true more = ap (λ t. p ∷ t) more
    by_test false more = more

pub fund_through : (day : Day) (seen : List Posted) → posts_through day (fund_dated seen) ≡ fund_posts (dated_through day seen)
fund_through day [] = refl
fund_through day (x ∷ seen) = posts_both day x.entry.change.on x.fund (fund_dated seen) ∙ by_test (is_through day x.entry.change.on) (fund_through day seen)
  where
    by_test : (b : Bool) → posts_through day (fund_dated seen) ≡ fund_posts (dated_through day seen) →
        cond b x.fund [] ++ posts_through day (fund_dated seen) ≡ fund_posts (cond b (x ∷ dated_through day seen) (dated_through day seen))
    by_test true later = ap (λ t. x.fund ++ t) later
    by_test false later = later

pub gov_through : (day : Day) (seen : List Posted) → posts_through day (gov_dated seen) ≡ gov_posts (dated_through day seen)
gov_through day [] = refl
gov_through day (x ∷ seen) = posts_both day x.entry.change.on x.gov (gov_dated seen) ∙ by_test (is_through day x.entry.change.on) (gov_through day seen)
  where
    by_test : (b : Bool) → posts_through day (gov_dated seen) ≡ gov_posts (dated_through day seen) →
        cond b x.gov [] ++ posts_through day (gov_dated seen) ≡ gov_posts (cond b (x ∷ dated_through day seen) (dated_through day seen))
    by_test true later = ap (λ t. x.gov ++ t) later
    by_test false later = later
