-- What a history comes to through a day: sums over the entries that are dated through it, as they
-- were entered.
use Rattle.std.specs.Prelude.{ℕ, ℤ, ◌&&◌, ◌==◌, nat_le, Bool, not, List, [], ◌∷◌, flat_map, sum_by}
use Rattle.std.specs.Int.{int_wrap, w128}
use Rattle.std.specs.List.{filter}
use Rattle.cf_model.specs.Common.{Day, Entry, Basis, LineNumbers, Gov as GovBasis, is_before, estimated_by}
use Rattle.cf_journal_book.specs.Watching.{Posted, all_posted}
use Rattle.cf_budget.specs.declared.row.Row.{Row}
use Rattle.cf_budget.specs.Tables.{room_of, row_plus, zero_row}
use Rattle.cf_calls.specs.declared.read.Basis.TheVariants.{Fund as FundBasis}
use Rattle.cf_chart.specs.Common.{Plan}
use Rattle.cf_ledger.specs.declared.post.Post.{Post}
use Rattle.cf_ledger.specs.Posts.{balance, is_in_total, sum_where, total}
use Rattle.cf_registers.specs.Moved.{moved_by}
use Rattle.cf_statements.specs.Sums.{Sums}

-- whether a day comes no later than the one that is asked for
abbrev pub is_through : Day → Day → Bool
is_through day on = not (is_before day on)

-- the entries that are dated through a day
abbrev pub dated_through : Day → List Posted → List Posted
dated_through day posted = filter (λ x. is_through day x.entry.change.on) posted

-- what entries post on the fund basis, and on the government-wide one
abbrev pub fund_posts : List Posted → List Post
fund_posts posted = flat_map (λ x. x.fund) posted

abbrev pub gov_posts : List Posted → List Post
gov_posts posted = flat_map (λ x. x.gov) posted

abbrev pub posts_by : Basis → List Posted → List Post
posts_by FundBasis posted = fund_posts posted
posts_by GovBasis posted = gov_posts posted

-- what entries change of a line and year, each over the registers before it
abbrev pub moved_in : Plan → ℕ → ℕ → List Posted → Row
moved_in plan line year [] = zero_row
moved_in plan line year (x ∷ posted) =
    row_plus (moved_by plan x.before x.entry.change.on x.entry.change.act line year)
    (moved_in plan line year posted)

-- numbers as 128 bits hold them: each is itself wherever it fits
abbrev pub held_row : Row → Row
held_row r = record {
  original = int_wrap w128 r.original;
  appropriated = int_wrap w128 r.appropriated;
  held = int_wrap w128 r.held;
  encumbered = int_wrap w128 r.encumbered;
  expended = int_wrap w128 r.expended;
}

abbrev pub held_numbers : Row → LineNumbers
held_numbers r = record {
  original = int_wrap w128 r.original;
  appropriated = int_wrap w128 r.appropriated;
  held = int_wrap w128 r.held;
  encumbered = int_wrap w128 r.encumbered;
  expended = int_wrap w128 r.expended;
  room = int_wrap w128 (room_of r);
}

abbrev pub estimate_in : ℕ → ℕ → List Posted → ℕ
estimate_in source year posted = sum_by (λ x. estimated_by source year x.entry.change.act) posted

-- a fund's accounts below 300000, through a fiscal year
abbrev pub fund_balance_in : ℕ → ℕ → List Post → ℤ
fund_balance_in year fund posts =
    sum_where (λ p. ((p.fund == fund) && is_in_total p) && nat_le p.year year) posts

-- the sums that statements are made of; government-wide posts are of fund 0
abbrev pub sums_in : Plan → List Posted → Sums
sums_in plan posted = record {
  through = λ year fund account. balance (fund_posts posted) year fund account;
  fund_balance = λ year fund. fund_balance_in year fund (fund_posts posted);
  total = λ year. total (fund_posts posted) year;
  gov = λ year account. balance (gov_posts posted) year 0 account;
  net_position = λ year. total (gov_posts posted) year;
  numbers = λ line year. held_numbers (moved_in plan line year posted);
  estimate = λ year source. estimate_in source year posted;
}

-- the entries of a history that are dated through a day, and their sums
abbrev pub seen_through : Plan → Day → List Entry → List Posted
seen_through plan day history = dated_through day (all_posted plan history)

abbrev pub sums_through : Plan → Day → List Entry → Sums
sums_through plan day history = sums_in plan (seen_through plan day history)
