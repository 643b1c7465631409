-- Where no entry is dated later, what a history comes to through a day is what it comes to.
use Rattle.std.proofs.Common.{◌≡◌, ℕ, ◌+◌, ◌<◌, ◌≤◌, FitsSigned, true, cond, List, [], ◌∷◌, ◌++◌, length, refl, sym, ap, ◌∙◌, arith}
use Rattle.cf_base.proofs.Common.{w128, AllByRecursion, int_wrap_fits, ints, sum_by-cons}
use Rattle.cf_model.specs.Common.{Day, Entry, Gov as GovBasis, estimate, estimated_by, act_posts, posts_after, posts_in, Registers, no_registers, registers_step, sums_of, Adds, IsLegal}
use Rattle.cf_journal_book.proofs.Watched.{posted_push}
use Rattle.cf_journal_book.specs.Watching.{Posted, all_posted, next_posted, posted_after, posted_over}
use Rattle.cf_base.specs.Common.{most_entries}
use Rattle.cf_budget.specs.declared.row.Row.{Row}
use Rattle.cf_budget.specs.Tables.{Fits, numbers_of, room_of, row_plus}
use Rattle.cf_budget.proofs.Rows.{fit_held}
use Rattle.cf_calls.specs.declared.read.Basis.TheVariants.{Fund as FundBasis}
use Rattle.cf_chart.specs.Common.{Plan}
use Rattle.cf_ledger.specs.Posts.{balance, total}
use Rattle.cf_model.proofs.Common.{legal_induction, legal_push}
use Rattle.cf_office_history.proofs.Numbers.{numbers_are_of}
use Rattle.cf_registers.specs.Moved.{row_of}
use Rattle.cf_office.proofs.Tied.{row_fits, row_push}
use Rattle.cf_books_days.specs.Through.{dated_through, estimate_in, held_numbers, fund_balance_in, fund_posts, gov_posts, is_through, moved_in, seen_through, sums_in}
use Rattle.cf_books_days.proofs.Pushed.{moved_append, moved_one}

-- ---- all entries

fund_after : (plan : Plan) (s : Registers) (n : ℕ) (h : List Entry) → fund_posts (posted_after plan s n h) ≡ posts_after FundBasis plan s h
fund_after plan s n [] = refl
fund_after plan s n (e ∷ h) = ap (λ t. act_posts FundBasis plan s e.change.on e.change.act ++ t) (fund_after plan (registers_step plan s e) (n + 1) h)

gov_after : (plan : Plan) (s : Registers) (n : ℕ) (h : List Entry) → gov_posts (posted_after plan s n h) ≡ posts_after GovBasis plan s h
gov_after plan s n [] = refl
gov_after plan s n (e ∷ h) = ap (λ t. act_posts GovBasis plan s e.change.on e.change.act ++ t) (gov_after plan (registers_step plan s e) (n + 1) h)

-- what all entries post is what the history posts
pub fund_all : (plan : Plan) (h : List Entry) → fund_posts (all_posted plan h) ≡ posts_in FundBasis plan h
fund_all plan h = fund_after plan no_registers 1 h

pub gov_all : (plan : Plan) (h : List Entry) → gov_posts (all_posted plan h) ≡ posts_in GovBasis plan h
gov_all plan h = gov_after plan no_registers 1 h

estimate_after : (plan : Plan) (s : Registers) (n source year : ℕ) (h : List Entry) → estimate_in source year (posted_after plan s n h) ≡ estimate source year h
estimate_after plan s n source year [] = refl
estimate_after plan s n source year (e ∷ h) =
    sum_by-cons (λ (x : Posted). estimated_by source year x.entry.change.act) (posted_over plan s n e) (posted_after plan (registers_step plan s e) (n + 1) h)
    ∙ ap (λ m. estimated_by source year e.change.act + m) (estimate_after plan (registers_step plan s e) (n + 1) source year h)
    ∙ sym (sum_by-cons (λ (x : Entry). estimated_by source year x.change.act) e h)

pub estimate_all : (plan : Plan) (source year : ℕ) (h : List Entry) → estimate_in source year (all_posted plan h) ≡ estimate source year h
estimate_all plan source year h = estimate_after plan no_registers 1 source year h

record IsMoved (plan : Plan) (h : List Entry) : Type 0 where
  pub legal : IsLegal plan h
  pub rows : (line year : ℕ) → moved_in plan line year (all_posted plan h) ≡ row_of plan h line year

-- what all entries of a legal history change of a line and year is its row
pub moved_all : (plan : Plan) (h : List Entry) → IsLegal plan h → (line year : ℕ) → moved_in plan line year (all_posted plan h) ≡ row_of plan h line year
moved_all plan h legal = (legal_induction plan (IsMoved plan) (record { legal = tt; rows = λ line year. refl }) step h legal).rows
  where
    step : (h : List Entry) (e : Entry) → IsMoved plan h → Adds plan h e → IsMoved plan (h ++ e ∷ [])
    step h e is adds = record {
      legal = legal_push plan h e is.legal adds;
      rows = λ line year.
          ap (moved_in plan line year) (posted_push plan h e)
          ∙ moved_append plan line year (all_posted plan h) (next_posted plan h e ∷ [])
          ∙ (λ i. row_plus (is.rows line year i) (moved_one plan line year (next_posted plan h e) i))
          ∙ row_push plan h e line year is.legal adds;
    }

-- the sums of all entries are those of the history, but for how line numbers are held
pub sums_all : (plan : Plan) (h : List Entry) → sums_in plan (all_posted plan h) ≡ record (sums_of plan h) { numbers = (sums_in plan (all_posted plan h)).numbers }
sums_all plan h = λ i. record {
  through = λ year fund account. balance (fund_all plan h i) year fund account;
  fund_balance = λ year fund. fund_balance_in year fund (fund_all plan h i);
  total = λ year. total (fund_all plan h i) year;
  gov = λ year account. balance (gov_all plan h i) year 0 account;
  net_position = λ year. total (gov_all plan h i) year;
  numbers = (sums_in plan (all_posted plan h)).numbers;
  estimate = λ year source. estimate_all plan source year h i;
}

fits_room : (r : Row) → Fits r → FitsSigned w128 (room_of r)
fits_room r fits =
    let a = fits.sound.held in
    let b = fits.sound.encumbered in
    let c = fits.sound.expended in
    let d = fits.sound.room in
    let e = fits.appropriated in
    omega (arith, ints, a, b, c, d, e)

-- a row that fits is held as it is
held_is : (r : Row) → Fits r → held_numbers r ≡ numbers_of r
held_is r fits =
    let held = fit_held r fits in
    λ i. record {
      original = int_wrap_fits w128 r.original held.original i;
      appropriated = int_wrap_fits w128 r.appropriated held.appropriated i;
      held = int_wrap_fits w128 r.held held.held i;
      encumbered = int_wrap_fits w128 r.encumbered held.encumbered i;
      expended = int_wrap_fits w128 r.expended held.expended i;
      room = int_wrap_fits w128 (room_of r) (fits_room r fits) i;
    }

-- and at a line of the chart and a year that has numbers, so are they
pub numbers_all : (plan : Plan) (h : List Entry) → IsLegal plan h → length h ≤ most_entries → (line year : ℕ) → line < length plan.lines → year < 2201 →
    (sums_in plan (all_posted plan h)).numbers line year ≡ (sums_of plan h).numbers line year
numbers_all plan h legal few line year l y =
    ap held_numbers (moved_all plan h legal line year) ∙ held_is (row_of plan h line year) (row_fits plan h line year legal few l y) ∙ numbers_are_of plan h line year

-- ---- a day at or behind each entry's

keeps_after : (plan : Plan) (day : Day) (s : Registers) (n : ℕ) (h : List Entry) → AllByRecursion (λ e. is_through day e.change.on ≡ true) h → dated_through day (posted_after plan s n h) ≡ posted_after plan s n h
keeps_after plan day s n [] all = refl
keeps_after plan day s n (e ∷ h) all =
    ap (λ b. cond b (posted_over plan s n e ∷ dated_through day (posted_after plan (registers_step plan s e) (n + 1) h)) (dated_through day (posted_after plan (registers_step plan s e) (n + 1) h))) all.0
    ∙ ap (λ t. posted_over plan s n e ∷ t) (keeps_after plan day (registers_step plan s e) (n + 1) h all.1)

pub seen_all : (plan : Plan) (day : Day) (h : List Entry) → AllByRecursion (λ e. is_through day e.change.on ≡ true) h → seen_through plan day h ≡ all_posted plan h
seen_all plan day h all = keeps_after plan day no_registers 1 h all
