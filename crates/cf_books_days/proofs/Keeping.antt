-- The posts of the entries that are dated through a day are those whose entries are.
use Rattle.std.proofs.Common.{◌≡◌, ℕ, ◌+◌, ◌-◌, Bool, true, false, cond, List, [], ◌∷◌, ◌++◌, length, Some, slice_get, refl, sym, ap, ◌∙◌, append_assoc, length-append, arith}
use Rattle.cf_base.proofs.Common.{filter-append}
use Rattle.cf_model.specs.Common.{Day, Entry, Basis, Gov as GovBasis, Registers, no_registers, registers_step}
use Rattle.cf_journal_book.specs.Watching.{Posted, all_posted, posted_after, posted_over}
use Rattle.cf_calls.specs.declared.read.Basis.TheVariants.{Fund as FundBasis}
use Rattle.cf_chart.specs.Common.{Plan}
use Rattle.cf_ledger.specs.declared.post.Post.{Post}
use Rattle.cf_books_lists.specs.declared.posts.PlacedPost.{PlacedPost}
use Rattle.cf_books_lists.specs.Posts.{placed, placed_in, placed_of}
use Rattle.cf_books_days.specs.Posts.{is_dated, kept}
use Rattle.cf_books_days.specs.Through.{dated_through, is_through, seen_through}

at_length : (before : List Entry) (e : Entry) (later : List Entry) → slice_get (before ++ e ∷ later) (length before) ≡ Some e
at_length [] e later = refl
at_length (x ∷ before) e later = at_length before e later

one_back : (n : ℕ) → (n + 1) - 1 ≡ n
one_back n = omega arith

module _ (day : Day) (history : List Entry) (place : ℕ) (b : Bool) (is : is_dated day (slice_get history (place - 1)) ≡ b) where
  keeps_placed : (on : Basis) (posts : List Post) → kept day history (placed place on posts) ≡ cond b (placed place on posts) []
  keeps_placed on [] = by_test b
    where
      by_test : (c : Bool) → [] ≡ cond c (placed place on []) []
      by_test true = refl
      by_test false = refl
  keeps_placed on (p ∷ posts) =
      ap (λ c. cond c (record { place = place; basis = on; post = p } ∷ kept day history (placed place on posts)) (kept day history (placed place on posts))) is
      ∙ by_test b (keeps_placed on posts)
    where
      by_test : (c : Bool) → kept day history (placed place on posts) ≡ cond c (placed place on posts) [] →
          cond c (record { place = place; basis = on; post = p } ∷ kept day history (placed place on posts)) (kept day history (placed place on posts)) ≡ cond c (placed place on (p ∷ posts)) []
      by_test true later = ap (λ t. record { place = place; basis = on; post = p } ∷ t) later
      by_test false later = later

  keeps_of : (x : Posted) → x.place ≡ place → kept day history (placed_of x) ≡ cond b (placed_of x) []
  keeps_of x same =
      ap (λ n. kept day history (placed n FundBasis x.fund ++ placed n GovBasis x.gov)) same
      ∙ filter-append (λ (y : PlacedPost). is_dated day (slice_get history (y.place - 1))) (placed place FundBasis x.fund) (placed place GovBasis x.gov)
      ∙ (λ i. keeps_placed FundBasis x.fund i ++ keeps_placed GovBasis x.gov i)
      ∙ by_test b
      ∙ ap (λ n. cond b (placed n FundBasis x.fund ++ placed n GovBasis x.gov) []) (sym same)
    where
      by_test : (c : Bool) → cond c (placed place FundBasis x.fund) [] ++ cond c (placed place GovBasis x.gov) [] ≡ cond c (placed place FundBasis x.fund ++ placed place GovBasis x.gov) []
      by_test true = refl
      by_test false = refl

kept_after : (plan : Plan) (day : Day) (before : List Entry) (s : Registers) (n : ℕ) (h : List Entry) → n ≡ length before + 1 →
    kept day (before ++ h) (placed_in (posted_after plan s n h)) ≡ placed_in (dated_through day (posted_after plan s n h))
kept_after plan day before s n [] same = refl
kept_after plan day before s n (e ∷ h) same =
    filter-append (λ (y : PlacedPost). is_dated day (slice_get (before ++ e ∷ h) (y.place - 1))) (placed_of (posted_over plan s n e)) (placed_in (posted_after plan (registers_step plan s e) (n + 1) h))
    ∙ (λ i. here i ++ (grown ∙ kept_after plan day (before ++ e ∷ []) (registers_step plan s e) (n + 1) h more) i)
    ∙ by_test (is_through day e.change.on)
  where
    there : is_dated day (slice_get (before ++ e ∷ h) (n - 1)) ≡ is_through day e.change.on
    there = ap (λ m. is_dated day (slice_get (before ++ e ∷ h) m)) (ap (λ m. m - 1) same ∙ one_back (length before)) ∙ ap (is_dated day) (at_length before e h)

    here : kept day (before ++ e ∷ h) (placed_of (posted_over plan s n e)) ≡ cond (is_through day e.change.on) (placed_of (posted_over plan s n e)) []
    here = keeps_of day (before ++ e ∷ h) n (is_through day e.change.on) there (posted_over plan s n e) refl

    more : n + 1 ≡ length (before ++ e ∷ []) + 1
    more = let one : length (before ++ e ∷ []) ≡ length before + 1 = length-append before (e ∷ []) in omega (arith, same, one)

    grown : kept day (before ++ e ∷ h) (placed_in (posted_after plan (registers_step plan s e) (n + 1) h)) ≡ kept day ((before ++ e ∷ []) ++ h) (placed_in (posted_after plan (registers_step plan s e) (n + 1) h))
    grown = ap (λ (x : List Entry). kept day x (placed_in (posted_after plan (registers_step plan s e) (n + 1) h))) (sym (append_assoc before (e ∷ []) h))

    by_test : (b : Bool) →
        cond b (placed_of (posted_over plan s n e)) [] ++ placed_in (dated_through day (posted_after plan (registers_step plan s e) (n + 1) h))
        ≡ placed_in (cond b (posted_over plan s n e ∷ dated_through day (posted_after plan (registers_step plan s e) (n + 1) h)) (dated_through day (posted_after plan (registers_step plan s e) (n + 1) h)))
    by_test true = refl
    by_test false = refl

pub kept_is : (plan : Plan) (day : Day) (h : List Entry) → kept day h (placed_in (all_posted plan h)) ≡ placed_in (seen_through plan day h)
kept_is plan day h = kept_after plan day [] no_registers 1 h refl
