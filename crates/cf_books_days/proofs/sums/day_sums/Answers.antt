use Rattle.std.proofs.Common.{◌≡◌, ◌<◌, ◌^◌, ◌∙◌, ap, sym, subst, arith, List, All}
use Rattle.cf_journal_book.specs.Watching.{all_posted}
use Rattle.cf_ledger.specs.declared.post.Post.{Post}
use Rattle.cf_ledger.specs.Posts.{sizes, IsInYears}
use Rattle.cf_books_days.specs.Adoptions.{adoptions_through}
use Rattle.cf_books_days.specs.Gathered.{changed_through, posts_through}
use Rattle.cf_books_days.specs.Ledgers.{in_balance}
use Rattle.cf_books_days.specs.Through.{fund_posts, gov_posts, held_row, seen_through}
use Rattle.cf_books_days.proofs.Bounds.{fund_small, fund_years, gov_small, gov_years, in_balance_small, in_balance_years}
use Rattle.cf_books_days.proofs.Gathering.{fund_through, gov_through}
use Rattle.cf_books_days.proofs.sums.day_sums.Goals as goal

pub ledger_of-requires-clause-fund_years : goal.ledger_of-requires-clause-fund_years
ledger_of-requires-clause-fund_years c =
    let rest = c.args.rest.now in
    let day = c.args.day in
    let seen = seen_through rest.plan day rest.entries in
    let fund : c.in_ok-fund.fund.items ≡ fund_posts seen = c.in_ok-fund.ensures ∙ ap (posts_through day) (c.as_slice.ensures.value ∙ c.requires.fund) ∙ fund_through day (all_posted rest.plan rest.entries) in
    let e = c.entries-entries.ensures in
    subst (λ (ps : List Post). All IsInYears ps) (sym (c.as_slice-4.ensures.value ∙ fund)) (fund_years rest.plan day rest.entries e.whole e.legal)

pub ledger_of-requires-clause-gov_years : goal.ledger_of-requires-clause-gov_years
ledger_of-requires-clause-gov_years c =
    let rest = c.args.rest.now in
    let day = c.args.day in
    let seen = seen_through rest.plan day rest.entries in
    let gov : c.in_ok-gov.gov.items ≡ gov_posts seen = c.in_ok-gov.ensures ∙ ap (posts_through day) (c.as_slice-2.ensures.value ∙ c.requires.gov) ∙ gov_through day (all_posted rest.plan rest.entries) in
    let e = c.entries-entries.ensures in
    subst (λ (ps : List Post). All IsInYears ps) (sym (c.as_slice-5.ensures.value ∙ gov)) (gov_years rest.plan day rest.entries e.whole e.legal)

pub ledger_of-requires-clause-fund_fits : goal.ledger_of-requires-clause-fund_fits
ledger_of-requires-clause-fund_fits c =
    let rest = c.args.rest.now in
    let day = c.args.day in
    let seen = seen_through rest.plan day rest.entries in
    let fund : c.in_ok-fund.fund.items ≡ fund_posts seen = c.in_ok-fund.ensures ∙ ap (posts_through day) (c.as_slice.ensures.value ∙ c.requires.fund) ∙ fund_through day (all_posted rest.plan rest.entries) in
    let e = c.entries-entries.ensures in
    subst (λ (ps : List Post). sizes ps < 2 ^ 127) (sym (c.as_slice-4.ensures.value ∙ fund)) (omega (arith, fund_small rest.plan day rest.entries e.whole e.legal e.few))

pub ledger_of-requires-clause-gov_fits : goal.ledger_of-requires-clause-gov_fits
ledger_of-requires-clause-gov_fits c =
    let rest = c.args.rest.now in
    let day = c.args.day in
    let seen = seen_through rest.plan day rest.entries in
    let gov : c.in_ok-gov.gov.items ≡ gov_posts seen = c.in_ok-gov.ensures ∙ ap (posts_through day) (c.as_slice-2.ensures.value ∙ c.requires.gov) ∙ gov_through day (all_posted rest.plan rest.entries) in
    let e = c.entries-entries.ensures in
    subst (λ (ps : List Post). sizes ps < 2 ^ 127) (sym (c.as_slice-5.ensures.value ∙ gov)) (omega (arith, gov_small rest.plan day rest.entries e.whole e.legal e.few))

pub ledger_of-requires-2-clause-fund_years : goal.ledger_of-requires-2-clause-fund_years
ledger_of-requires-2-clause-fund_years c =
    let rest = c.args.rest.now in
    let day = c.args.day in
    let seen = seen_through rest.plan day rest.entries in
    let fund : c.in_ok-fund.fund.items ≡ fund_posts seen = c.in_ok-fund.ensures ∙ ap (posts_through day) (c.as_slice.ensures.value ∙ c.requires.fund) ∙ fund_through day (all_posted rest.plan rest.entries) in
    let totals : c.in_ok-totals.totals.items ≡ in_balance (fund_posts seen) = c.in_ok-totals.ensures ∙ ap in_balance (c.as_slice-3.ensures.value ∙ fund) in
    let e = c.entries-entries.ensures in
    subst (λ (ps : List Post). All IsInYears ps) (sym (c.as_slice-6.ensures.value ∙ totals)) (in_balance_years (fund_posts seen) (fund_years rest.plan day rest.entries e.whole e.legal))

pub ledger_of-requires-2-clause-fund_fits : goal.ledger_of-requires-2-clause-fund_fits
ledger_of-requires-2-clause-fund_fits c =
    let rest = c.args.rest.now in
    let day = c.args.day in
    let seen = seen_through rest.plan day rest.entries in
    let fund : c.in_ok-fund.fund.items ≡ fund_posts seen = c.in_ok-fund.ensures ∙ ap (posts_through day) (c.as_slice.ensures.value ∙ c.requires.fund) ∙ fund_through day (all_posted rest.plan rest.entries) in
    let totals : c.in_ok-totals.totals.items ≡ in_balance (fund_posts seen) = c.in_ok-totals.ensures ∙ ap in_balance (c.as_slice-3.ensures.value ∙ fund) in
    let e = c.entries-entries.ensures in
    subst (λ (ps : List Post). sizes ps < 2 ^ 127) (sym (c.as_slice-6.ensures.value ∙ totals)) (omega (arith, in_balance_small (fund_posts seen), fund_small rest.plan day rest.entries e.whole e.legal e.few))

pub invariant_of-result : goal.invariant_of-result
invariant_of-result c =
    let rest = c.args.rest.now in
    let day = c.args.day in
    let seen = seen_through rest.plan day rest.entries in
    let fund : c.in_ok-fund.fund.items ≡ fund_posts seen = c.in_ok-fund.ensures ∙ ap (posts_through day) (c.as_slice.ensures.value ∙ c.requires.fund) ∙ fund_through day (all_posted rest.plan rest.entries) in
    let gov : c.in_ok-gov.gov.items ≡ gov_posts seen = c.in_ok-gov.ensures ∙ ap (posts_through day) (c.as_slice-2.ensures.value ∙ c.requires.gov) ∙ gov_through day (all_posted rest.plan rest.entries) in
    let totals : c.in_ok-totals.totals.items ≡ in_balance (fund_posts seen) = c.in_ok-totals.ensures ∙ ap in_balance (c.as_slice-3.ensures.value ∙ fund) in
    record {
      fund = c.in_ok-ledger.ensures.fund ∙ c.as_slice-4.ensures.value ∙ fund;
      gov = c.in_ok-ledger.ensures.gov ∙ c.as_slice-5.ensures.value ∙ gov;
      in_balance = c.in_ok-balances.ensures.fund ∙ c.as_slice-6.ensures.value ∙ totals;
      numbers = λ line year. c.in_ok-lines.ensures line year ∙ ap held_row (ap (changed_through day line year) c.as_slice-7.ensures.value ∙ c.requires.changes day line year);
      adopted = c.in_ok-adoptions.ensures ∙ ap (adoptions_through day) c.entries-entries.ensures.value;
    }
