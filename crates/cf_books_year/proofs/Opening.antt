-- The trial balance of a year alone balances, where that through the year does and that through the
-- year before.
use Rattle.std.proofs.Common.{◌≡◌, ◌<◌, ◌+◌, ◌∙◌, ◌+ℤ◌, ◌-ℤ◌, ◌-◌, ℕ, ℤ, pos, Bool, true, false, if◌then◌else◌, List, [], ◌∷◌, sym, ap, arith, add-one, drop, drop-cons, get_or, length}
use Rattle.cf_base.proofs.Common.{ints}
use Rattle.cf_model_articulation.specs.TrialBalances.{Balances, fund_accounts, gov_accounts}
use Rattle.cf_model.specs.Common.{Entry, Basis, Gov as GovBasis, balance_of, int_sum}
use Rattle.cf_calls.specs.declared.read.Basis.TheVariants.{Fund as FundBasis}
use Rattle.cf_chart.specs.Common.{Plan}
use Rattle.cf_books_year.specs.YearBalances.{YearBalances, goes_on, kept_balance, year_balance, year_sum}

one_year : (b : Bool) (now was : ℤ) (rest all before kept : ℤ) → rest ≡ (all -ℤ before) +ℤ kept
    → (if b then now else now -ℤ was) +ℤ rest ≡ ((now +ℤ all) -ℤ (was +ℤ before)) +ℤ ((if b then was else pos 0) +ℤ kept)
one_year true now was rest all before kept is = omega (arith, ints, is)
one_year false now was rest all before kept is = omega (arith, ints, is)

-- the year alone is what is through it less what was through the year before, but for the accounts
-- that go on
split : (basis : Basis) (plan : Plan) (year fund : ℕ) (h : List Entry) (accounts : List ℕ) →
    int_sum (year_balance basis plan year fund h) accounts
    ≡ (int_sum (λ a. balance_of basis plan year fund a h) accounts -ℤ int_sum (λ a. balance_of basis plan (year - 1) fund a h) accounts)
    +ℤ int_sum (kept_balance basis plan (year - 1) fund h) accounts
split basis plan year fund h [] = omega (arith, ints)
split basis plan year fund h (a ∷ accounts) =
    one_year (goes_on a) (balance_of basis plan year fund a h) (balance_of basis plan (year - 1) fund a h) _ _ _ _ (split basis plan year fund h accounts)

none_left : (sum now was kept : ℤ) → sum ≡ (now -ℤ was) +ℤ kept → now ≡ pos 0 → was ≡ pos 0 → (pos 0 -ℤ kept) +ℤ sum ≡ pos 0
none_left sum now was kept is none before = omega (arith, ints, is, none, before)

closes : (basis : Basis) (plan : Plan) (year fund : ℕ) (h : List Entry) (accounts : List ℕ) → int_sum (λ a. balance_of basis plan year fund a h) accounts ≡ pos 0
    → int_sum (λ a. balance_of basis plan (year - 1) fund a h) accounts ≡ pos 0 → year_sum basis plan year fund h accounts ≡ pos 0
closes basis plan year fund h accounts none before = none_left _ _ _ _ (split basis plan year fund h accounts) none before

pub year_balances : (plan : Plan) (h : List Entry) (year : ℕ) → Balances plan h year → Balances plan h (year - 1) → YearBalances plan h year
year_balances plan h year is was = record {
  funds = λ fund. closes FundBasis plan year fund h (fund_accounts plan fund) (is.funds fund) (was.funds fund);
  whole = closes GovBasis plan year 0 h (gov_accounts plan) is.whole was.whole;
}

-- one account more of a sum
pub kept_more : (f : ℕ → ℤ) (old new all : ℤ) (xs : List ℕ) (i : ℕ) → i < length xs → new ≡ old +ℤ f (get_or xs i 0) → old +ℤ int_sum f (drop i xs) ≡ all
    → new +ℤ int_sum f (drop (i + 1) xs) ≡ all
kept_more f old new all xs i below put was =
    let cut : drop i xs ≡ get_or xs i 0 ∷ drop (i + 1) xs = rw add-one (drop-cons xs i 0 below) in
    added old new (f (get_or xs i 0)) (int_sum f (drop (i + 1) xs)) all put (ap (λ ys. old +ℤ int_sum f ys) (sym cut) ∙ was)
  where
    added : (old new amount rest all : ℤ) → new ≡ old +ℤ amount → old +ℤ (amount +ℤ rest) ≡ all → new +ℤ rest ≡ all
    added old new amount rest all put was = omega (arith, ints, put, was)
