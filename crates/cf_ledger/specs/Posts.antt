-- Posts, and what they come to on a basis of accounting (GASB Statement 34).
use Rattle.std.specs.Prelude.{ℕ, ◌≤◌, Bool, if◌then◌else◌, ◌==◌, ◌&&◌, nat_lt, nat_le, List, [], ◌∷◌, ℤ, pos, ◌+ℤ◌, unsigned_abs, sum_by}
use Rattle.cf_base.specs.Common.{last_fiscal_year}
use Rattle.cf_ledger.specs.declared.post.Post.{Post}

-- the sum of the amounts of the posts that pass a test
abbrev pub sum_where : (Post → Bool) → List Post → ℤ
sum_where test [] = pos 0
sum_where test (p ∷ posts) = (if test p then p.amount else pos 0) +ℤ sum_where test posts

abbrev pub is_of : ℕ → ℕ → Post → Bool
is_of fund account p = (p.fund == fund) && (p.account == account)

-- the accounts that make up fund balance and net position: assets, liabilities and unavailable
-- revenue (own rule: the codes below 300000)
abbrev pub is_in_total : Post → Bool
is_in_total p = nat_lt p.account 300000

-- the balance of an account of a fund through a fiscal year
abbrev pub balance : List Post → ℕ → ℕ → ℕ → ℤ
balance posts year fund account = sum_where (λ p. is_of fund account p && nat_le p.year year) posts

-- fund balance, or net position, of all funds through a fiscal year
abbrev pub total : List Post → ℕ → ℤ
total posts year = sum_where (λ p. is_in_total p && nat_le p.year year) posts

-- the sum of the amounts' sizes
abbrev pub sizes : List Post → ℕ
sizes posts = sum_by (λ p. unsigned_abs p.amount) posts

-- the fiscal years that posts are in
pub record IsInYears (p : Post) : Type 0 where
  pub first : 1971 ≤ p.year
  pub last : p.year ≤ last_fiscal_year
