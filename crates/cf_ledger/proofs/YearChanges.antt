-- What changes in a year is the year's cell.
use Rattle.std.proofs.Common.{◌≡◌, ℕ, ◌+◌, ◌-◌, ◌<◌, ◌≤◌, ◌⊎◌, inl, inr, Bool, ◌==◌, ◌&&◌, nat_le, List, ℤ, pos, ◌+ℤ◌, ◌-ℤ◌, sym, ap, ◌∙◌, arith, All}
use Rattle.cf_base.proofs.Common.{ints}
use Rattle.cf_ledger.specs.declared.post.Post.{Post}
use Rattle.cf_ledger.specs.Posts.{sum_where, IsInYears}
use Rattle.cf_ledger.specs.Years.{cell_of, StandsFor}
use Rattle.cf_ledger.proofs.Sums.{next_year, before_first}

-- what is through a year, less what is through the year before
pub year_change : (test : Post → Bool) (posts : List Post) (cells : List ℤ) (year : ℕ) (z : ℤ) → All IsInYears posts → StandsFor test posts cells → (year < 1970 → z ≡ pos 0) → (1970 ≤ year → z ≡ cell_of cells year) →
    z ≡ sum_where (λ p. test p && nat_le p.year year) posts -ℤ sum_where (λ p. test p && nat_le p.year (year - 1)) posts
year_change test posts cells year z years stands before value = by_size (split_at year)
  where
    split_at : (n : ℕ) → (n < 1970) ⊎ (1970 ≤ n)
    split_at n = grind arith

    none : (a b : ℤ) → a ≡ pos 0 → b ≡ pos 0 → pos 0 ≡ a -ℤ b
    none a b e f = omega (arith, ints, e, f)

    less : (a b c : ℤ) → a ≡ b +ℤ c → c ≡ a -ℤ b
    less a b c e = omega (arith, ints, e)

    by_size : (year < 1970) ⊎ (1970 ≤ year) → z ≡ sum_where (λ p. test p && nat_le p.year year) posts -ℤ sum_where (λ p. test p && nat_le p.year (year - 1)) posts
    by_size (inl l) = before l ∙ none _ _ (before_first test posts year (omega (arith, l)) years) (before_first test posts (year - 1) (omega (arith, l)) years)
    by_size (inr l) =
        let next : (year - 1) + 1 ≡ year = omega (arith, l) in
        let place : (year - 1970) + 1970 ≡ year = omega (arith, l) in
        value l
        ∙ stands (year - 1970)
        ∙ ap (λ y. sum_where (λ p. test p && (p.year == y)) posts) (place ∙ sym next)
        ∙ less _ _ _ (next_year test posts (year - 1))
        ∙ ap (λ y. sum_where (λ p. test p && nat_le p.year y) posts -ℤ sum_where (λ p. test p && nat_le p.year (year - 1)) posts) next
