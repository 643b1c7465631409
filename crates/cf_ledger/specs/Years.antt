-- Rows of a cell for each fiscal year from 1970 to 2200.
use Rattle.std.specs.Prelude.{◌≡◌, ℕ, ◌+◌, ◌-◌, ◌≤◌, ◌==◌, ◌&&◌, Bool, List, length, take, set, get_or, replicate, ℤ, pos, ◌+ℤ◌, fold, FitsSigned}
use Rattle.std.specs.Int.{w128}
use Rattle.cf_base.specs.Common.{last_fiscal_year}
use Rattle.cf_ledger.specs.declared.post.Post.{Post}
use Rattle.cf_ledger.specs.Posts.{sum_where}

abbrev pub no_cells : List ℤ
no_cells = replicate 231 (pos 0)

-- the sum of the first so many cells
abbrev pub sum_of : ℕ → List ℤ → ℤ
sum_of n cells = fold ◌+ℤ◌ (pos 0) (take n cells)

-- the sum of the cells of the years up to this one
abbrev pub sum_through : List ℤ → ℕ → ℤ
sum_through cells year = sum_of (year - 1969) cells

abbrev pub cell_of : List ℤ → ℕ → ℤ
cell_of cells year = get_or cells (year - 1970) (pos 0)

-- cells to one of which, a year's, an amount may be added
pub record CanRaise (cells : List ℤ) (year : ℕ) (amount : ℤ) : Type 0 where
  pub count : length cells ≡ 231
  pub first : 1970 ≤ year
  pub last : year ≤ last_fiscal_year
  pub fits : FitsSigned w128 (cell_of cells year +ℤ amount)

-- the cells with an amount added to that of a year
abbrev pub raised : List ℤ → ℕ → ℤ → List ℤ
raised cells year amount = set cells (year - 1970) (cell_of cells year +ℤ amount)

-- each cell is the sum of its year's posts that pass a test, where a missing one reads as zero
abbrev pub StandsFor : (Post → Bool) → List Post → List ℤ → Type 0
StandsFor test posts cells = (k : ℕ)
    → get_or cells k (pos 0) ≡ sum_where (λ p. test p && (p.year == k + 1970)) posts
