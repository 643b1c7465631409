-- Amounts by fiscal year, one after another.
use Rattle.std.specs.Prelude.{◌≡◌, ℕ, zero, suc, ◌+◌, ◌-◌, ◌<◌, List, length, take, set, slice_index_or, sum, replicate}

-- nothing in each year
abbrev pub no_years : List ℕ
no_years = replicate 231 0

-- the sum of the first so many years
abbrev pub sum_of : ℕ → List ℕ → ℕ
sum_of n cells = sum (take n cells)

-- ---- where the first cell is that of 1970

-- the amount of a year
abbrev pub cell_of : List ℕ → ℕ → ℕ
cell_of cells year = slice_index_or cells (year - 1970) 0

-- another amount for a year
abbrev pub with_cell : List ℕ → ℕ → ℕ → List ℕ
with_cell cells year amount = set cells (year - 1970) amount

-- the sum of the years up to a year
abbrev pub sum_through : ℕ → List ℕ → ℕ
sum_through year cells = sum_of (year - 1969) cells

-- the sum of what so many years from 1970 on have
abbrev pub sum_to : (ℕ → ℕ) → ℕ → ℕ
sum_to of zero = 0
sum_to of (suc n) = sum_to of n + of (n + 1970)

-- each cell is what its year has
pub record AreYears (of : ℕ → ℕ) (cells : List ℕ) : Type 0 where
  pub count : length cells ≡ 231
  pub are : (n : ℕ) → n < 231 → slice_index_or cells n 0 ≡ of (n + 1970)
