-- What statements read of a history, and the rows that they are made of.
use Rattle.std.specs.Prelude.{ℕ, ℤ, pos, Bool, if◌then◌else◌, ◌-◌, ◌+ℤ◌, ◌-ℤ◌, List, [], ◌∷◌}
use Rattle.cf_calls.specs.declared.reply.Row.{Row}
use Rattle.cf_calls.specs.declared.shown.LineNumbers.{LineNumbers}

-- the sums of a history, the year first
pub record Sums : Type 0 where
  -- the balance of a fund's account through the year, debits positive (modified accrual basis)
  pub through : ℕ → ℕ → ℕ → ℤ
  -- the fund balance of a fund through the year
  pub fund_balance : ℕ → ℕ → ℤ
  -- all fund balances through the year
  pub total : ℕ → ℤ
  -- the balance of a government-wide account through the year, debits positive (accrual basis)
  pub gov : ℕ → ℕ → ℤ
  -- the net position through the year
  pub net_position : ℕ → ℤ
  -- the numbers of a control line in the year
  pub numbers : ℕ → ℕ → LineNumbers
  -- the estimate of a revenue source for the year
  pub estimate : ℕ → ℕ → ℕ

-- a row that is its label alone, and a row of one amount
abbrev pub heading : List ℕ → Row
heading name = record { label = name; amounts = [] }

abbrev pub single : List ℕ → ℤ → Row
single label amount = record { label = label; amounts = amount ∷ [] }

-- what the posts of the year alone come to, of a fund's account and of a government-wide one
abbrev pub in_year : Sums → ℕ → ℕ → ℕ → ℤ
in_year sums year fund account =
    sums.through year fund account -ℤ sums.through (year - 1) fund account

abbrev pub gov_in : Sums → ℕ → ℕ → ℤ
gov_in sums year account = sums.gov year account -ℤ sums.gov (year - 1) account

-- the sum of f over the elements that pass a test
abbrev pub sum_where : {A : Type 0} → (A → Bool) → (A → ℤ) → List A → ℤ
sum_where test f [] = pos 0
sum_where test f (x ∷ xs) = (if test x then f x else pos 0) +ℤ sum_where test f xs
