-- Tables of accounts: the rows that they make, and what their accounts come to. A row of a table is
-- the side, the label and the code of an account.
use Rattle.std.specs.Prelude.{ℕ, ℤ, pos, ◌+ℤ◌, List, [], ◌∷◌, map, neg_ℤ}
use Rattle.cf_calls.specs.declared.reply.Row.{Row}
use Rattle.cf_statements.specs.declared.tables.AccountRow.{AccountRow}
use Rattle.cf_statements.specs.declared.tables.Balances.{Balances}
use Rattle.cf_statements.specs.declared.tables.Balances.TheVariants as of
use Rattle.cf_statements.specs.declared.tables.Side.{Side}
use Rattle.cf_statements.specs.declared.tables.Side.TheVariants as side
use Rattle.cf_statements.specs.Sums.{Sums, in_year, single}

-- a debit is shown as it stands, and a credit with its sign turned
abbrev pub shown : Side → ℤ → ℤ
shown side.Debit balance = balance
shown side.Credit balance = neg_ℤ balance

-- the rows of a table, by the balances of its accounts
abbrev pub rows_of : (ℕ → ℤ) → List AccountRow → List Row
rows_of balance table = map (λ r. single (r.1).now (shown r.0 (balance r.2))) table

-- what these balances come to, debits positive
abbrev pub total_of : (ℕ → ℤ) → List AccountRow → ℤ
total_of balance [] = pos 0
total_of balance (r ∷ table) = balance r.2 +ℤ total_of balance table

-- the balances that a table is of
abbrev pub balance : Sums → ℕ → Balances → ℕ → ℤ
balance sums year (of.Fund fund) = sums.through year fund
balance sums year (of.FundInYear fund) = in_year sums year fund
balance sums year of.Gov = sums.gov year
