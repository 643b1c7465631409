-- The limits that all books keep to.
use Rattle.std.specs.Prelude.{ℕ}

-- the last year of a day that a call may state (own rule)
abbrev pub last_year : ℕ
last_year = 2199

-- the last fiscal year: a day of the last year may be of the fiscal year that ends in the next one
abbrev pub last_fiscal_year : ℕ
last_fiscal_year = 2200

-- the most entries that a history may have (own rule)
abbrev pub most_entries : ℕ
most_entries = 1500000

-- the most cents of one amount (own rule)
abbrev pub most_cents : ℕ
most_cents = 10000000000000
