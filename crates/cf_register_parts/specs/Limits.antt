-- What all entries of a history can come to, whatever they are.
use Rattle.std.specs.Prelude.{ℕ, ◌*◌}
use Rattle.cf_base.specs.Common.{most_entries, most_cents}

-- the most items that vouchers have, at 32 an entry
abbrev pub most_items : ℕ
most_items = 32 * most_entries

-- the most cents of all items
abbrev pub most_total : ℕ
most_total = most_items * most_cents

-- the most cents of all items, in each of the fiscal years from 1970 to 2200
abbrev pub most_in_years : ℕ
most_in_years = 231 * most_total
