-- Rows of cells, by a fund and an account.
use Rattle.std.specs.Prelude.{◌≡◌, ℕ, Bool, true, if◌then◌else◌, ◌==◌, ◌&&◌, List, [], length, get_or, Option, Some, None, is_some, ℤ, pos}
use Rattle.std.specs.Global.{Vec}
use Rattle.std.specs.Ordering.{nat_cmp, ordering_then}
use Rattle.std.specs.declared.cmp.Ordering.{Ordering}
use Rattle.std.specs.Map.{lookup}
use Rattle.std.specs.BTreeMap.{is_at}
use Rattle.cf_ledger.specs.declared.places.Place.{Place}

abbrev pub Rows : Type 0
Rows = List (Place × Vec ℤ)

-- by fund, and then by account
abbrev pub place_cmp : Place → Place → Ordering
place_cmp a b = ordering_then (nat_cmp a.fund b.fund) (nat_cmp a.account b.account)

abbrev pub row_where : Rows → Place → Option (Vec ℤ)
row_where rows place = lookup (is_at (place_cmp place)) rows

abbrev pub row_of : Rows → ℕ → ℕ → Option (Vec ℤ)
row_of rows fund account = row_where rows (record { fund = fund; account = account })

abbrev pub has_row : Rows → ℕ → ℕ → Bool
has_row rows fund account = is_some (row_of rows fund account)

abbrev pub cells_of : Option (Vec ℤ) → List ℤ
cells_of None = []
cells_of (Some row) = row.items

-- the cells of an account of a fund, none where it has no row
abbrev pub cells_at : Rows → ℕ → ℕ → List ℤ
cells_at rows fund account = cells_of (row_of rows fund account)

-- each row has a cell for each year
abbrev pub AreCounted : Rows → Type 0
AreCounted rows = (fund account : ℕ) → has_row rows fund account ≡ true
    → length (cells_at rows fund account) ≡ 231

-- no row goes
abbrev pub KeepsRows : Rows → Rows → Type 0
KeepsRows old new = (fund account : ℕ) → has_row old fund account ≡ true
    → has_row new fund account ≡ true

-- no row comes or goes
abbrev pub SameRows : Rows → Rows → Type 0
SameRows old new = (fund account : ℕ) → has_row new fund account ≡ has_row old fund account

-- each cell reads the same, where a missing one reads as zero
abbrev pub ReadsSame : Rows → Rows → Type 0
ReadsSame old new = (fund account k : ℕ)
    → get_or (cells_at new fund account) k (pos 0) ≡ get_or (cells_at old fund account) k (pos 0)

-- the cells of this fund and account are those given, and the others stay
abbrev pub PutsCells : Rows → Rows → ℕ → ℕ → List ℤ → Type 0
PutsCells old new fund account cells =
    (f a : ℕ) → cells_at new f a
    ≡ (if (fund == f) && (account == a) then cells else cells_at old f a)
