-- The kinds of entry and of movement, each by its number: a call's stands in the table of calls.
use Rattle.std.specs.Prelude.{ℕ, ◌==◌, Bool, true, not, List, [], ◌∷◌, Option, option_map, find}
use Rattle.cf_calls.specs.declared.acts.FundMoveKind.{FundMoveKind}
use Rattle.cf_calls.specs.declared.acts.FundMoveKind.TheVariants as move
use Rattle.cf_calls.specs.declared.kind.ActKind.{ActKind}
use Rattle.cf_calls.specs.declared.kind.ActKind.TheVariants.{Lease}
use Rattle.cf_calls.specs.Common.{kind_code, kind_value}
use Rattle.cf_codec_fields.specs.Formats.{Format, converted, kept}
use Rattle.cf_codec_fields.specs.Fields.{byte}

abbrev pub kind : Format ActKind
kind = converted kind_value kind_code byte

-- a lease is of version 2 of the grammar alone, and every other kind of both
abbrev pub is_of : ℕ → ActKind → Bool
is_of version Lease = not (version == 1)
is_of version _ = true

abbrev pub kind_in : ℕ → Format ActKind
kind_in version = kept (is_of version) kind

-- the value of a number in a table
abbrev pub value_in : {A : Type 0} → List (ℕ × A) → ℕ → Option A
value_in table n = option_map (λ p. p.1) (find (λ p. n == p.0) table)

-- how cash moves between two funds
abbrev pub moves : List (ℕ × FundMoveKind)
moves = (0, move.Transfer) ∷ (1, move.Loan) ∷ (2, move.Repay) ∷ []

unfoldable pub move_value : ℕ → Option FundMoveKind
move_value n = value_in moves n

abbrev pub move_code : FundMoveKind → ℕ
move_code move.Transfer = 0
move_code move.Loan = 1
move_code move.Repay = 2

abbrev pub move_kind : Format FundMoveKind
move_kind = converted move_value move_code byte
