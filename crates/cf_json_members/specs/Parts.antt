-- What is written without taking memory: the values of an object's fields.
use Rattle.std.specs.Prelude.{ℕ, ◌+◌, ◌&&◌, ◌==◌, Bool, true, not, nat_lt, List, [], ◌∷◌, length}
use Rattle.std.specs.Borrow.{Bor}
use Rattle.std.specs.List.{list_all}
use Rattle.serde_json.specs.Data.{Data, string, boolean}
use Rattle.cf_json_members.specs.declared.parts.Part.{Part}
use Rattle.cf_json_members.specs.declared.parts.Part.TheVariants.{Number, Cents, Signed, Date, YearMonth, Word, True}
use Rattle.cf_json_members.specs.Objects.{count, cents, signed_cents, day, month}

abbrev pub part_data : Part → Data
part_data (Number n) = count n
part_data (Cents n) = cents n
part_data (Signed z) = signed_cents z
part_data (Date d) = day d
part_data (YearMonth m) = month m
part_data (Word w) = string w.now
part_data True = boolean true

-- a byte that stands for itself in a JSON text
abbrev pub is_plain : ℕ → Bool
is_plain c = nat_lt 31 c && not (c == 34) && not (c == 92)

abbrev pub is_plain_part : Part → Bool
is_plain_part (Word w) = list_all is_plain w.now
is_plain_part _ = true

abbrev pub is_plain_field : Bor (List ℕ) × Part → Bool
is_plain_field f = list_all is_plain (f.0).now && is_plain_part f.1

-- the fields that parts are
abbrev pub fields_of : List (Bor (List ℕ) × Part) → List (List ℕ × Data)
fields_of [] = []
fields_of (f ∷ fs) = ((f.0).now, part_data f.1) ∷ fields_of fs

-- at most how many bytes a part takes
abbrev pub part_room : Part → ℕ
part_room (Number n) = 20
part_room (Cents n) = 22
part_room (Signed z) = 42
part_room (Date d) = 12
part_room (YearMonth m) = 9
part_room (Word w) = length w.now + 2
part_room True = 4

-- with its name, two quotation marks, a colon and a comma
abbrev pub field_room : Bor (List ℕ) × Part → ℕ
field_room f = length (f.0).now + part_room f.1 + 4

abbrev pub fields_room : List (Bor (List ℕ) × Part) → ℕ
fields_room [] = 0
fields_room (f ∷ fs) = field_room f + fields_room fs
