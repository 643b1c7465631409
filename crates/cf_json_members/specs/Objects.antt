-- JSON values, as replies are made of them.
use Rattle.std.specs.Prelude.{ℕ, ◌+◌, zero, suc, ℤ, List, [], ◌∷◌, ◌++◌, map, decimal}
use Rattle.std.specs.Fmt.{signed_decimal}
use Rattle.json.specs.Print.{quoted}
use Rattle.serde_json.specs.Data.{Data, number, unsigned, string, array, object, Items, no_items, item, Members, no_members, member}
use Rattle.serde_json.specs.View.{items_of}
use Rattle.serde_json.specs.Written.{compact_text}
use Rattle.cf_base.specs.Calendar as calendar
use Rattle.cf_base.specs.declared.calendar.Day.{Day}
use Rattle.cf_base.specs.declared.calendar.Month.{Month}

-- a whole number
abbrev pub count : ℕ → Data
count n = number (unsigned n)

-- a whole number of cents, as a text
abbrev pub cents : ℕ → Data
cents n = string (decimal n)

abbrev pub signed_cents : ℤ → Data
signed_cents z = string (signed_decimal z)

abbrev pub day : Day → Data
day d = string (calendar.day_text d)

abbrev pub month : Month → Data
month m = string (calendar.month_text m)

abbrev pub members : List (List ℕ × Data) → Members
members [] = no_members
members (f ∷ fs) = member f.0 f.1 (members fs)

-- an object of these fields, whose names stand in rising order
abbrev pub fields : List (List ℕ × Data) → Data
fields fs = object (members fs)

-- the elements as an array
abbrev pub list_of : {A : Type 0} → (A → Data) → List A → Data
list_of f xs = array (items_of (map f xs))

-- `count` numbers from `first` on
abbrev pub numbers_from : ℕ → ℕ → Items
numbers_from first zero = no_items
numbers_from first (suc n) = item (count first) (numbers_from (first + 1) n)

-- the text of a value, with no blank between its parts
unfoldable pub text_of : Data → List ℕ
text_of d = compact_text d

-- the text of an object of two fields, up to the second one's value
abbrev pub head_text : List ℕ → Data → List ℕ → List ℕ
head_text first value second =
    123 ∷ (quoted first ++ 58 ∷ (text_of value ++ 44 ∷ (quoted second ++ 58 ∷ [])))
