-- A statement as text: a title line, and a line for each row.
use Rattle.std.specs.Prelude.{ℕ, ℤ, ◌-◌, List, [], ◌∷◌, ◌++◌, codes, decimal, flat_map, length, replicate}
use Rattle.cf_base.specs.Common.{money_of}
use Rattle.cf_calls.specs.declared.reply.Row.{Row}

abbrev pub blanks : ℕ → List ℕ
blanks n = replicate n 32

-- the text filled to so many places; a longer text keeps its own length
abbrev pub filled : ℕ → List ℕ → List ℕ
filled places text = text ++ blanks (places - length text)

-- the text at the right of so many places
abbrev pub right_in : ℕ → List ℕ → List ℕ
right_in places text = blanks (places - length text) ++ text

abbrev pub amount_text : ℤ → List ℕ
amount_text amount = right_in 20 (money_of amount)

-- the label, which is filled where amounts follow it
abbrev pub label_text : List ℕ → List ℤ → List ℕ
label_text label [] = label
label_text label (amount ∷ more) = filled 40 label

abbrev pub row_line : Row → List ℕ
row_line row = label_text row.label row.amounts ++ flat_map amount_text row.amounts ++ 10 ∷ []

-- a row of a count: plain digits
abbrev pub count_line : List ℕ → ℕ → List ℕ
count_line label count = filled 40 label ++ (right_in 20 (decimal count) ++ 10 ∷ [])

-- the title line, and a line for each row
abbrev pub statement_text : List ℕ → List Row → List ℕ
statement_text title_line rows = title_line ++ 10 ∷ flat_map row_line rows

-- the title line of a city's statement of a fiscal year, but for its newline
abbrev pub title_line : List ℕ → List ℕ → ℕ → List ℕ
title_line city title year =
    city ++ (codes ": " ++ (title ++ (codes ", fiscal year " ++ decimal year)))
