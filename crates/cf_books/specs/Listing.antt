-- A row an entry: its place, day, desk, key and call, its amount, and the numbers that it drew.
use Rattle.std.specs.Prelude.{ℕ, ◌+◌, ℤ, Bool, List, [], ◌∷◌, ◌++◌, Option, codes, decimal}
use Rattle.cf_base.specs.Common.{day_text}
use Rattle.cf_model.specs.Common.{Entry}
use Rattle.cf_json_calls.specs.CallText.{call_word}
use Rattle.cf_books_payments.specs.Payments.{Payable, amount_after, none_payable, payable_after}
use Rattle.cf_books_lists.specs.Records.{drawn_text, head_text, money_if, rows_text}

abbrev pub entry_row : ℕ → Option ℤ → Entry → List (List ℕ)
entry_row place amount e =
    decimal place ∷ day_text e.change.on ∷ decimal e.change.desk ∷ e.change.key
    ∷ call_word e.change.act ∷ money_if amount ∷ drawn_text e.drawn.number
    ∷ drawn_text e.drawn.second ∷ []

-- places are counted from 1; the amount of a payment is by the entries before it
abbrev pub entry_rows : Payable → ℕ → List Entry → List (List (List ℕ))
entry_rows s place [] = []
entry_rows s place (e ∷ es) =
    entry_row place (amount_after s e.drawn e.change.act) e
    ∷ entry_rows (payable_after s e) (place + 1) es

-- the names of the columns
abbrev pub header : List (List ℕ)
header = codes "place" ∷ codes "day" ∷ codes "desk" ∷ codes "key" ∷ codes "call" ∷ codes "amount"
    ∷ codes "number" ∷ codes "second" ∷ []

abbrev pub list_text : Bool → List Entry → List ℕ
list_text csv entries = head_text csv header ++ rows_text csv (entry_rows none_payable 1 entries)
