-- The lines of a receipt and of a bill as calls: compact, their fields in rising order.
use Rattle.std.specs.Prelude.{ℕ, List, [], ◌∷◌, ◌++◌, None, codes}
use Rattle.serde_json.specs.Data.{Data, string}
use Rattle.cf_base.specs.declared.calendar.Day.{Day}
use Rattle.cf_calls.specs.declared.acts.Act.{Act}
use Rattle.cf_calls.specs.declared.acts.NewBill.{NewBill}
use Rattle.cf_calls.specs.declared.call.Change.{Change}
use Rattle.cf_calls.specs.declared.items.SourceAmount.{SourceAmount}
use Rattle.cf_json_members.specs.Objects.{fields, count, day, text_of}

-- who sends a call, under which key, for which day
pub record Hand : Type 0 where
  pub desk : ℕ
  pub key : List ℕ
  pub on : Day

-- the change of an act, whose caller states no length
abbrev pub change_of : Hand → Act → Change
change_of h a = record { desk = h.desk; key = h.key; on = h.on; after = None; act = a }

abbrev pub receipt_data : Hand → SourceAmount → Data
receipt_data h r =
    fields ((codes "amount", count r.amount) ∷ (codes "call", string (codes "receive"))
    ∷ (codes "desk", count h.desk) ∷ (codes "key", string h.key)
    ∷ (codes "on", day h.on) ∷ (codes "source", count r.source) ∷ [])

abbrev pub bill_data : Hand → NewBill → Data
bill_data h b =
    fields ((codes "amount", count b.amount) ∷ (codes "call", string (codes "bill"))
    ∷ (codes "desk", count h.desk) ∷ (codes "key", string h.key)
    ∷ (codes "levy_year", count b.levy_year) ∷ (codes "on", day h.on)
    ∷ (codes "payer", count b.payer) ∷ (codes "source", count b.source) ∷ [])

-- a line ends with a newline
abbrev pub receipt_line : Hand → SourceAmount → List ℕ
receipt_line h r = text_of (receipt_data h r) ++ 10 ∷ []

abbrev pub bill_line : Hand → NewBill → List ℕ
bill_line h b = text_of (bill_data h b) ++ 10 ∷ []
