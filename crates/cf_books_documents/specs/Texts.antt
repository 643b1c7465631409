-- Texts of the fields of a row.
use Rattle.std.specs.Prelude.{ℕ, ◌+◌, ◌==◌, if◌then◌else◌, List, [], ◌∷◌, ◌++◌, Option, Some, None, codes, decimal}
use Rattle.cf_base.specs.Common.{day_text}
use Rattle.cf_model.specs.Common.{Entry}
use Rattle.cf_books_documents.specs.Events.{deed_word}
use Rattle.cf_books_documents.specs.declared.event.Event.{Event}

-- the day and the key of a payment
abbrev pub paid_text : Option Entry → List ℕ
paid_text None = []
paid_text (Some e) = day_text e.change.on

abbrev pub run_text : Option Entry → List ℕ
run_text None = []
run_text (Some e) = e.change.key

abbrev pub event_text : Event → List ℕ
event_text v = deed_word v.deed ++ (codes " " ++ decimal v.place)

-- what stands before what an entry did, by its place among others, from 0
abbrev pub lead : ℕ → List ℕ
lead nth = if nth == 0 then [] else codes "; "

-- what entries did, the first of which has this place
abbrev pub events_text : ℕ → List Event → List ℕ
events_text nth [] = []
events_text nth (v ∷ later) = (lead nth ++ event_text v) ++ events_text (nth + 1) later
