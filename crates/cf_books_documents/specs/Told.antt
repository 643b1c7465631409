-- What a history did to each of its documents.
use Rattle.std.specs.Prelude.{ℕ, Bool, ◌==◌, ◌&&◌, ◌||◌, List}
use Rattle.std.specs.List.{filter}
use Rattle.cf_model.specs.Common.{Entry}
use Rattle.cf_chart.specs.Common.{Plan}
use Rattle.cf_books_documents.specs.Events.{events_of, is_same}
use Rattle.cf_books_documents.specs.Facts.{subject_of}
use Rattle.cf_books_documents.specs.Indexed.{Known, numbered}
use Rattle.cf_books_documents.specs.Rolls.{rolls_of, with_rolls}
use Rattle.cf_books_documents.specs.declared.event.Event.{Event}
use Rattle.cf_books_documents.specs.declared.event.Subject.{Subject}
use Rattle.cf_books_documents.specs.declared.facts.Facts.{Facts}

-- the events of each number in what the entries did, and the rolls of fiscal years
abbrev pub told_of : Plan → List Entry → Known
told_of plan history =
    record { events = λ n. numbered n (events_of plan history); rolls = rolls_of plan history }

-- whether an event of a document's number is of a document: of all of it, or of the item
abbrev pub is_own : Subject → ℕ → Event → Bool
is_own subject item v = is_same v.subject subject && ((v.item == 0) || (v.item == item))

-- what was done to a document: what entries did that name it, and what rolls did to it, oldest
-- first
abbrev pub document_events : Known → Facts → List Event
document_events t f =
    with_rolls f t.rolls (filter (is_own (subject_of f.kind) f.item) (t.events f.number))
