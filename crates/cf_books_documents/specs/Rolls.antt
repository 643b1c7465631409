-- The rolls of fiscal years (GASB Codification 1700: the fiscal period), and what they do to
-- documents.
use Rattle.std.specs.Prelude.{ℕ, Bool, false, ◌+◌, ◌==◌, ◌&&◌, nat_lt, nat_le, if◌then◌else◌, List, [], ◌∷◌, ◌++◌, Option, Some, None, insert, fold, length, position}
use Rattle.cf_model.specs.Common.{Entry, rolled_year}
use Rattle.cf_chart.specs.Common.{Plan}
use Rattle.cf_books_documents.specs.declared.event.Deed.{Deed}
use Rattle.cf_books_documents.specs.declared.event.Deed.TheVariants as deed
use Rattle.cf_books_documents.specs.declared.event.Event.{Event}
use Rattle.cf_books_documents.specs.declared.facts.Facts.{Facts}
use Rattle.cf_books_documents.specs.declared.rolls.Roll.{Roll}
use Rattle.cf_books_documents.specs.Facts.{is_lapsed, subject_of}

abbrev pub roll_if : ℕ → Option ℕ → List Roll
roll_if place None = []
roll_if place (Some year) = record { year = year; place = place } ∷ []

abbrev pub rolls_from : Plan → ℕ → List Entry → List Roll
rolls_from plan place [] = []
rolls_from plan place (e ∷ later) =
    roll_if place (rolled_year plan e.change.act) ++ rolls_from plan (place + 1) later

-- the closes of the last months of fiscal years, in order
abbrev pub rolls_of : Plan → List Entry → List Roll
rolls_of plan history = rolls_from plan 1 history

abbrev pub place_or : ℕ → Option ℕ → ℕ
place_or n None = n
place_or n (Some at) = at

-- how many events stand before the first of a later place
abbrev pub events_before : ℕ → List Event → ℕ
events_before place events = place_or (length events) (position (λ v. nat_lt place v.place) events)

-- an event among others: before the first of a later place
abbrev pub placed : Event → List Event → List Event
placed e events = insert events (events_before e.place events) e

abbrev pub is_since : Option ℕ → ℕ → Bool
is_since None year = false
is_since (Some first) year = nat_le first year

-- what the roll of a year does to a document that is of another year now, or lapsed: each roll from
-- the document's first year to the one before its present year carried it, and that of its present
-- year let it lapse, where its state says that it lapsed
abbrev pub rolled : Facts → ℕ → Option ℕ → Option Deed
rolled f year None = None
rolled f year (Some now) =
    if is_since f.first year && nat_lt year now then Some deed.Carried
    else (if (year == now) && is_lapsed f.state then Some deed.Lapsed else None)

abbrev pub with_deed : Facts → List Event → Roll → Option Deed → List Event
with_deed f events r None = events
with_deed f events r (Some d) =
    placed (record {
      subject = subject_of f.kind;
      number = f.number;
      item = f.item;
      deed = d;
      place = r.place;
    }) events

abbrev pub with_roll : Facts → List Event → Roll → List Event
with_roll f events r = with_deed f events r (rolled f r.year f.year)

-- the events of a document with what rolls did to it, in the order of their places
abbrev pub with_rolls : Facts → List Roll → List Event → List Event
with_rolls f rolls events = fold (with_roll f) events rolls
