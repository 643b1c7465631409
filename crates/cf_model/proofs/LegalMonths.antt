-- The closed months of a legal history are the first so many.
use Rattle.std.proofs.Common.{List}
use Rattle.cf_calls.specs.declared.entry.Entry.{Entry}
use Rattle.cf_chart.specs.Common.{Plan}
use Rattle.cf_model.specs.Common.{registers_of, Adds, IsLegal}
use Rattle.cf_model.proofs.Accepted.{accepted}
use Rattle.cf_model.proofs.Lawful.{closes_next}
use Rattle.cf_model.proofs.Legal.{legal_induction}
use Rattle.cf_model.proofs.MonthNumbers.{HasCalendar, ClosedAre, ClosesNext, closed_first, closed_push}

-- an accepted close names the next month
pub next_named : (plan : Plan) (h : List Entry) (e : Entry) → HasCalendar plan → Adds plan h e → ClosesNext plan (registers_of plan h) e.change.act
next_named plan h e calendar adds = closes_next plan (registers_of plan h) calendar e.change.act (accepted plan h e adds).order

pub closed_are : (plan : Plan) (history : List Entry) → HasCalendar plan → IsLegal plan history → ClosedAre plan history
closed_are plan history calendar legal =
    legal_induction plan (ClosedAre plan) (closed_first plan calendar) (λ h e are adds. closed_push plan h e are (next_named plan h e calendar adds)) history legal
