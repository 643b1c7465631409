-- The calls of a generated run, and the history that the office's step makes of them.
use Rattle.std.specs.Prelude.{ℕ, zero, suc, ◌+◌, List, [], ◌∷◌, ◌++◌, Option, Some, None}
use Rattle.cf_calls.specs.declared.call.Call.TheVariants as call
use Rattle.cf_model.specs.Common.{Change, Drawn, Entry, Verdict, Accept, next_of}
use Rattle.cf_chart.specs.Common.{Plan}
use Rattle.cf_run_generate.specs.Acts.{act_of, adoption, change_of, month_close, receipt}
use Rattle.cf_run_generate.specs.Turns.{first_turn, turn_after}
use Rattle.cf_run_generate.specs.declared.turn.Turn.{Turn}
use Rattle.cf_run_generate.specs.declared.city.TheConstants.{CITY}

-- the numbers of an accepted change
abbrev pub drawn_by : Verdict → Option Drawn
drawn_by (Accept d) = Some d
drawn_by _ = None

-- the entry of a change that draws these numbers
abbrev pub entry_by : Change → Drawn → Entry
entry_by c d = record { change = record c { after = None }; drawn = d }

-- the document that states the city's chart
unfoldable pub chart_text : List ℕ
chart_text = CITY.now

-- budgets of 10^12 cents a line ..
abbrev pub adoptions : List Change
adoptions = change_of 1 (adoption 1 0 30) ∷ change_of 2 (adoption 2 30 8)
    ∷ change_of 3 (adoption 3 38 2) ∷ []

-- .. and 10^13 cents received in each fund
abbrev pub receipts : List Change
receipts = change_of 4 (receipt 4 10000000000000) ∷ change_of 5 (receipt 5 10000000000000)
    ∷ change_of 6 (receipt 6 10000000000000) ∷ []

-- so many drawn calls from a number and a turn on
unfoldable pub drawn : ℕ → ℕ → Turn → List Change
drawn zero number t = []
drawn (suc left) number t = change_of number (act_of t) ∷ drawn left (number + 1) (turn_after t)

-- the calls of a run
abbrev pub calls : ℕ → List Change
calls n = adoptions
    ++ (receipts ++ (drawn n 7 (first_turn n) ++ change_of (n + 7) month_close ∷ []))

-- the history after changes, by the office's step
abbrev pub after : Plan → List Entry → List Change → List Entry
after plan history [] = history
after plan history (c ∷ cs) = after plan (next_of plan history (call.Change c)) cs

abbrev pub generated : Plan → ℕ → List Entry
generated plan n = after plan [] (calls n)
