-- The calls of a history, taken one after another.
use Rattle.std.specs.Prelude.{List, [], ◌∷◌, map}
use Rattle.cf_model.specs.Common.{Call, Entry, next_of}
use Rattle.cf_calls.specs.declared.call.Call.TheVariants as call
use Rattle.cf_chart.specs.Common.{Plan}

-- the calls of entries, in order
abbrev pub calls_of : List Entry → List Call
calls_of entries = map (λ e. call.Change e.change) entries

-- the history that the office's step leaves behind each call in turn
abbrev pub after_calls : Plan → List Entry → List Call → List Entry
after_calls plan history [] = history
after_calls plan history (c ∷ later) = after_calls plan (next_of plan history c) later
