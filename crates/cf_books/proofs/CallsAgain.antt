-- The calls of a legal history make that history again.
use Rattle.std.proofs.Common.{◌≡◌, List, [], ◌∷◌, ◌++◌, ap, ◌∙◌, append_assoc, append-nil, sym}
use Rattle.cf_calls.specs.declared.call.Call.TheVariants as call
use Rattle.cf_model.specs.Common.{Entry, Adds, IsLegal, IsLegalAfter, next_of}
use Rattle.cf_chart.specs.Common.{Plan}
use Rattle.cf_books.specs.Again.{calls_of, after_calls}

-- the step adds an entry for its own change
next_of-Adds : (plan : Plan) (history : List Entry) (e : Entry) → Adds plan history e → next_of plan history (call.Change e.change) ≡ history ++ e ∷ []
next_of-Adds plan history e adds = rw (adds.accepts, adds.after)

after_calls-from : (plan : Plan) (seen later : List Entry) → IsLegalAfter plan seen later → after_calls plan seen (calls_of later) ≡ seen ++ later
after_calls-from plan seen [] legal = sym (append-nil seen)
after_calls-from plan seen (e ∷ later) legal =
    ap (λ h. after_calls plan h (calls_of later)) (next_of-Adds plan seen e legal.0)
    ∙ after_calls-from plan (seen ++ e ∷ []) later legal.1
    ∙ append_assoc seen (e ∷ []) later

pub after_calls-legal : (plan : Plan) (history : List Entry) → IsLegal plan history → after_calls plan [] (calls_of history) ≡ history
after_calls-legal plan history legal = after_calls-from plan [] history legal
