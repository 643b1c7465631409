-- Each entry of a legal history is in form.
use Rattle.std.proofs.Common.{List, [], ◌∷◌, ◌++◌}
use Rattle.cf_base.proofs.Common.{All-cons, All-nil}
use Rattle.cf_calls.specs.Common.{IsChangeInForm}
use Rattle.cf_model.specs.Common.{Entry, IsLegal, IsLegalAfter}
use Rattle.cf_chart.specs.Common.{Plan}
use Rattle.cf_books_payments.specs.Entering.{AreInForm}

forms_after : (plan : Plan) (seen later : List Entry) → IsLegalAfter plan seen later → AreInForm later
forms_after plan seen [] legal = All-nil (λ (x : Entry). IsChangeInForm x.change)
forms_after plan seen (e ∷ later) legal =
    All-cons (λ (x : Entry). IsChangeInForm x.change) e later legal.0.form (forms_after plan (seen ++ e ∷ []) later legal.1)

pub forms : (plan : Plan) (history : List Entry) → IsLegal plan history → AreInForm history
forms plan history legal = forms_after plan [] history legal
