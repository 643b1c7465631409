-- The entries of each legal history are dated, and their acts are in form.
use Rattle.std.proofs.Common.{List, [], ◌∷◌}
use Rattle.cf_base.proofs.Common.{AllByRecursion}
use Rattle.cf_model.specs.Common.{Entry, IsLegal}
use Rattle.cf_chart.specs.Common.{Plan}
use Rattle.cf_model.proofs.Common.{all_sound}
use Rattle.cf_model.proofs.Bounds.{IsSound}
use Rattle.cf_books_documents.specs.Dated.{IsDated}

all_dated : (plan : Plan) (history : List Entry) → AllByRecursion (IsSound plan) history → AllByRecursion IsDated history
all_dated plan [] all = tt
all_dated plan (e ∷ later) all = (record { day = all.0.form.on; act = all.0.form.act }, all_dated plan later all.1)

pub legal_dated : (plan : Plan) (history : List Entry) → IsLegal plan history → AllByRecursion IsDated history
legal_dated plan history legal = all_dated plan history (all_sound plan history legal)
