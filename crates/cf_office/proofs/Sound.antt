-- A legal history is sound.
use Rattle.std.proofs.Common.{◌≤◌, ◌+◌, List, ◌∷◌, ◌++◌, [], length, length-append, ◌≡◌, arith}
use Rattle.cf_base.specs.Common.{most_entries}
use Rattle.cf_model.specs.Common.{Entry, IsSoundState, Adds, IsLegal}
use Rattle.cf_chart.specs.Common.{Plan}
use Rattle.cf_model.proofs.Common.{accepted_fits, each_balances, cash_at_each, IsWhole, legal_push, changes_at_each, reconciles_at_each, room_always}

pub legal_sound : (plan : Plan) (h : List Entry) → IsWhole plan → IsLegal plan h → length h ≤ most_entries → IsSoundState (record { plan = plan; entries = h })
legal_sound plan h whole legal few = record {
  legal = legal;
  few = few;
  control = λ n. room_always plan h legal n;
  cash = cash_at_each plan h legal;
  balanced = each_balances plan h;
  reconciles = reconciles_at_each plan h whole legal;
  changes = changes_at_each plan h whole legal;
}

-- with an entry more that the step adds
pub sound_push : (plan : Plan) (h : List Entry) (e : Entry) → IsWhole plan → IsLegal plan h → Adds plan h e → IsSoundState (record { plan = plan; entries = h ++ e ∷ [] })
sound_push plan h e whole legal adds =
    let one : length (h ++ e ∷ []) ≡ length h + 1 = length-append h (e ∷ []) in
    legal_sound plan (h ++ e ∷ []) whole (legal_push plan h e legal adds) (omega (arith, one, accepted_fits plan h e adds))
