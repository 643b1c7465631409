use Rattle.std.proofs.Common.{rules}
use Rattle.cf_turns.proofs.Moves.{joins_ask, hears}
use Rattle.cf_turns.proofs.recorder.Recorder.hear.Goals as goal

pub join_seat-requires : goal.join_seat-requires
join_seat-requires c = (search rules, search rules, search rules, search rules, joins_ask _ _ _ _)

pub load-requires : goal.load-requires
load-requires c = (search rules, search rules, hears _ _ _ (search rules))
