use Rattle.std.proofs.Common.{rules}
use Rattle.cf_turns.proofs.Moves.{splits_number, joins_number}
use Rattle.cf_turns.proofs.recorder.Recorder.fail.Goals as goal

pub split_seat-number-requires : goal.split_seat-number-requires
split_seat-number-requires c = (search rules, search rules, splits_number _ _)

pub join_seat-requires : goal.join_seat-requires
join_seat-requires c = (search rules, search rules, search rules, search rules, joins_number _ _ _ _)

pub split_seat-back-requires : goal.split_seat-back-requires
split_seat-back-requires c = (search rules, search rules, splits_number _ _)

pub join_seat-requires-2 : goal.join_seat-requires-2
join_seat-requires-2 c = (search rules, search rules, search rules, search rules, joins_number _ _ _ _)
