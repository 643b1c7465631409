use Rattle.std.proofs.Common.{rules}
use Rattle.cf_turns.proofs.Moves.{splits_receipts, joins_pass, ends}
use Rattle.cf_turns.proofs.recorder.Recorder.end_pass.Goals as goal

pub split_seat-seat-requires : goal.split_seat-seat-requires
split_seat-seat-requires c = (search rules, search rules, splits_receipts _ _)

pub join_seat-requires : goal.join_seat-requires
join_seat-requires c = (search rules, search rules, search rules, search rules, joins_pass _ _ _ _)

pub load-requires : goal.load-requires
load-requires c = (search rules, search rules, ends _ _ _ (search rules) (search rules))
