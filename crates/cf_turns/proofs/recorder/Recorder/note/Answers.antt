use Rattle.std.proofs.Common.{rules}
use Rattle.cf_turns.proofs.Moves.{splits_note}
use Rattle.cf_turns.proofs.recorder.Recorder.note.Goals as goal

pub split_seat-seat-requires : goal.split_seat-seat-requires
split_seat-seat-requires c = (search rules, search rules, splits_note _ _)
