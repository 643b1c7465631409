use Rattle.std.proofs.Common.{rules}
use Rattle.cf_turns.proofs.Moves.{splits_pass}
use Rattle.cf_turns.proofs.recorder.Recorder.open_pass.Goals as goal

pub split_seat-seat-requires : goal.split_seat-seat-requires
split_seat-seat-requires c = (search rules, search rules, splits_pass _ _ c.self.invariant.records)
