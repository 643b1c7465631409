use Rattle.std.proofs.Common.{rules}
use Rattle.cf_turns.proofs.Moves.{asks, splits_ask}
use Rattle.cf_turns.proofs.pass.Pass.ask.Goals as goal

pub load-value-requires : goal.load-value-requires
load-value-requires c = (search rules, search rules, asks _ _ _)

pub split_seat-seat-requires : goal.split_seat-seat-requires
split_seat-seat-requires c = (search rules, search rules, splits_ask _ _)
