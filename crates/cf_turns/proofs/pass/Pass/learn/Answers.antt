use Rattle.std.proofs.Common.{rules}
use Rattle.cf_turns.proofs.Moves.{joins_note, learns}
use Rattle.cf_turns.proofs.pass.Pass.learn.Goals as goal

pub join_seat-requires : goal.join_seat-requires
join_seat-requires c = (search rules, search rules, search rules, search rules, joins_note _ _ _ _)

pub load-requires : goal.load-requires
load-requires c = (search rules, search rules, learns _ _ _ (search rules))
