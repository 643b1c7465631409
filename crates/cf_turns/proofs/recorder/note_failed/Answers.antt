use Rattle.std.proofs.Common.{rules}
use Rattle.cf_turns.proofs.Moves.{fails}
use Rattle.cf_turns.proofs.recorder.note_failed.Goals as goal

pub load-requires : goal.load-requires
load-requires g c = (search rules, search rules, fails _ _ _ _ _ c.requires.told c.requires.records c.requires.lent)
