use Rattle.std.proofs.Common.{rules}
use Rattle.cf_turns.proofs.Moves.{records}
use Rattle.cf_turns.proofs.recorder.add.Goals as goal

pub fetch_add-requires : goal.fetch_add-requires
fetch_add-requires g c = (search rules, search rules, records _ _ _ _ _ c.requires.told c.requires.records c.requires.lent c.requires.few)
