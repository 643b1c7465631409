use Rattle.std.proofs.Common.{[], ◌∷◌}
use Rattle.cf_turns.proofs.recorder.Recorder.record.Given as goal

-- the entry goes with the number that the seat was lent
abbrev pub ghosts-add : goal.ghosts-add
ghosts-add a = record { entries = (a.entry.now, a.seat.now.me.0.number) ∷ [] }
