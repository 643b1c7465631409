use Rattle.std.proofs.Common.{[], ◌∷◌}
use Rattle.cf_turns.proofs.recorder.Recorder.fail.Given as goal

-- the call goes with the number that the seat was lent
abbrev pub ghosts-note_failed : goal.ghosts-note_failed
ghosts-note_failed a = record { calls = (a.call.value, a.seat.now.me.0.number) ∷ [] }
