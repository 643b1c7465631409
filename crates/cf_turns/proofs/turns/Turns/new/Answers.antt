use Rattle.cf_turns.proofs.Moves.{begins}
use Rattle.cf_turns.proofs.turns.Turns.new.Goals as goal

pub of_words-requires : goal.of_words-requires
of_words-requires c = begins
