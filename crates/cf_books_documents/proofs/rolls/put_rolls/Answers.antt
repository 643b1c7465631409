use Rattle.std.proofs.Common.{◌∙◌}
use Rattle.cf_books_documents.specs.Rolls.{with_roll}
use Rattle.cf_books_documents.proofs.Folding.{fold_on}
use Rattle.cf_books_documents.proofs.rolls.put_rolls.Goals as goal

pub loop-roll-preserved : goal.loop-roll-preserved
loop-roll-preserved c =
    fold_on (with_roll c.args.facts.now) c.loop-roll.events.items c.put_rolled.new.events.items c.args.rolls.now c.loop-roll.roll-index _ c.loop-roll-test.true c.in_ok-put_rolled.ensures
    ∙ c.loop-roll.invariant
