use Rattle.std.proofs.Common.{◌≤◌, length}
use Rattle.cf_pool_cash.proofs.Sizes.{moves_fit}
use Rattle.cf_pool_cash.proofs.moves.open_with_moves.Goals as goal

pub returns-in-Ok-clause-few : goal.returns-in-Ok-clause-few
returns-in-Ok-clause-few g c =
    let few : length c.in-Ok.book.plan.functions ≤ 64 = rw (← c.chart.ensures, ← c.functions-few.ensures.value) c.functions-few.ensures.few in
    rw (c.in-Ok.ensures.watched c.new.ensures.items) (moves_fit c.in-Ok.book.plan c.in-Ok.book.entries few c.in-Ok.ensures.sound)
