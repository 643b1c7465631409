use Rattle.std.proofs.Common.{◌++◌, ap, sym, ◌∙◌}
use Rattle.cf_base.proofs.Common.{on_ok_weaker}
use Rattle.cf_journal_book.specs.Watching.{all_posted, shown_as}
use Rattle.cf_pool_cash.specs.Moves.{day_moves}
use Rattle.cf_pool_cash.proofs.Seen.{moves_push}
use Rattle.cf_pool_cash.proofs.moves.GatheredWatch.see.Goals as goal

pub returns : goal.returns
returns c =
    let on = c.args.entry.now.change.on in
    let fund = c.args.fund.now in
    λ history was next.
    on_ok_weaker c.put_moves.result
    (λ put.
    put ∙ ap (λ t. t ++ day_moves on fund) was
    ∙ sym (moves_push (all_posted c.args._chart.now history) (shown_as c.args._place c.args.entry.now c.args._before.now.registers fund c.args._gov.now)))
    c.put_moves.ensures
