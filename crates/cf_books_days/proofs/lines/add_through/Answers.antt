use Rattle.std.proofs.Common.{◌∙◌, sym}
use Rattle.cf_base.proofs.Common.{on_ok_weaker}
use Rattle.cf_books_days.proofs.LineSums.{added_through, skipped_through}
use Rattle.cf_books_days.proofs.lines.add_through.Goals as goal

pub returns-then-is_through : goal.returns-then-is_through
returns-then-is_through c =
    on_ok_weaker c.add.result (added_through c.args.day c.args.lines.now c.add.new.self c.args.change.now (sym c.is_through.ensures ∙ c.if-is_through.true)) c.add.ensures

pub returns-else-is_through : goal.returns-else-is_through
returns-else-is_through c = skipped_through c.args.day c.args.lines.now c.args.change.now (sym c.is_through.ensures ∙ c.if-is_through.false)
