use Rattle.cf_model.specs.Common.{sums_of}
use Rattle.cf_books_lists.proofs.RowLines.{of_comparison}
use Rattle.cf_books_lists.proofs.statement.statement_text.Goals as goal

pub returns-in_err-rows-clause-lines : goal.returns-in_err-rows-clause-lines
returns-in_err-rows-clause-lines g c =
    let book = c.args.book.now in
    of_comparison (sums_of book.plan book.entries) c.args.year book.plan

pub returns-clause-lines : goal.returns-clause-lines
returns-clause-lines g c =
    let book = c.args.book.now in
    of_comparison (sums_of book.plan book.entries) c.args.year book.plan
