use Rattle.std.proofs.Common.{rules}
use Rattle.cf_base.proofs.Common.{wraps}
use Rattle.cf_books_month.proofs.amounts.less.Goals as goal

pub returns : goal.returns
returns c = search (rules, wraps)
