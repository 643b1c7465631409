use Rattle.std.proofs.Common.{◌<◌, arith}
use Rattle.cf_books_days.proofs.SameText.{text_all}
use Rattle.cf_books_days.proofs.statement.same_where_all.Goals as goal

pub returns : goal.returns
returns c =
    let rest = c.args.rest.now in
    let year : c.args.year < 2201 = omega (arith, c.requires.to) in
    λ all. text_all c.args.csv rest.plan c.args.day rest.entries c.args.year c.args.kind c.entries-legal.ensures.legal c.entries-legal.ensures.few year all
