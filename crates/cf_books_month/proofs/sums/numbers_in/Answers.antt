use Rattle.std.proofs.Common.{◌∙◌, ◌<◌, ap, sym, subst, length}
use Rattle.cf_office_history.specs.RestState.{RestState}
use Rattle.cf_books_month.specs.Sums.{numbers_through}
use Rattle.cf_books_month.proofs.sums.numbers_in.Goals as goal

pub numbers-requires-clause-line : goal.numbers-requires-clause-line
numbers-requires-clause-line c = subst (λ (r : RestState). c.args.line < length r.plan.lines) (sym c.requires.same) c.requires.line

pub returns : goal.returns
unfolding numbers_through
returns c =
    let s = c.args.sums.now in
    c.numbers.ensures ∙ ap (λ (r : RestState). numbers_through r.plan r.entries c.args.line c.args.year s.day) c.requires.same
