use Rattle.cf_books_month.specs.Sums.{received, spent}
use Rattle.cf_books_month.proofs.Departments.{departments_add}
use Rattle.cf_books_month.proofs.Months.{months_add}
use Rattle.cf_books_month.proofs.Totals.{total_is}
use Rattle.cf_books_month.proofs.month.months_add_up.Goals as goal

pub returns-clause-spent : goal.returns-clause-spent
returns-clause-spent c =
    let rest = c.args.rest.now in
    λ line year. months_add (spent rest.plan rest.entries line year)

pub returns-clause-received : goal.returns-clause-received
returns-clause-received c =
    let rest = c.args.rest.now in
    λ source year. months_add (received rest.plan rest.entries source year)

pub returns-clause-totals : goal.returns-clause-totals
returns-clause-totals c = total_is

pub returns-clause-departments : goal.returns-clause-departments
returns-clause-departments c = λ bytes read. departments_add bytes c.args.rest.now.plan c.args.rest.now.entries read
