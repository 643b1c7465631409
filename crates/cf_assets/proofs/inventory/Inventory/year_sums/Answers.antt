use Rattle.std.proofs.Common.{length, map, sum_by, arith}
use Rattle.cf_assets.specs.Rows.{view_asset}
use Rattle.cf_assets.specs.Years.{bought_in, given_in, let_in, book_in}
use Rattle.cf_register_parts.proofs.Cells.{year_is}
use Rattle.cf_assets.proofs.Keeping.{year_most, bought_most, given_most, let_most, book_most}
use Rattle.cf_assets.proofs.inventory.Inventory.year_sums.Goals as goal

pub returns-clause-most_bought : goal.returns-clause-most_bought
returns-clause-most_bought c =
    let rows = c.self.inside.rows.items in
    let was = c.self.invariant in
    let year = c.args.year in
    omega (arith, c.amount_in.ensures, year_is (λ y. sum_by (bought_in y) (map view_asset rows)) c.self.inside.outlay year was.outlay c.requires.from c.requires.to, year_most bought_in bought_most (length c.self.inside.accumulated.items) rows was.rows was.few year)

pub returns-clause-most_given : goal.returns-clause-most_given
returns-clause-most_given c =
    let rows = c.self.inside.rows.items in
    let was = c.self.invariant in
    let year = c.args.year in
    omega (arith, c.amount_in-2.ensures, year_is (λ y. sum_by (given_in y) (map view_asset rows)) c.self.inside.donated year was.donated c.requires.from c.requires.to, year_most given_in given_most (length c.self.inside.accumulated.items) rows was.rows was.few year)

pub returns-clause-most_leased : goal.returns-clause-most_leased
returns-clause-most_leased c =
    let rows = c.self.inside.rows.items in
    let was = c.self.invariant in
    let year = c.args.year in
    omega (arith, c.amount_in-3.ensures, year_is (λ y. sum_by (let_in y) (map view_asset rows)) c.self.inside.leased year was.leased c.requires.from c.requires.to, year_most let_in let_most (length c.self.inside.accumulated.items) rows was.rows was.few year)

pub returns-clause-most_gone : goal.returns-clause-most_gone
returns-clause-most_gone c =
    let rows = c.self.inside.rows.items in
    let closed = length c.self.inside.accumulated.items in
    let was = c.self.invariant in
    let year = c.args.year in
    omega (arith, c.amount_in-4.ensures, year_is (λ y. sum_by (book_in closed y) (map view_asset rows)) c.self.inside.disposals year was.disposals c.requires.from c.requires.to, year_most (book_in closed) (book_most closed) closed rows was.rows was.few year)
