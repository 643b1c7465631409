use Rattle.std.proofs.Common.{◌-◌, length, map, sum_by, ◌∙◌, arith}
use Rattle.cf_assets.specs.Rows.{view_asset}
use Rattle.cf_assets.specs.Years.{book_in}
use Rattle.cf_assets.proofs.Keeping.{year_most, book_most}
use Rattle.cf_register_parts.proofs.Cells.{cells_to, cells_most, to_most}
use Rattle.cf_assets.proofs.inventory.Inventory.gone_through.Goals as goal
use Rattle.cf_register_parts.specs.Limits.{most_total}

pub total_through-requires : goal.total_through-requires
total_through-requires c =
    let rows = c.self.inside.rows.items in
    let closed = length c.self.inside.accumulated.items in
    let was = c.self.invariant in
    omega (arith, cells_most (λ y. sum_by (book_in closed y) (map view_asset rows)) c.self.inside.disposals most_total was.disposals (year_most (book_in closed) (book_most closed) closed rows was.rows was.few))

pub returns-clause-value : goal.returns-clause-value
returns-clause-value c =
    let rows = c.self.inside.rows.items in
    let closed = length c.self.inside.accumulated.items in
    let n = c.args.year - 1969 in
    rw (← c.self.view_is) (c.total_through.ensures ∙ cells_to (λ y. sum_by (book_in closed y) (map view_asset rows)) c.self.inside.disposals c.self.invariant.disposals n (omega (arith, c.requires)))

pub returns-clause-most : goal.returns-clause-most
returns-clause-most c =
    let rows = c.self.inside.rows.items in
    let closed = length c.self.inside.accumulated.items in
    let was = c.self.invariant in
    let n = c.args.year - 1969 in
    omega (
      arith,
      c.requires,
      c.total_through.ensures ∙ cells_to (λ y. sum_by (book_in closed y) (map view_asset rows)) c.self.inside.disposals was.disposals n (omega (arith, c.requires)),
      to_most (λ y. sum_by (book_in closed y) (map view_asset rows)) most_total (year_most (book_in closed) (book_most closed) closed rows was.rows was.few) n,
    )
