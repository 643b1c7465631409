use Rattle.std.proofs.Common.{◌+◌, ◌-◌, subst, length, map, sum_by, ◌∙◌, arith}
use Rattle.cf_assets.specs.Inventory.{Inventory, AreKept}
use Rattle.cf_assets.specs.Rows.{view_asset}
use Rattle.cf_assets.specs.Years.{bought_in, given_in}
use Rattle.cf_assets.proofs.Keeping.{year_most, bought_most, given_most, kept}
use Rattle.cf_register_parts.proofs.Cells.{cells_to, cells_most, to_most}
use Rattle.cf_assets.proofs.inventory.Inventory.acquired_through.Goals as goal
use Rattle.cf_register_parts.specs.Limits.{most_total}

pub total_through-requires : goal.total_through-requires
total_through-requires c =
    let rows = c.self.inside.rows.items in
    let was = c.self.invariant in
    omega (arith, cells_most (λ y. sum_by (bought_in y) (map view_asset rows)) c.self.inside.outlay most_total was.outlay (year_most bought_in bought_most (length c.self.inside.accumulated.items) rows was.rows was.few))

pub total_through-requires-2 : goal.total_through-requires-2
total_through-requires-2 c =
    let rows = c.self.inside.rows.items in
    let was = c.self.invariant in
    omega (arith, cells_most (λ y. sum_by (given_in y) (map view_asset rows)) c.self.inside.donated most_total was.donated (year_most given_in given_most (length c.self.inside.accumulated.items) rows was.rows was.few))

pub overflow_add-result : goal.overflow_add-result
overflow_add-result c =
    let rows = c.self.inside.rows.items in
    let was = c.self.invariant in
    let n = c.args.year - 1969 in
    omega (
      arith,
      c.requires,
      c.total_through.ensures ∙ cells_to (λ y. sum_by (bought_in y) (map view_asset rows)) c.self.inside.outlay was.outlay n (omega (arith, c.requires)),
      c.total_through-2.ensures ∙ cells_to (λ y. sum_by (given_in y) (map view_asset rows)) c.self.inside.donated was.donated n (omega (arith, c.requires)),
      to_most (λ y. sum_by (bought_in y) (map view_asset rows)) most_total (year_most bought_in bought_most (length c.self.inside.accumulated.items) rows was.rows was.few) n,
      to_most (λ y. sum_by (given_in y) (map view_asset rows)) most_total (year_most given_in given_most (length c.self.inside.accumulated.items) rows was.rows was.few) n,
    )

pub returns-clause-value : goal.returns-clause-value
returns-clause-value c =
    let rows = c.self.inside.rows.items in
    let was = c.self.invariant in
    let n = c.args.year - 1969 in
    rw (← c.self.view_is)
    (λ i. (c.total_through.ensures ∙ cells_to (λ y. sum_by (bought_in y) (map view_asset rows)) c.self.inside.outlay was.outlay n (omega (arith, c.requires))) i
    + (c.total_through-2.ensures ∙ cells_to (λ y. sum_by (given_in y) (map view_asset rows)) c.self.inside.donated was.donated n (omega (arith, c.requires))) i)

pub returns-clause-most : goal.returns-clause-most
returns-clause-most c =
    let rows = c.self.inside.rows.items in
    let was = c.self.invariant in
    let n = c.args.year - 1969 in
    omega (
      arith,
      c.requires,
      c.total_through.ensures ∙ cells_to (λ y. sum_by (bought_in y) (map view_asset rows)) c.self.inside.outlay was.outlay n (omega (arith, c.requires)),
      c.total_through-2.ensures ∙ cells_to (λ y. sum_by (given_in y) (map view_asset rows)) c.self.inside.donated was.donated n (omega (arith, c.requires)),
      to_most (λ y. sum_by (bought_in y) (map view_asset rows)) most_total (year_most bought_in bought_most (length c.self.inside.accumulated.items) rows was.rows was.few) n,
      to_most (λ y. sum_by (given_in y) (map view_asset rows)) most_total (year_most given_in given_most (length c.self.inside.accumulated.items) rows was.rows was.few) n,
    )

pub returns-clause-first : goal.returns-clause-first
returns-clause-first c = subst (λ (i : Inventory). AreKept i.assets) c.self.view_is (kept (length c.self.inside.accumulated.items) c.self.inside.rows.items c.self.invariant.rows)
