use Rattle.std.proofs.Common.{◌-◌, subst, length, map, sum_by, ◌∙◌, arith}
use Rattle.cf_assets.specs.Inventory.{Inventory, AreKept}
use Rattle.cf_assets.specs.Rows.{view_asset}
use Rattle.cf_assets.specs.Years.{let_in}
use Rattle.cf_assets.proofs.Keeping.{year_most, let_most, kept}
use Rattle.cf_register_parts.proofs.Cells.{cells_to, cells_most, to_most}
use Rattle.cf_assets.proofs.inventory.Inventory.leased_through.Goals as goal
use Rattle.cf_register_parts.specs.Limits.{most_total}

pub total_through-requires : goal.total_through-requires
total_through-requires c =
    let rows = c.self.inside.rows.items in
    let was = c.self.invariant in
    omega (arith, cells_most (λ y. sum_by (let_in y) (map view_asset rows)) c.self.inside.leased most_total was.leased (year_most let_in let_most (length c.self.inside.accumulated.items) rows was.rows was.few))

pub returns-clause-value : goal.returns-clause-value
returns-clause-value c =
    let rows = c.self.inside.rows.items in
    let n = c.args.year - 1969 in
    rw (← c.self.view_is) (c.total_through.ensures ∙ cells_to (λ y. sum_by (let_in y) (map view_asset rows)) c.self.inside.leased c.self.invariant.leased n (omega (arith, c.requires)))

pub returns-clause-most : goal.returns-clause-most
returns-clause-most c =
    let rows = c.self.inside.rows.items in
    let was = c.self.invariant in
    let n = c.args.year - 1969 in
    omega (
      arith,
      c.requires,
      c.total_through.ensures ∙ cells_to (λ y. sum_by (let_in y) (map view_asset rows)) c.self.inside.leased was.leased n (omega (arith, c.requires)),
      to_most (λ y. sum_by (let_in y) (map view_asset rows)) most_total (year_most let_in let_most (length c.self.inside.accumulated.items) rows was.rows was.few) n,
    )

pub returns-clause-first : goal.returns-clause-first
returns-clause-first c = subst (λ (i : Inventory). AreKept i.assets) c.self.view_is (kept (length c.self.inside.accumulated.items) c.self.inside.rows.items c.self.invariant.rows)
