use Rattle.std.proofs.Common.{◌≡◌, List, ℤ, ap, subst, ◌∙◌, arith}
use Rattle.cf_base.proofs.Common.{common_steps, to_z-of_z, with_items, with_items_is}
use mir.Syntax.{w128}
use Rattle.cf_ledger.specs.Places.{Rows, cells_of, cells_at, PutsCells}
use Rattle.cf_ledger.specs.Years.{raised}
use Rattle.cf_ledger.proofs.PlaceRows.{put_reads, put_cells, put_same}
use Rattle.cf_ledger.proofs.places.raise_at.Goals as goal

pub returns-in-Some-clause-cells : goal.returns-in-Some-clause-cells
returns-in-Some-clause-cells c =
    let row = with_items c.in-Some.cells.now c.raise.new.cells in
    let old : Rows = c.args.rows.now.entries in
    let new : Rows = (c.get_mut.follows.lender row).entries in
    let had : c.in-Some.cells.now.items ≡ cells_at old c.args.place.fund c.args.place.account = ap cells_of c.in-Some.ensures.value in
    let kept : row.items ≡ c.raise.new.cells = with_items_is c.in-Some.cells.now c.raise.new.cells (c.raise.auto.cells ∙ c.as_mut_slice.ensures.len) in
    let is : row.items ≡ raised (cells_at old c.args.place.fund c.args.place.account) c.args.year c.args.amount =
    kept ∙ c.raise.ensures ∙ (λ i. raised ((c.as_mut_slice.ensures.value ∙ had) i) c.args.year (to_z-of_z w128 c.args.amount c.ranges.amount i)) in
    subst (λ (cells : List ℤ). PutsCells old new c.args.place.fund c.args.place.account cells) is
    (put_cells old new c.args.place.fund c.args.place.account row (put_reads old new c.args.place row (λ q. grind (arith, common_steps))))

pub returns-in-Some-clause-same : goal.returns-in-Some-clause-same
returns-in-Some-clause-same c =
    let row = with_items c.in-Some.cells.now c.raise.new.cells in
    let old : Rows = c.args.rows.now.entries in
    let new : Rows = (c.get_mut.follows.lender row).entries in
    put_same old new c.args.place.fund c.args.place.account row (put_reads old new c.args.place row (λ q. grind (arith, common_steps))) c.requires.reserved
