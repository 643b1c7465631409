use Rattle.std.proofs.Common.{◌≡◌, ◌+◌, ◌-◌, ◌<◌, inl, inr, sym, ap, ◌∙◌, Some, arith, length, map}
use Rattle.cf_base.proofs.Common.{length-map}
use Rattle.cf_assets.specs.Rows.{view_asset}
use Rattle.cf_assets.proofs.Finding.{no_number, found_number, number_alone}
use Rattle.cf_assets.proofs.Keeping.{IsAt, numbered, viewed}
use Rattle.cf_assets.proofs.inventory.Inventory.find.Goals as goal
use Rattle.cf_assets.proofs.inventory.Inventory.find.Goals.{then-number-eq0-via-then-number-eq0, then-number-eq0-via-else-number-eq0+then-number-len}

pub returns-then-number-eq0-clause-value : goal.returns-then-number-eq0-clause-value
returns-then-number-eq0-clause-value c =
    let rows = c.self.inside.rows.items in
    let are = numbered (length c.self.inside.accumulated.items) rows c.self.invariant.rows in
    rw (← c.self.view_is) (elim c.then-number-eq0.branch [
      | then-number-eq0-via-then-number-eq0 w ↦ sym (no_number (map view_asset rows) c.args.number are (inl w.if-number-eq0.true))
      | then-number-eq0-via-else-number-eq0+then-number-len w ↦ sym (no_number (map view_asset rows) c.args.number are (inr (omega (arith, w.len.ensures, w.if-number-len.true, length-map rows view_asset))))
    ])

pub returns-then-number-eq0-clause-alone : goal.returns-then-number-eq0-clause-alone
returns-then-number-eq0-clause-alone c =
    let rows = c.self.inside.rows.items in
    rw (← c.self.view_is) (number_alone (map view_asset rows) c.args.number (numbered (length c.self.inside.accumulated.items) rows c.self.invariant.rows))

pub returns-clause-value : goal.returns-clause-value
returns-clause-value c =
    let rows = c.self.inside.rows.items in
    let r = c.index.result.now in
    let n : c.args.number ≡ (c.args.number - 1) + 1 = omega (arith, c.if-number-eq0.false) in
    let l : c.args.number - 1 < length rows = omega (arith, n, c.len.ensures, c.if-number-len.false) in
    let at : IsAt (c.args.number - 1) rows r = record { within = l; is = c.index.ensures } in
    rw (← c.self.view_is)
    (sym (found_number (map view_asset rows) c.args.number (c.args.number - 1) (view_asset r) (numbered (length c.self.inside.accumulated.items) rows c.self.invariant.rows) (omega (arith, l, length-map rows view_asset)) n
    ∙ ap Some (viewed (c.args.number - 1) rows r (view_asset r) at)))

pub returns-clause-alone : goal.returns-clause-alone
returns-clause-alone c =
    let rows = c.self.inside.rows.items in
    rw (← c.self.view_is) (number_alone (map view_asset rows) c.args.number (numbered (length c.self.inside.accumulated.items) rows c.self.invariant.rows))
