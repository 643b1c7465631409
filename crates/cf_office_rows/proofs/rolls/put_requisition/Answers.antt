use Rattle.std.proofs.Common.{◌∙◌, sym}
use Rattle.cf_office_rows.specs.Rolls.{requisition_rows}
use Rattle.cf_office_rows.proofs.Rolled.{none_added, none_released}
use Rattle.cf_office_rows.proofs.rolls.put_requisition.Goals as goal

pub returns-in-Some : goal.returns-in-Some
returns-in-Some c =
    let plan = c.args.chart.now in
    let s = c.args.orders.now.documents in
    none_added c.args.out.now.items (requisition_rows plan c.args.place c.args.year s.holds c.args.number)
    (none_released plan s c.args.on c.args.place c.args.number c.args.year _ c.requires.released (sym c.check.ensures ∙ c.in-Some.is))
